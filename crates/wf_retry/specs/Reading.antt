-- Which policy a value is (Workflow Definition Language, "Retry policies").
use Rattle.std.specs.Prelude.{ℕ, ℤ, pos, Bool, true, false, ◌&&◌, ◌||◌, nat_le, List, Option, Some, None, Result, Ok, Err, if◌then◌else◌, codes}
use Rattle.std.specs.Str.{str_eq_ignore_ascii_case}
use Rattle.wf_val.specs.ValueTree.{ValueTree, text, number}
use Rattle.wf_val.specs.Get.{get}
use Rattle.wf_retry.specs.Duration.{is_duration}
use Rattle.wf_retry.specs.declared.policy.Policy.{Policy}
use Rattle.wf_retry.specs.declared.policy.PolicyFault.{PolicyFault}

-- a member that is there is a text, and a duration
abbrev pub is_interval : Option ValueTree → Bool
is_interval (Some (text s)) = is_duration s
is_interval t = false

abbrev pub is_interval_or_absent : Option ValueTree → Bool
is_interval_or_absent None = true
is_interval_or_absent (Some t) = is_interval (Some t)

-- `interval` is there and a duration, and so are the other two where they are there
abbrev pub are_intervals : ValueTree → Bool
are_intervals t = is_interval (get (codes "interval") t)
    && (is_interval_or_absent (get (codes "minimumInterval") t) && is_interval_or_absent (get (codes "maximumInterval") t))

-- a count that is a whole number, or 0
abbrev pub number_in : Option ValueTree → ℤ
number_in (Some (number n)) = n
number_in t = pos 0

-- a policy with a count: from 1 to 90, and then its intervals
abbrev pub policy_by_count : ℤ → Bool → Result Policy PolicyFault
policy_by_count (pos n) intervals =
    if nat_le 1 n && nat_le n 90
    then (if intervals then Ok (Policy.Count n) else Err PolicyFault.Interval)
    else Err (PolicyFault.Count (pos n))
policy_by_count z intervals = Err (PolicyFault.Count z)

-- a policy by its type, without the case of ASCII letters
abbrev pub policy_by : List ℕ → ValueTree → Result Policy PolicyFault
policy_by s t =
    if str_eq_ignore_ascii_case s (codes "default") then Ok Policy.Standard else
    (if str_eq_ignore_ascii_case s (codes "none") then Ok Policy.Never else
    (if str_eq_ignore_ascii_case s (codes "fixed") || str_eq_ignore_ascii_case s (codes "exponential")
    then policy_by_count (number_in (get (codes "count") t)) (are_intervals t)
    else Err PolicyFault.BadType))

abbrev pub policy_of_type : Option ValueTree → ValueTree → Result Policy PolicyFault
policy_of_type (Some (text s)) t = policy_by s t
policy_of_type value t = Err PolicyFault.BadType

-- the policy that a value is, or the first reason why it is none
abbrev pub policy_of : ValueTree → Result Policy PolicyFault
policy_of t = policy_of_type (get (codes "type") t) t
