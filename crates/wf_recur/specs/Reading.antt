-- The recurrence that a trigger has, or why it has none whose moments can be told: it is of another type, something isn't of the form,
-- it counts in another zone.
use Rattle.std.specs.Prelude.{ℕ, List, [], ◌∷◌, Bool, false, Option, Some, None, Result, Ok, Err, codes, replicate, unwrap_or}
use Rattle.std.specs.Prelude.{if◌then◌else◌}
use Rattle.std.specs.Str.{str_eq_ignore_ascii_case}
use Rattle.wf_json.specs.Pointer.{least}
use Rattle.wf_places.specs.Form.{places}
use Rattle.wf_val.specs.Get.{get}
use Rattle.wf_val.specs.ValueTree.{ValueTree, text, list, items}
use Rattle.wf_recur.specs.Asked.{frequency_in, interval_in, moment_in, place_in}
use Rattle.wf_recur.specs.RecurrenceForm.{recurrence_form}
use Rattle.wf_recur.specs.Sets.{with}
use Rattle.wf_recur.specs.declared.fault.RecurrenceFault.{RecurrenceFault}
use Rattle.wf_recur.specs.declared.frequency.Frequency.{Frequency}
use Rattle.wf_recur.specs.declared.part.Part.{Part}
use Rattle.wf_recur.specs.declared.recurrence.Recurrence.{Recurrence}

abbrev pub member_of : List ℕ → Option ValueTree → Option ValueTree
member_of name (Some t) = get name t
member_of name None = None

-- the set with the place that a value names
abbrev pub with_place : Option ℕ → List Bool → List Bool
with_place (Some n) set = with n set
with_place None set = set

abbrev pub with_value : Part → ValueTree → List Bool → List Bool
with_value part t set = with_place (place_in part t) set

-- the set with those that values name
abbrev pub with_values : Part → List ValueTree → List Bool → List Bool
with_values part [] set = set
with_values part (t ∷ ts) set = with_values part ts (with_value part t set)

-- a member names one value, or a list of them
abbrev pub with_member : Part → Option ValueTree → List Bool → List Bool
with_member part (Some (list ts)) set = with_values part (items ts) set
with_member part (Some t) set = with_value part t set
with_member part None set = set

-- the set of none of the numbers below a bound
abbrev pub empty : ℕ → List Bool
empty bound = replicate bound false

abbrev pub frequency_or_second : Option ValueTree → Frequency
frequency_or_second (Some t) = unwrap_or (frequency_in t) Frequency.Second
frequency_or_second None = Frequency.Second

abbrev pub interval_or_one : Option ValueTree → ℕ
interval_or_one (Some t) = unwrap_or (interval_in t) 1
interval_or_one None = 1

abbrev pub start_or_none : Option ValueTree → Option ℕ
start_or_none (Some t) = moment_in t
start_or_none None = None

-- What a value of the form means; what isn't of the form has no say.
abbrev pub meant : Option ValueTree → Recurrence
meant r = record {
  frequency = frequency_or_second (member_of (codes "frequency") r);
  interval = interval_or_one (member_of (codes "interval") r);
  start = start_or_none (member_of (codes "startTime") r);
  hours = with_member Part.Hour (member_of (codes "hours") (member_of (codes "schedule") r)) (empty 24);
  minutes = with_member Part.Minute (member_of (codes "minutes") (member_of (codes "schedule") r)) (empty 60);
  days = with_member Part.WeekDay (member_of (codes "weekDays") (member_of (codes "schedule") r)) (empty 7);
}

abbrev pub is_recurrence : Option ValueTree → Bool
is_recurrence (Some (text s)) = str_eq_ignore_ascii_case s (codes "Recurrence")
is_recurrence t = false

abbrev pub text_in : Option ValueTree → Option (List ℕ)
text_in (Some (text s)) = Some s
text_in t = None

abbrev pub is_utc : List ℕ → Bool
is_utc name = str_eq_ignore_ascii_case name (codes "UTC")

-- of a recurrence in a zone, which may be left out
abbrev pub in_zone : Option ValueTree → Option (List ℕ) → Result Recurrence RecurrenceFault
in_zone r None = Ok (meant r)
in_zone r (Some name) = if is_utc name then Ok (meant r) else Err (RecurrenceFault.Zone name)

abbrev pub of_form : ValueTree → Option (List ℕ) → Result Recurrence RecurrenceFault
of_form t (Some pointer) = Err (RecurrenceFault.Form pointer)
of_form t None =
    let r = get (codes "recurrence") t in in_zone r (text_in (member_of (codes "timeZone") r))

-- all, in the order of the faults
abbrev pub recurrence_of : ValueTree → Result Recurrence RecurrenceFault
recurrence_of t =
    if is_recurrence (get (codes "type") t) then of_form t (least (places recurrence_form Part.Trigger t))
    else Err RecurrenceFault.NotRecurrence
