-- What a member of inputs says, and what an absent one stands for. What isn't of the form has no say: inputs are read from a value of the
-- form alone.
use Rattle.std.specs.Prelude.{ℕ, pos, List, [], map, Option, Some, None, if◌then◌else◌, bytes_eq, codes}
use Rattle.wf_retry.specs.declared.policy.Outcome.{Outcome}
use Rattle.wf_val.specs.Cut.{cut_u32}
use Rattle.wf_val.specs.Get.{get}
use Rattle.wf_val.specs.ValueTree.{ValueTree, null, number, text, list, object, no_members, items, pairs, Member}
use Rattle.wf_answers.specs.AnswerTree.{AnswerTree}

abbrev pub text_or_empty : Option ValueTree → List ℕ
text_or_empty (Some (text s)) = s
text_or_empty t = []

abbrev pub text_or_none : Option ValueTree → Option (List ℕ)
text_or_none (Some (text s)) = Some s
text_or_none t = None

abbrev pub members_or_none : Option ValueTree → List Member
members_or_none (Some (object ms)) = pairs ms
members_or_none t = []

abbrev pub items_or_none : Option ValueTree → List ValueTree
items_or_none (Some (list ts)) = items ts
items_or_none t = []

abbrev pub value_or : ValueTree → Option ValueTree → ValueTree
value_or default (Some t) = t
value_or default None = default

abbrev pub index_of : ValueTree → ℕ
index_of (number (pos n)) = n
index_of t = 0

-- an answer that doesn't say for which attempt it is, is for the first
abbrev pub attempt_of : Option ValueTree → ℕ
attempt_of (Some (number (pos n))) = cut_u32 n
attempt_of t = 1

abbrev pub outcome_of : Option ValueTree → Outcome
outcome_of (Some (number (pos n))) = Outcome.Code (cut_u32 n)
outcome_of (Some (text s)) = if bytes_eq s (codes "timedOut") then Outcome.TimedOut else Outcome.NoConnection
outcome_of t = Outcome.NoConnection

abbrev pub answer_of : ValueTree → AnswerTree
answer_of t = record {
  address = record { name = text_or_empty (get (codes "action") t); at = map index_of (items_or_none (get (codes "at") t)) };
  attempt = attempt_of (get (codes "attempt") t);
  outcome = outcome_of (get (codes "status") t);
  headers = value_or (object no_members) (get (codes "headers") t);
  body = value_or null (get (codes "body") t);
}
