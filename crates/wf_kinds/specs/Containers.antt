-- What is asked of actions that hold actions (Workflow Definition Language, "Control workflow action types").
use Rattle.std.specs.Prelude.{ℕ, List, [], ◌∷◌, map, Bool, true, false, not, ◌&&◌, ◌||◌, Option, Some, None, is_some, codes}
use Rattle.std.specs.List.{list_any}
use Rattle.std.specs.Ordering.{is_eq}
use Rattle.wf_retry.specs.Duration.{is_duration}
use Rattle.wf_val.specs.ValueOrder.{order}
use Rattle.wf_val.specs.ValueTree.{ValueTree, number, text, object, Member, pairs}
use Rattle.wf_val.specs.Get.{get}
use Rattle.wf_kinds.specs.Conditions.{is_a_condition}
use Rattle.wf_kinds.specs.Parts.{absent_or, get_in, is_list, is_text, is_whole_from_to}

abbrev pub scope_has : ValueTree → Bool
scope_has t = is_some (get (codes "actions") t)

abbrev pub if_has : ValueTree → Bool
if_has t = is_a_condition (get (codes "expression") t)

-- ---- a Switch

-- what a case stands for: a text or a whole number, as it is written
abbrev pub is_literal : ValueTree → Bool
is_literal (text s) = true
is_literal (number n) = true
is_literal t = false

abbrev pub is_same : ValueTree → Option ValueTree → Bool
is_same t None = false
is_same t (Some u) = is_eq (order t u)

-- each is there, and a literal, and no two are the same
abbrev pub are_apart : List (Option ValueTree) → Bool
are_apart [] = true
are_apart (None ∷ others) = false
are_apart (Some t ∷ others) = is_literal t && not (list_any (is_same t) others) && are_apart others

abbrev pub case_of : Member → Option ValueTree
case_of m = get (codes "case") m.1

abbrev pub are_cases : Option ValueTree → Bool
are_cases (Some (object ms)) = are_apart (map case_of (pairs ms))
are_cases t = false

abbrev pub switch_has : ValueTree → Bool
switch_has t = is_text (get (codes "expression") t) && are_cases (get (codes "cases") t)

-- ---- loops

-- how many iterations of a Foreach may run at once
abbrev pub repetitions : ValueTree → Option ValueTree
repetitions t = get_in (codes "repetitions") (get_in (codes "concurrency") (get (codes "runtimeConfiguration") t))

abbrev pub is_concurrency : ValueTree → Bool
is_concurrency = is_whole_from_to 1 50

abbrev pub foreach_has : ValueTree → Bool
foreach_has t = (is_text (get (codes "foreach") t) || is_list (get (codes "foreach") t)) && absent_or is_concurrency (repetitions t)

-- a member of an Until's `limit`
abbrev pub limit : List ℕ → ValueTree → Option ValueTree
limit name t = get_in name (get (codes "limit") t)

abbrev pub is_turns : ValueTree → Bool
is_turns = is_whole_from_to 1 5000

abbrev pub is_time : ValueTree → Bool
is_time (text s) = is_duration s
is_time t = false

abbrev pub until_has : ValueTree → Bool
until_has t =
    is_a_condition (get (codes "expression") t) && absent_or is_turns (limit (codes "count") t) && absent_or is_time (limit (codes "timeout") t)
