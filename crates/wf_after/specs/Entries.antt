-- What the entries of an action's `runAfter` may say (Workflow Definition Language, "Control the workflow action execution order").
-- A graph is the members of an object: actions by their names.
use Rattle.std.specs.Prelude.{ℕ, suc, List, [], ◌∷◌, Bool, false, not, ◌||◌, if◌then◌else◌, Option, Some, None, is_none, option_map}
use Rattle.std.specs.Prelude.{bytes_eq, codes}
use Rattle.std.specs.List.{list_all, list_any}
use Rattle.std.specs.Str.{str_eq_ignore_ascii_case}
use Rattle.wf_val.specs.ValueTree.{ValueTree, text, list, object, items, pairs, Member}
use Rattle.wf_val.specs.Get.{get}

-- the place of a name among the actions of a graph, counted from 0
abbrev pub place_in : List ℕ → List Member → Option ℕ
place_in name [] = None
place_in name (m ∷ ms) = if bytes_eq name m.0 then Some 0 else option_map suc (place_in name ms)

-- what an action runs after: the members of its `runAfter`, if that is an object
abbrev pub entries : Option ValueTree → List Member
entries (Some (object ms)) = pairs ms
entries t = []

abbrev pub entries_of : ValueTree → List Member
entries_of action = entries (get (codes "runAfter") action)

-- a status that an action may end with, but for Cancelled; the case of ASCII letters doesn't count
abbrev pub is_status : ValueTree → Bool
is_status (text s) =
    str_eq_ignore_ascii_case s (codes "Succeeded") || (str_eq_ignore_ascii_case s (codes "Failed")
    || (str_eq_ignore_ascii_case s (codes "Skipped") || str_eq_ignore_ascii_case s (codes "TimedOut")))
is_status t = false

abbrev pub are_statuses : ValueTree → Bool
are_statuses (list ts) = list_all is_status (items ts)
are_statuses t = false

-- an entry of the action `own` that names no other action of its graph, or whose value is no list of statuses
abbrev pub is_bad_entry : List Member → List ℕ → Member → Bool
is_bad_entry graph own entry = is_none (place_in entry.0 graph) || (bytes_eq own entry.0 || not (are_statuses entry.1))

abbrev pub has_bad_entry : List Member → Member → Bool
has_bad_entry graph action = list_any (is_bad_entry graph action.0) (entries_of action.1)
