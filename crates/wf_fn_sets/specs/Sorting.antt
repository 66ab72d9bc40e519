-- A stable sort (Workflow Definition Language, collection function sort).
use Rattle.std.specs.Prelude.{ℕ, Bool, true, false, ◌||◌, List, [], ◌∷◌, Option, Some, None, Err, unwrap_or, if◌then◌else◌}
use Rattle.std.specs.List.{list_all}
use Rattle.std.specs.Ordering.{is_lt}
use Rattle.wf_val.specs.Arguments.{Answer, given, list_at, optional_text_at, wrong_type, bounded}
use Rattle.wf_val.specs.Get.{get}
use Rattle.wf_val.specs.ValueOrder.{order}
use Rattle.wf_val.specs.ValueTree.{ValueTree, number, text}
use Rattle.wf_val.specs.declared.function.Fun.{Fun}
use Rattle.wf_fn_list.specs.Parts.{listed}

-- an item put behind those that it isn't below, by what items are sorted by
abbrev pub insert_behind : (ValueTree → ValueTree) → ValueTree → List ValueTree → List ValueTree
insert_behind key x [] = x ∷ []
insert_behind key x (y ∷ ys) = if is_lt (order (key x) (key y)) then x ∷ y ∷ ys else y ∷ insert_behind key x ys

-- items sorted into others, each in turn, so that one that comes later stands behind those that tie with it
abbrev pub sorted_onto : (ValueTree → ValueTree) → List ValueTree → List ValueTree → List ValueTree
sorted_onto key done [] = done
sorted_onto key done (x ∷ xs) = sorted_onto key (insert_behind key x done) xs

abbrev pub sorted : (ValueTree → ValueTree) → List ValueTree → List ValueTree
sorted key xs = sorted_onto key [] xs

-- what an item is judged by: its member of the name, or itself where no name is given
abbrev pub judged_by : Option (List ℕ) → ValueTree → Option ValueTree
judged_by None x = Some x
judged_by (Some name) x = get name x

abbrev pub is_number : Option ValueTree → Bool
is_number (Some (number n)) = true
is_number t = false

abbrev pub is_text : Option ValueTree → Bool
is_text (Some (text s)) = true
is_text t = false

-- items can be sorted where they are judged by numbers alone, or by texts alone
abbrev pub can_be_sorted : Option (List ℕ) → List ValueTree → Bool
can_be_sorted name xs = list_all (λ x. is_number (judged_by name x)) xs || list_all (λ x. is_text (judged_by name x)) xs

-- what an item is sorted by
abbrev pub sort_key : Option (List ℕ) → ValueTree → ValueTree
sort_key name x = unwrap_or (judged_by name x) x

abbrev pub sort_row : List ValueTree → Answer
sort_row ts = given (list_at Fun.Sort ts 0) (λ xs. given (optional_text_at Fun.Sort ts 1) (λ name.
    if can_be_sorted name xs then bounded (listed (sorted (sort_key name) xs)) else Err (wrong_type Fun.Sort 0)))
