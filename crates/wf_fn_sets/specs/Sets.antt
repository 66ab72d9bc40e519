-- Lists and objects taken together (Workflow Definition Language, collection functions union and intersection).
use Rattle.std.specs.Prelude.{ℕ, suc, Bool, List, [], ◌∷◌, ◌-◌, length, Option, Some, Result, Ok, Err, is_some, slice_get, unwrap_or}
use Rattle.std.specs.Prelude.{if◌then◌else◌}
use Rattle.std.specs.List.{list_all, filter, fold, flat_map}
use Rattle.wf_val.specs.Arguments.{Answer, given, list_of, object_of, wrong_type, bounded}
use Rattle.wf_val.specs.Get.{name_of, value_of}
use Rattle.wf_val.specs.NameOrder.{put_named}
use Rattle.wf_val.specs.ValueTree.{ValueTree, list, object, members, Member}
use Rattle.wf_val.specs.declared.fault.EvalFault.{EvalFault}
use Rattle.wf_val.specs.declared.function.Fun.{Fun}
use Rattle.wf_fn_list.specs.Membership.{is_among}
use Rattle.wf_fn_list.specs.Parts.{listed}

-- each value once, in order of first occurrence, but none of those that stood before
abbrev pub distinct_after : List ValueTree → List ValueTree → List ValueTree
distinct_after before [] = []
distinct_after before (x ∷ xs) = if is_among before x then distinct_after before xs else x ∷ distinct_after (x ∷ before) xs

abbrev pub distinct : List ValueTree → List ValueTree
distinct xs = distinct_after [] xs

-- the items that each of other lists has too
abbrev pub in_all : List (List ValueTree) → List ValueTree → List ValueTree
in_all others xs = filter (λ x. list_all (λ ys. is_among ys x) others) xs

-- the distinct items of the first list that all lists have
abbrev pub common_items : List (List ValueTree) → List ValueTree
common_items [] = []
common_items (xs ∷ others) = distinct (in_all others xs)

-- the distinct items of all lists
abbrev pub union_items : List (List ValueTree) → List ValueTree
union_items lists = distinct (flat_map (λ xs. xs) lists)

-- members put in turn: of two of one name the later stands
abbrev pub put_all : List Member → List Member → List Member
put_all ms more = fold (λ all m. put_named name_of m all) ms more

-- the members of all objects
abbrev pub union_members : List (List Member) → List Member
union_members objects = put_all [] (flat_map (λ ms. ms) objects)

-- whether each object has a member of the name
abbrev pub all_have : List (List Member) → List ℕ → Bool
all_have objects name = list_all (λ ms. is_some (value_of name ms)) objects

-- the members of the last object whose names all objects have
abbrev pub common_members : List (List Member) → List Member
common_members objects = filter (λ m. all_have objects m.0) (unwrap_or (slice_get objects (length objects - 1)) [])

-- what each argument has, from a place on; the leftmost that is of another type is the fault
abbrev pub each_from : {X : Type 0} → (ℕ → Option ValueTree → Result X EvalFault) → ℕ → List ValueTree → Result (List X) EvalFault
each_from part i [] = Ok []
each_from part i (t ∷ ts) = given (part i (Some t)) (λ x. given (each_from part (suc i) ts) (λ xs. Ok (x ∷ xs)))

-- arguments that have to be lists, or objects, taken together
abbrev pub lists_together : Fun → (List (List ValueTree) → List ValueTree) → List ValueTree → Answer
lists_together f taken ts = given (each_from (list_of f) 0 ts) (λ lists. bounded (listed (taken lists)))

abbrev pub objects_together : Fun → (List (List Member) → List Member) → List ValueTree → Answer
objects_together f taken ts = given (each_from (object_of f) 0 ts) (λ objects. bounded (object (members (taken objects))))

-- the first argument says which
abbrev pub taken_together : Fun → (List (List ValueTree) → List ValueTree) → (List (List Member) → List Member) → List ValueTree
    → Option ValueTree → Answer
taken_together f of_lists of_objects ts (Some (list xs)) = lists_together f of_lists ts
taken_together f of_lists of_objects ts (Some (object ms)) = objects_together f of_objects ts
taken_together f of_lists of_objects ts t = Err (wrong_type f 0)

abbrev pub union_row : List ValueTree → Answer
union_row ts = taken_together Fun.Union union_items union_members ts (slice_get ts 0)

abbrev pub intersection_row : List ValueTree → Answer
intersection_row ts = taken_together Fun.Intersection common_items common_members ts (slice_get ts 0)
