-- Rows at worked values: each example, each fault with its function and place, and the edges.
use Rattle.std.proofs.Common.{◌≡◌, ℕ, ◌-◌, refl, List, [], ◌∷◌, Ok, Err, true, false}
use Rattle.std.specs.Prelude.{pos, negsuc, codes}
use Rattle.wf_val.specs.ValueTree.{ValueTree, null, boolean, number, text, object, members, Member}
use Rattle.wf_val.specs.declared.fault.EvalFault.{EvalFault}
use Rattle.wf_val.specs.declared.function.Fun.{Fun}
use Rattle.wf_fn_list.specs.Parts.{listed}
use Rattle.wf_fn_sets.specs.Sets.{union_row, intersection_row}
use Rattle.wf_fn_sets.specs.Sorting.{sort_row}

-- a number, and one so far below 0
abbrev num : ℕ → ValueTree
num n = number (pos n)

abbrev below : ℕ → ValueTree
below n = number (negsuc (n - 1))

abbrev obj : List Member → ValueTree
obj ms = object (members ms)

-- an object with a key by which is sorted, and a mark
abbrev keyed : ℕ → ℕ → ValueTree
keyed key mark = obj ((codes "k", num key) ∷ (codes "v", num mark) ∷ [])

-- union
union-lists : union_row (listed (num 1 ∷ num 2 ∷ []) ∷ listed (num 2 ∷ boolean true ∷ num 3 ∷ []) ∷ [])
    ≡ Ok (listed (num 1 ∷ num 2 ∷ boolean true ∷ num 3 ∷ []))
union-lists = refl

union-one_in_itself : union_row (listed (num 1 ∷ num 1 ∷ []) ∷ listed [] ∷ []) ≡ Ok (listed (num 1 ∷ []))
union-one_in_itself = refl

union-three : union_row (listed (num 3 ∷ []) ∷ listed (num 1 ∷ num 3 ∷ []) ∷ listed (num 2 ∷ num 1 ∷ []) ∷ [])
    ≡ Ok (listed (num 3 ∷ num 1 ∷ num 2 ∷ []))
union-three = refl

union-nested : union_row (listed (listed (num 1 ∷ []) ∷ obj [] ∷ []) ∷ listed (listed (num 1 ∷ []) ∷ obj [] ∷ listed [] ∷ []) ∷ [])
    ≡ Ok (listed (listed (num 1 ∷ []) ∷ obj [] ∷ listed [] ∷ []))
union-nested = refl

union-objects : union_row (obj ((codes "a", num 1) ∷ (codes "c", num 2) ∷ []) ∷ obj ((codes "b", num 3) ∷ (codes "c", num 4) ∷ []) ∷ [])
    ≡ Ok (obj ((codes "a", num 1) ∷ (codes "b", num 3) ∷ (codes "c", num 4) ∷ []))
union-objects = refl

union-later_value : union_row (obj ((codes "a", num 1) ∷ []) ∷ obj ((codes "a", num 2) ∷ []) ∷ obj ((codes "a", num 3) ∷ []) ∷ [])
    ≡ Ok (obj ((codes "a", num 3) ∷ []))
union-later_value = refl

union-no_members : union_row (obj [] ∷ obj [] ∷ []) ≡ Ok (obj [])
union-no_members = refl

union-object_among_lists : union_row (listed (num 1 ∷ []) ∷ obj [] ∷ []) ≡ Err (EvalFault.WrongType Fun.Union 2)
union-object_among_lists = refl

union-third : union_row (listed (num 1 ∷ []) ∷ listed (num 2 ∷ []) ∷ null ∷ []) ≡ Err (EvalFault.WrongType Fun.Union 3)
union-third = refl

union-leftmost : union_row (obj [] ∷ num 1 ∷ num 2 ∷ []) ≡ Err (EvalFault.WrongType Fun.Union 2)
union-leftmost = refl

union-list_among_objects : union_row (obj [] ∷ obj ((codes "a", num 1) ∷ []) ∷ listed [] ∷ [])
    ≡ Err (EvalFault.WrongType Fun.Union 3)
union-list_among_objects = refl

union-text : union_row (text (codes "a") ∷ text (codes "b") ∷ []) ≡ Err (EvalFault.WrongType Fun.Union 1)
union-text = refl

-- intersection
intersection-lists : intersection_row (listed (num 1 ∷ num 2 ∷ num 3 ∷ []) ∷ listed (num 3 ∷ num 2 ∷ num 4 ∷ []) ∷ [])
    ≡ Ok (listed (num 2 ∷ num 3 ∷ []))
intersection-lists = refl

intersection-order_of_first : intersection_row (listed (num 3 ∷ num 1 ∷ num 2 ∷ []) ∷ listed (num 1 ∷ num 2 ∷ num 3 ∷ []) ∷ [])
    ≡ Ok (listed (num 3 ∷ num 1 ∷ num 2 ∷ []))
intersection-order_of_first = refl

intersection-once : intersection_row (listed (num 1 ∷ num 1 ∷ num 2 ∷ []) ∷ listed (num 1 ∷ num 2 ∷ []) ∷ [])
    ≡ Ok (listed (num 1 ∷ num 2 ∷ []))
intersection-once = refl

intersection-three :
    intersection_row (listed (num 1 ∷ num 2 ∷ num 3 ∷ []) ∷ listed (num 2 ∷ num 3 ∷ []) ∷ listed (num 3 ∷ num 1 ∷ []) ∷ [])
    ≡ Ok (listed (num 3 ∷ []))
intersection-three = refl

intersection-kinds : intersection_row (listed (num 1 ∷ boolean true ∷ []) ∷ listed (boolean true ∷ []) ∷ [])
    ≡ Ok (listed (boolean true ∷ []))
intersection-kinds = refl

intersection-none : intersection_row (listed (num 1 ∷ []) ∷ listed [] ∷ []) ≡ Ok (listed [])
intersection-none = refl

intersection-objects :
    intersection_row (obj ((codes "a", num 1) ∷ (codes "b", num 2) ∷ []) ∷ obj ((codes "b", num 3) ∷ (codes "c", num 4) ∷ []) ∷ [])
    ≡ Ok (obj ((codes "b", num 3) ∷ []))
intersection-objects = refl

intersection-last_value :
    intersection_row (obj ((codes "a", num 1) ∷ []) ∷ obj ((codes "a", num 2) ∷ []) ∷ obj ((codes "a", num 3) ∷ []) ∷ [])
    ≡ Ok (obj ((codes "a", num 3) ∷ []))
intersection-last_value = refl

intersection-one_lacks :
    intersection_row (obj ((codes "a", num 1) ∷ []) ∷ obj ((codes "b", num 2) ∷ []) ∷ obj ((codes "a", num 3) ∷ []) ∷ [])
    ≡ Ok (obj [])
intersection-one_lacks = refl

intersection-no_list : intersection_row (listed (num 1 ∷ []) ∷ text (codes "a") ∷ [])
    ≡ Err (EvalFault.WrongType Fun.Intersection 2)
intersection-no_list = refl

intersection-no_object : intersection_row (obj [] ∷ obj [] ∷ listed [] ∷ [])
    ≡ Err (EvalFault.WrongType Fun.Intersection 3)
intersection-no_object = refl

intersection-null : intersection_row (null ∷ listed [] ∷ []) ≡ Err (EvalFault.WrongType Fun.Intersection 1)
intersection-null = refl

-- sort
sort-numbers : sort_row (listed (num 3 ∷ below 1 ∷ num 3 ∷ num 1 ∷ []) ∷ [])
    ≡ Ok (listed (below 1 ∷ num 1 ∷ num 3 ∷ num 3 ∷ []))
sort-numbers = refl

sort-texts : sort_row (listed (text (codes "b") ∷ text (codes "a") ∷ text (codes "B") ∷ text [] ∷ []) ∷ [])
    ≡ Ok (listed (text [] ∷ text (codes "B") ∷ text (codes "a") ∷ text (codes "b") ∷ []))
sort-texts = refl

sort-bytes : sort_row (listed (text (195 ∷ 169 ∷ []) ∷ text (codes "z") ∷ []) ∷ [])
    ≡ Ok (listed (text (codes "z") ∷ text (195 ∷ 169 ∷ []) ∷ []))
sort-bytes = refl

sort-none : sort_row (listed [] ∷ []) ≡ Ok (listed [])
sort-none = refl

sort-none_by_name : sort_row (listed [] ∷ text (codes "k") ∷ []) ≡ Ok (listed [])
sort-none_by_name = refl

sort-by_name : sort_row (listed (keyed 2 1 ∷ keyed 1 2 ∷ keyed 2 0 ∷ []) ∷ text (codes "k") ∷ [])
    ≡ Ok (listed (keyed 1 2 ∷ keyed 2 1 ∷ keyed 2 0 ∷ []))
sort-by_name = refl

sort-by_text :
    sort_row (listed (obj ((codes "k", text (codes "b")) ∷ []) ∷ obj ((codes "k", text (codes "a")) ∷ []) ∷ []) ∷ text (codes "k") ∷ [])
    ≡ Ok (listed (obj ((codes "k", text (codes "a")) ∷ []) ∷ obj ((codes "k", text (codes "b")) ∷ []) ∷ []))
sort-by_text = refl

sort-mixed : sort_row (listed (num 1 ∷ text (codes "a") ∷ []) ∷ []) ≡ Err (EvalFault.WrongType Fun.Sort 1)
sort-mixed = refl

sort-mixed_by_name :
    sort_row (listed (obj ((codes "k", num 1) ∷ []) ∷ obj ((codes "k", text (codes "a")) ∷ []) ∷ []) ∷ text (codes "k") ∷ [])
    ≡ Err (EvalFault.WrongType Fun.Sort 1)
sort-mixed_by_name = refl

sort-lacking : sort_row (listed (obj ((codes "k", num 1) ∷ []) ∷ obj ((codes "v", num 2) ∷ []) ∷ []) ∷ text (codes "k") ∷ [])
    ≡ Err (EvalFault.WrongType Fun.Sort 1)
sort-lacking = refl

sort-numbers_by_name : sort_row (listed (num 2 ∷ num 1 ∷ []) ∷ text (codes "k") ∷ [])
    ≡ Err (EvalFault.WrongType Fun.Sort 1)
sort-numbers_by_name = refl

sort-objects : sort_row (listed (obj [] ∷ obj [] ∷ []) ∷ []) ≡ Err (EvalFault.WrongType Fun.Sort 1)
sort-objects = refl

sort-true : sort_row (listed (boolean true ∷ boolean false ∷ []) ∷ []) ≡ Err (EvalFault.WrongType Fun.Sort 1)
sort-true = refl

sort-null : sort_row (listed (null ∷ []) ∷ []) ≡ Err (EvalFault.WrongType Fun.Sort 1)
sort-null = refl

sort-null_by_name : sort_row (listed (obj ((codes "k", null) ∷ []) ∷ []) ∷ text (codes "k") ∷ [])
    ≡ Err (EvalFault.WrongType Fun.Sort 1)
sort-null_by_name = refl

sort-no_list : sort_row (text (codes "ba") ∷ []) ≡ Err (EvalFault.WrongType Fun.Sort 1)
sort-no_list = refl

sort-no_name : sort_row (listed (num 1 ∷ []) ∷ num 1 ∷ []) ≡ Err (EvalFault.WrongType Fun.Sort 2)
sort-no_name = refl

sort-name_before_items : sort_row (listed (num 1 ∷ text (codes "a") ∷ []) ∷ null ∷ [])
    ≡ Err (EvalFault.WrongType Fun.Sort 2)
sort-name_before_items = refl
