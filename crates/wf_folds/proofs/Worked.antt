-- What is kept of arguments, at worked ones: each way to go on, each fault with its place, and each edge.
use Rattle.std.proofs.Common.{◌≡◌, ℕ, ◌+◌, ◌-◌, ◌^◌, refl, true, List, [], ◌∷◌, map, Ok, Err}
use Rattle.std.specs.List.{filter}
use Rattle.std.specs.Prelude.{pos, codes}
use Rattle.wf_val.specs.Function.{functions}
use Rattle.wf_val.specs.ValueTree.{ValueTree, null, boolean, number, list, object, trees, members}
use Rattle.wf_val.specs.declared.fault.EvalFault.{EvalFault}
use Rattle.wf_val.specs.declared.function.Fun.{Fun}
use Rattle.wf_folds.specs.Items.{one_more}
use Rattle.wf_folds.specs.Paired as two
use Rattle.wf_folds.specs.Paired.{at_place, paired_of, paired_answer}
use Rattle.wf_folds.specs.Pairing.{is_pairing}
use Rattle.wf_folds.specs.United as all
use Rattle.wf_folds.specs.United.{united_of, united_answer}

abbrev n : ℕ → ValueTree
n k = number (pos k)

abbrev numbers : List ℕ → ValueTree
numbers ks = list (trees (map n ks))

-- ---- arguments that are taken two by two

pairing-are_three : filter is_pairing functions ≡ Fun.Intersection ∷ Fun.Min ∷ Fun.Max ∷ []
pairing-are_three = refl

min-only : paired_of Fun.Min (numbers (3 ∷ 1 ∷ []) ∷ []) ≡ (Fun.Min, (two.only (numbers (3 ∷ 1 ∷ [])), 1))
min-only = refl

min-together : paired_of Fun.Min (n 3 ∷ n 1 ∷ n 2 ∷ []) ≡ (Fun.Min, (two.together (n 1), 3))
min-together = refl

min-first_wrong : paired_of Fun.Min (numbers (3 ∷ []) ∷ n 1 ∷ n 2 ∷ []) ≡ (Fun.Min, (two.refused (EvalFault.WrongType Fun.Min 1), 3))
min-first_wrong = refl

max-third_wrong :
    paired_of Fun.Max (n 3 ∷ n 1 ∷ boolean true ∷ null ∷ [])
    ≡ (Fun.Max, (two.refused (EvalFault.WrongType Fun.Max 3), 4))
max-third_wrong = refl

intersection-together :
    paired_of Fun.Intersection (numbers (3 ∷ 1 ∷ 3 ∷ 2 ∷ []) ∷ numbers (2 ∷ 3 ∷ []) ∷ [])
    ≡ (Fun.Intersection, (two.together (numbers (3 ∷ 2 ∷ [])), 2))
intersection-together = refl

intersection-of_one : paired_answer (paired_of Fun.Intersection (numbers [] ∷ [])) ≡ Err (EvalFault.WrongType Fun.Intersection 2)
intersection-of_one = refl

place-last : at_place (2 ^ 32 - 2) (Err (EvalFault.WrongType Fun.Min 2)) ≡ Err (EvalFault.WrongType Fun.Min (2 ^ 32 - 1))
place-last = refl

place-past : at_place (2 ^ 32) (Err (EvalFault.WrongType Fun.Min 2)) ≡ Err (EvalFault.WrongType Fun.Min (2 ^ 32 - 1))
place-past = refl

place-of_another_fault : at_place 5 (Err (EvalFault.Range Fun.Min)) ≡ Err (EvalFault.Range Fun.Min)
place-of_another_fault = refl

-- ---- a union

union-of_lists :
    united_of (numbers (2 ∷ 1 ∷ 2 ∷ []) ∷ numbers (3 ∷ 1 ∷ 0 ∷ []) ∷ [])
    ≡ (all.lists ((n 2 ∷ n 1 ∷ n 3 ∷ n 0 ∷ [], (0, 4)), n 0 ∷ n 1 ∷ n 2 ∷ n 3 ∷ []), 2)
union-of_lists = refl

union-item_there : one_more ((n 1 ∷ [], (0, 1)), n 1 ∷ []) (n 1) ≡ ((n 1 ∷ [], (0, 1)), n 1 ∷ [])
union-item_there = refl

-- what doesn't fit is measured, and its items are known still
union-item_past :
    one_more (([], (0, 2 ^ 20)), n 1 ∷ []) (numbers [])
    ≡ (([], (1, 2 ^ 20 + 1)), n 1 ∷ numbers [] ∷ [])
union-item_past = refl

union-of_objects :
    united_of (object (members ((codes "b", n 1) ∷ [])) ∷ object (members ((codes "a", n 2) ∷ (codes "b", n 3) ∷ [])) ∷ [])
    ≡ (all.objects ((codes "a", n 2) ∷ (codes "b", n 3) ∷ []), 2)
union-of_objects = refl

union-first_wrong : united_of (null ∷ numbers [] ∷ null ∷ []) ≡ (all.refused (EvalFault.WrongType Fun.Union 1), 3)
union-first_wrong = refl

union-object_behind_list :
    united_of (numbers [] ∷ numbers [] ∷ object (members []) ∷ null ∷ [])
    ≡ (all.refused (EvalFault.WrongType Fun.Union 3), 4)
union-object_behind_list = refl

union-list_behind_object : united_of (object (members []) ∷ numbers [] ∷ []) ≡ (all.refused (EvalFault.WrongType Fun.Union 2), 2)
union-list_behind_object = refl

union-of_one : united_answer (united_of (numbers [] ∷ [])) ≡ Err (EvalFault.WrongType Fun.Union 2)
union-of_one = refl

union-of_none : united_answer (united_of []) ≡ Err (EvalFault.WrongType Fun.Union 1)
union-of_none = refl
