-- What sets of actions redo and close again in a worked definition. Names are the numbers: 0; a Scope 1 after 0, of 2, 3 after 2, and 4;
-- 5 after 1; an If 6 after 0, of 7, and otherwise of 8; 9, which waits for nothing; a Foreach 10 after 1, of 11.
use Rattle.std.proofs.Common.{◌≡◌, ℕ, List, [], ◌∷◌, refl}
use Rattle.std.specs.Prelude.{filter}
use Rattle.wf_layers.specs.Definition.{Succeeded, Need, InTurn, Leaf, Scope, Choice, Foreach, no_branch, branch, Graph, done, add}
use Rattle.wf_order.specs.Table.{OrderTree, order_of}
use Rattle.wf_redo.specs.Sets.{again_any, redo_any}

abbrev after_one : ℕ → List Need
after_one n = record { name = n; listed = Succeeded ∷ [] } ∷ []

abbrev leaf : ℕ → List Need → Graph → Graph
leaf n needs rest = add n needs Leaf rest

abbrev worked : Graph
worked =
    leaf 0 []
    (add 1 (after_one 0) (Scope (leaf 2 [] (leaf 3 (after_one 2) (leaf 4 [] done))))
    (leaf 5 (after_one 1)
    (add 6 (after_one 0) (Choice (branch (leaf 7 [] done) (branch (leaf 8 [] done) no_branch)))
    (leaf 9 []
    (add 10 (after_one 1) (Foreach InTurn (leaf 11 [] done)) done)))))

abbrev order : OrderTree
order = order_of 12 worked

abbrev all : List ℕ
all = 0 ∷ 1 ∷ 2 ∷ 3 ∷ 4 ∷ 5 ∷ 6 ∷ 7 ∷ 8 ∷ 9 ∷ 10 ∷ 11 ∷ []

abbrev redone_from : List ℕ → List ℕ
redone_from from = filter (redo_any order from) all

abbrev again_from : List ℕ → List ℕ
again_from from = filter (again_any order from) all

-- what comes after an action, and after the container round it; its neighbour is kept
redone-in_a_scope : redone_from (2 ∷ []) ≡ 2 ∷ 3 ∷ 5 ∷ 10 ∷ 11 ∷ []
redone-in_a_scope = refl

again-round_it : again_from (2 ∷ []) ≡ 1 ∷ []
again-round_it = refl

-- with two actions, what is redone with either
redone-from_two : redone_from (4 ∷ 7 ∷ []) ≡ 4 ∷ 5 ∷ 7 ∷ 10 ∷ 11 ∷ []
redone-from_two = refl

again-round_two : again_from (4 ∷ 7 ∷ []) ≡ 1 ∷ 6 ∷ []
again-round_two = refl

-- two in one container close it once
redone-beside_each_other : redone_from (3 ∷ 4 ∷ []) ≡ 3 ∷ 4 ∷ 5 ∷ 10 ∷ 11 ∷ []
redone-beside_each_other = refl

again-round_both : again_from (3 ∷ 4 ∷ []) ≡ 1 ∷ []
again-round_both = refl

-- a container is redone with all that it holds, and then isn't closed again, also where what it holds is named beside it
redone-a_container : redone_from (1 ∷ []) ≡ 1 ∷ 2 ∷ 3 ∷ 4 ∷ 5 ∷ 10 ∷ 11 ∷ []
redone-a_container = refl

redone-a_container_and_inside_it : redone_from (2 ∷ 1 ∷ []) ≡ 1 ∷ 2 ∷ 3 ∷ 4 ∷ 5 ∷ 10 ∷ 11 ∷ []
redone-a_container_and_inside_it = refl

again-a_container_and_inside_it : again_from (2 ∷ 1 ∷ []) ≡ []
again-a_container_and_inside_it = refl

-- a branch redoes nothing of the other one
redone-in_a_branch : redone_from (8 ∷ []) ≡ 8 ∷ []
redone-in_a_branch = refl

again-in_a_branch : again_from (8 ∷ []) ≡ 6 ∷ []
again-in_a_branch = refl

-- all that comes after
redone-from_the_first : redone_from (0 ∷ []) ≡ 0 ∷ 1 ∷ 2 ∷ 3 ∷ 4 ∷ 5 ∷ 6 ∷ 7 ∷ 8 ∷ 10 ∷ 11 ∷ []
redone-from_the_first = refl

again-from_the_first : again_from (0 ∷ []) ≡ []
again-from_the_first = refl

-- an action twice is an action once, and no action redoes nothing
redone-twice : redone_from (9 ∷ 9 ∷ []) ≡ 9 ∷ []
redone-twice = refl

again-twice : again_from (2 ∷ 2 ∷ []) ≡ 1 ∷ []
again-twice = refl

redone-none : redone_from [] ≡ []
redone-none = refl

again-none : again_from [] ≡ []
again-none = refl

-- what is no action redoes nothing
redone-no_action : redone_from (12 ∷ []) ≡ []
redone-no_action = refl
