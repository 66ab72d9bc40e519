-- Ways in a worked definition, and what stands along them. Names are the numbers: 0; an If 1 of 2, and otherwise of a Foreach 3 of a Scope
-- 4 of 5, and an Until 6 of 7.
use Rattle.std.proofs.Common.{◌≡◌, ℕ, Bool, true, false, List, [], ◌∷◌, Option, Some, None, refl, cond, nat_eq}
use Rattle.wf_layers.specs.Definition.{InTurn, Leaf, Scope, Choice, Foreach, Until, no_branch, branch, Graph, done, add}
use Rattle.wf_layers.specs.Address.{Table, address}
use Rattle.wf_layers.specs.Shape.{Reading}
use Rattle.wf_shape.specs.Standing.{Standing, called, standing, unsaid, uncalled}
use Rattle.wf_ways.specs.Along.{along}
use Rattle.wf_ways.specs.Way.{branch_of, item, round, step, way, whole}

abbrev leaf : ℕ → Graph → Graph
leaf n rest = add n [] Leaf rest

abbrev no-graph : Graph
no-graph = add 3 [] (Foreach InTurn (add 4 [] (Scope (leaf 5 done)) done)) (add 6 [] (Until 9 (leaf 7 done)) done)

abbrev worked : Graph
worked = leaf 0 (add 1 [] (Choice (branch (leaf 2 done) (branch no-graph no_branch))) done)

way-top : way worked 0 ≡ []
way-top = refl

way-first_branch : way worked 2 ≡ step 1 (branch_of 1) ∷ []
way-first_branch = refl

way-second_branch : way worked 3 ≡ step 1 (branch_of 2) ∷ []
way-second_branch = refl

way-iteration : way worked 4 ≡ step 1 (branch_of 2) ∷ step 3 item ∷ []
way-iteration = refl

way-inner : way worked 5 ≡ step 1 (branch_of 2) ∷ step 3 item ∷ step 4 whole ∷ []
way-inner = refl

way-round : way worked 7 ≡ step 1 (branch_of 2) ∷ step 6 round ∷ []
way-round = refl

way-no_action : way worked 8 ≡ []
way-no_action = refl

-- Rows say a number: of the If the branch, of a loop its iterations; and whether they are Skipped. Each fits where it may be Skipped or not
-- as it is.
record Said : Type 0 where
  skipped : Bool
  said : ℕ

abbrev ran : ℕ → Option Said
ran n = Some (record { skipped = false; said = n })

abbrev idle : Option Said
idle = Some (record { skipped = true; said = 0 })

abbrev reading : Reading Said
reading = record { taken = λ n row. row.said; items = λ row. row.said; rounds = λ row. row.said }

abbrev may_be : ℕ → Bool → Said → Bool
may_be n true row = row.skipped
may_be n false row = true

-- the If took branch c, the Foreach had two items, and the Until one iteration
abbrev table : ℕ → Option Said → Table Said
table c loop x = cond (nat_eq x.name 1) (ran c) (cond (nat_eq x.name 3) loop (cond (nat_eq x.name 6) (ran 1) (cond (nat_eq x.name 4)
    (ran 0) None)))

abbrev stands : Table Said → ℕ → List ℕ → Standing
stands r x at' = along reading (λ row. row.skipped) may_be r (way worked x) false [] at'

taken-is_called : stands (table 1 idle) 2 [] ≡ called false
taken-is_called = refl

not_taken-is_skipped : stands (table 2 (ran 2)) 2 [] ≡ called true
not_taken-is_skipped = refl

none_taken-is_skipped : stands (table 0 idle) 2 [] ≡ called true
none_taken-is_skipped = refl

first-item : stands (table 2 (ran 2)) 5 (0 ∷ []) ≡ called false
first-item = refl

last-item : stands (table 2 (ran 2)) 5 (1 ∷ []) ≡ called false
last-item = refl

past-items : stands (table 2 (ran 2)) 5 (2 ∷ []) ≡ uncalled
past-items = refl

too_few : stands (table 2 (ran 2)) 5 [] ≡ uncalled
too_few = refl

too_many : stands (table 2 (ran 2)) 5 (0 ∷ 0 ∷ []) ≡ uncalled
too_many = refl

-- a loop in the branch that wasn't taken has to be Skipped: what stands in one that ran isn't judged, in one that is none is called for
wrong-container : stands (table 1 (ran 2)) 5 (0 ∷ []) ≡ unsaid
wrong-container = refl

skipped-loop : stands (table 1 idle) 5 (0 ∷ []) ≡ uncalled
skipped-loop = refl

missing-container : stands (λ x. None) 5 (0 ∷ []) ≡ unsaid
missing-container = refl

round-of_an_until : stands (table 2 idle) 7 (0 ∷ []) ≡ called false
round-of_an_until = refl

-- the same by the walk down the definition
walked-called : standing reading (λ row. row.skipped) may_be (table 2 (ran 2)) worked (address 5 (1 ∷ [])) ≡ called false
walked-called = refl

walked-uncalled : standing reading (λ row. row.skipped) may_be (table 2 (ran 2)) worked (address 5 (2 ∷ [])) ≡ uncalled
walked-uncalled = refl
