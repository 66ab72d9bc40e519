-- Worked sets of actions: what is redone from them, what is closed again, and of what the rows are kept.
use Rattle.std.proofs.Common.{◌≡◌, ℕ, Bool, true, false, List, [], ◌∷◌, map, refl}
use Rattle.wf_def.specs.ActionTree.{compose, foreach, scope, action_trees}
use Rattle.wf_def.specs.DefTree.{DefTree}
use Rattle.wf_meant_laws.specs.References.{upto}
use Rattle.wf_meant_laws.proofs.Terms.{act, nat, num, of, of_actions, success_of}
use Rattle.wf_pinned.specs.Old.{keeps, recloses, redoes}

-- A; after A a Scope S of B and of C after B, and beside it a Foreach L of M; Z after S.
abbrev worked : DefTree
worked = of_actions (
    act "A" 0 [] (compose (nat 1))
    ∷ act "L" 3 (success_of 0) (foreach (of (num 1)) 1 (action_trees (act "M" 4 [] (compose (nat 1)) ∷ [])))
    ∷ act "S" 5 (success_of 0) (scope (action_trees (
    act "B" 1 [] (compose (nat 1))
    ∷ act "C" 2 (success_of 1) (compose (nat 1))
    ∷ [])))
    ∷ act "Z" 6 (success_of 5) (compose (nat 1))
    ∷ [])

-- by the numbers of A B C L M S Z
abbrev of_each : (ℕ → Bool) → List Bool
of_each p = map p (upto 7)

-- from an action in a Scope: it and what comes after it or after the Scope; the Scope is closed again; all else is kept
redone-inside : of_each (redoes worked (1 ∷ [])) ≡ false ∷ true ∷ true ∷ false ∷ false ∷ false ∷ true ∷ []
redone-inside = refl

closed-round : of_each (recloses worked (1 ∷ [])) ≡ false ∷ false ∷ false ∷ false ∷ false ∷ true ∷ false ∷ []
closed-round = refl

kept-beside : of_each (keeps worked (1 ∷ [])) ≡ true ∷ false ∷ false ∷ true ∷ true ∷ false ∷ false ∷ []
kept-beside = refl

-- from the last in a Scope what comes before it there is kept
redone-behind : of_each (redoes worked (2 ∷ [])) ≡ false ∷ false ∷ true ∷ false ∷ false ∷ false ∷ true ∷ []
redone-behind = refl

kept-before : of_each (keeps worked (2 ∷ [])) ≡ true ∷ true ∷ false ∷ true ∷ true ∷ false ∷ false ∷ []
kept-before = refl

-- from a Foreach: all inside it, and no container is closed again
redone-loop : of_each (redoes worked (3 ∷ [])) ≡ false ∷ false ∷ false ∷ true ∷ true ∷ false ∷ false ∷ []
redone-loop = refl

closed-none : of_each (recloses worked (3 ∷ [])) ≡ false ∷ false ∷ false ∷ false ∷ false ∷ false ∷ false ∷ []
closed-none = refl

-- from a Scope and an action inside it: the Scope is redone and not closed again
redone-both : of_each (redoes worked (1 ∷ 5 ∷ [])) ≡ false ∷ true ∷ true ∷ false ∷ false ∷ true ∷ true ∷ []
redone-both = refl

closed-not : of_each (recloses worked (1 ∷ 5 ∷ [])) ≡ false ∷ false ∷ false ∷ false ∷ false ∷ false ∷ false ∷ []
closed-not = refl

-- from the first action all is redone, and from none nothing
redone-all : of_each (redoes worked (0 ∷ [])) ≡ true ∷ true ∷ true ∷ true ∷ true ∷ true ∷ true ∷ []
redone-all = refl

kept-all : of_each (keeps worked []) ≡ true ∷ true ∷ true ∷ true ∷ true ∷ true ∷ true ∷ []
kept-all = refl
