-- Worked loops and iterations. Names are the numbers: a Foreach 1 of a Foreach 2 of 3, and 4 beside 2; an Until 5 of 6.
use Rattle.std.proofs.Common.{◌≡◌, ℕ, [], ◌∷◌, List, refl, arith}
use Rattle.wf_layers.specs.Address.{address}
use Rattle.wf_layers.specs.Definition.{AtMost, Foreach, Graph, InTurn, Leaf, Until, add, done}
use Rattle.wf_seen_laws.specs.Laws.{IsInTurnFrom, IsInTurnOf}

abbrev worked : Graph
worked =
    add 1 [] (Foreach InTurn (add 2 [] (Foreach (AtMost 20) (add 3 [] Leaf done)) (add 4 [] Leaf done)))
    (add 5 [] (Until 60 (add 6 [] Leaf done)) done)

-- 3/4/7 stands in the iteration 7 of 2/4, and in the iteration 4 of 1
in-inner : IsInTurnOf worked (address 3 (4 ∷ 7 ∷ [])) 2 (1 ∷ []) (4 ∷ []) 7
in-inner = record { inner = []; loops = refl; behind = []; indexes = refl; each_loop = refl }

in-outer : IsInTurnOf worked (address 3 (4 ∷ 7 ∷ [])) 1 [] [] 4
in-outer = record { inner = 2 ∷ []; loops = refl; behind = 7 ∷ []; indexes = refl; each_loop = refl }

-- a loop stands in those round it, and not in itself
in-outer-loop : IsInTurnOf worked (address 2 (4 ∷ [])) 1 [] [] 4
in-outer-loop = record { inner = []; loops = refl; behind = []; indexes = refl; each_loop = refl }

not-in-itself : (turn : ℕ) → IsInTurnOf worked (address 2 (4 ∷ [])) 2 (1 ∷ []) (4 ∷ []) turn → ⊥
not-in-itself turn is = nothing is.loops
  where
    nothing : {ls : List ℕ} → (1 ∷ []) ≡ 1 ∷ 2 ∷ ls → ⊥
    nothing e = cc

in-until : IsInTurnOf worked (address 6 (3 ∷ [])) 5 [] [] 3
in-until = record { inner = []; loops = refl; behind = []; indexes = refl; each_loop = refl }

-- 4/4 stands in 1, too, in the same iteration as 3/4/7, and 4/9 in a later one
same-turn : IsInTurnFrom worked (address 4 (4 ∷ [])) 1 [] [] 4
same-turn = record {
  own = 4;
  stands = record { inner = []; loops = refl; behind = []; indexes = refl; each_loop = refl };
  from = omega arith;
}

later-turn : IsInTurnFrom worked (address 4 (9 ∷ [])) 1 [] [] 4
later-turn = record {
  own = 9;
  stands = record { inner = []; loops = refl; behind = []; indexes = refl; each_loop = refl };
  from = omega arith;
}

-- in an earlier one it doesn't count
not-earlier : IsInTurnFrom worked (address 4 (3 ∷ [])) 1 [] [] 4 → ⊥
not-earlier is = omega (arith, is.from, same is.stands.indexes)
  where
    same : {own : ℕ} {behind : List ℕ} → (3 ∷ []) ≡ own ∷ behind → 3 ≡ own
    same e = cc
