-- Loops round worked actions: a Foreach 20 in turn, of 21 and an Until 22 of 23; a Foreach 24 side by side, of 25 and a Foreach 26 in turn
-- of 27; and 28.
use Rattle.std.proofs.Common.{◌≡◌, ℕ, [], ◌∷◌, true, true≢false, refl, sym}
use Rattle.wf_def.specs.Address.{address}
use Rattle.wf_def.specs.Definition.{InTurn, AtMost, Leaf, Foreach, Until, Graph, done, add}
use Rattle.wf_order.specs.Turns.{IsInNoLoop, IsInstance, IsInTurn}

abbrev leaf : ℕ → Graph → Graph
leaf n rest = add n [] Leaf rest

abbrev turning : Graph
turning =
    add 20 [] (Foreach InTurn (leaf 21 (add 22 [] (Until 60 (leaf 23 done)) done)))
    (add 24 [] (Foreach (AtMost 20) (leaf 25 (add 26 [] (Foreach InTurn (leaf 27 done)) done))) (leaf 28 done))

-- an instance has an index for each loop round it, and for no other
instance-in_a_loop : IsInstance turning (address 21 (3 ∷ []))
instance-in_a_loop = (refl, refl)

instance-in_two : IsInstance turning (address 23 (3 ∷ 5 ∷ []))
instance-in_two = (refl, refl)

instance-of_a_loop : IsInstance turning (address 22 (3 ∷ []))
instance-of_a_loop = (refl, refl)

instance-outside : IsInstance turning (address 28 [])
instance-outside = (refl, refl)

instance-not_without : IsInstance turning (address 23 (3 ∷ [])) → ⊥
instance-not_without is = let count = is.1 in absurd (cc)

instance-not_outside : IsInstance turning (address 28 (3 ∷ [])) → ⊥
instance-not_outside is = let count = is.1 in absurd (cc)

instance-no_action : IsInstance turning (address 29 []) → ⊥
instance-no_action is = true≢false (sym is.0)

-- a Foreach and an Until go in turn, and one that goes side by side doesn't, whatever is in it
in_turn-two : IsInTurn turning 23
in_turn-two = (
  (λ held. (refl, ((λ none. tt), ((λ inner. (refl, ((λ none. tt), tt))), tt)))),
  ((λ held. absurd (true≢false (sym held))), ((λ none. tt), tt)),
)

in_turn-not_side_by_side : IsInTurn turning 25 → ⊥
in_turn-not_side_by_side is = let pace = (is.1.0 refl).0 in absurd (cc)

in_turn-not_inside_one : IsInTurn turning 27 → ⊥
in_turn-not_inside_one is = let pace = (is.1.0 refl).0 in absurd (cc)

-- in no loop
no_loop-outside : IsInNoLoop turning 28
no_loop-outside = ((λ held. absurd (true≢false (sym held))), ((λ held. absurd (true≢false (sym held))), ((λ none. tt), tt)))

no_loop-itself : IsInNoLoop turning 24
no_loop-itself = ((λ held. absurd (true≢false (sym held))), ((λ held. absurd (true≢false (sym held))), ((λ none. tt), tt)))

no_loop-not_in_turn : IsInNoLoop turning 21 → ⊥
no_loop-not_in_turn is = (is.0 refl).0

no_loop-not_in_an_until : IsInNoLoop turning 23 → ⊥
no_loop-not_in_an_until is = (is.0 refl).0
