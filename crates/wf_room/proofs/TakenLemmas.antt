-- What is left of a list, and what was taken of it, the last first, are the list.
use Rattle.std.proofs.Common.{◌≡◌, ℕ, zero, suc, ◌+◌, List, [], ◌∷◌, ◌++◌, length, slice_get, remove, reverse, Some, ap, ◌∙◌, arith}
use Rattle.std.proofs.lemmas.List.{reverse-append}
use Rattle.std.proofs.lemmas.Option.{none-some}

module _ {X : Type 0} where
  at_last : (xs ys : List X) (i : ℕ) (x : X) → slice_get xs i ≡ Some x → i + 1 ≡ length xs → remove xs i ++ x ∷ ys ≡ xs ++ ys
  at_last [] ys i x at last = absurd (none-some x at)
  at_last (z ∷ []) ys zero x at last = Prim.cc
  at_last (z ∷ w ∷ zs) ys zero x at last = absurd (omega (arith, last))
  at_last (z ∷ zs) ys (suc i) x at last = ap (λ us. z ∷ us) (at_last zs ys i x at (omega (arith, last)))

  pub taken_last : (xs taken : List X) (i : ℕ) (x : X) → slice_get xs i ≡ Some x → i + 1 ≡ length xs
      → remove xs i ++ reverse (taken ++ x ∷ []) ≡ xs ++ reverse taken
  taken_last xs taken i x at last =
      ap (λ ys. remove xs i ++ ys) (reverse-append taken (x ∷ [])) ∙ at_last xs (reverse taken) i x at last
