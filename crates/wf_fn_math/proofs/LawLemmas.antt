-- The rest of a division is on the dividend's side of 0; the number that is left of several is one of them.
use Rattle.std.proofs.Common.{◌≡◌, ℕ, zero, suc, List, [], ◌∷◌, ◌⊎◌, inl, inr, refl, sym, rules, arith}
use Rattle.std.proofs.lemmas.Int.{ints, fold-int_min_bounds, fold-int_min_reached, fold-int_max_bounds, fold-int_max_reached}
use Rattle.std.proofs.lemmas.List.Elements.{All-cons, Contains-append_right}
use Rattle.std.proofs.Math.Nat.{zero-mod}
use Rattle.std.specs.Int.{int_max, int_min}
use Rattle.std.specs.List.{All, Contains, reduce, fold}
use Rattle.std.specs.Prelude.{ℤ, pos, negsuc, neg_ℤ, nat_abs, ◌≤ℤ◌, IfSome, int_rem}

below-neg : (n : ℕ) → neg_ℤ (pos n) ≤ℤ pos 0
below-neg n = grind (arith, ints)

pub rem-not_below : (a d : ℤ) → pos 0 ≤ℤ a → pos 0 ≤ℤ int_rem a d
rem-not_below (pos a) d h = grind (arith, ints)
rem-not_below (negsuc a) d h = absurd (omega (arith, ints))

pub rem-not_above : (a d : ℤ) → a ≤ℤ pos 0 → int_rem a d ≤ℤ pos 0
rem-not_above (pos zero) d h = rw (zero-mod (nat_abs d)) (search (rules, arith))
rem-not_above (pos (suc a)) d h = absurd (omega (arith, ints))
rem-not_above (negsuc a) d h = below-neg _

-- one that is first, or is among the others, is one of all
contains-cases : (n : ℤ) (ns : List ℤ) (r : ℤ) → (r ≡ n) ⊎ Contains ns r → Contains (n ∷ ns) r
contains-cases n ns r (inl e) = (0, omega arith, sym e)
contains-cases n ns r (inr h) = Contains-append_right (n ∷ []) ns r h

pub min-among : (ns : List ℤ) → IfSome (reduce int_min ns) (Contains ns)
min-among [] = search rules
min-among (n ∷ ns) = contains-cases n ns (fold int_min n ns) (fold-int_min_reached n ns (fold int_min n ns) refl)

pub min-bound : (ns : List ℤ) → IfSome (reduce int_min ns) (λ least. All (λ n. least ≤ℤ n) ns)
min-bound [] = search rules
min-bound (n ∷ ns) =
    let bounds = fold-int_min_bounds n ns (fold int_min n ns) refl in
    All-cons (λ m. fold int_min n ns ≤ℤ m) n ns bounds.0 bounds.1

pub max-among : (ns : List ℤ) → IfSome (reduce int_max ns) (Contains ns)
max-among [] = search rules
max-among (n ∷ ns) = contains-cases n ns (fold int_max n ns) (fold-int_max_reached n ns (fold int_max n ns) refl)

pub max-bound : (ns : List ℤ) → IfSome (reduce int_max ns) (λ greatest. All (λ n. n ≤ℤ greatest) ns)
max-bound [] = search rules
max-bound (n ∷ ns) =
    let bounds = fold-int_max_bounds n ns (fold int_max n ns) refl in
    All-cons (λ m. m ≤ℤ fold int_max n ns) n ns bounds.0 bounds.1
