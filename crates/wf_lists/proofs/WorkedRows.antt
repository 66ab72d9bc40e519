-- The definitions at worked values: items are pairs of a key and a mark, in the order of their keys.
use Rattle.std.proofs.Common.{◌≡◌, ℕ, List, [], ◌∷◌, Some, None, refl}
use Rattle.std.specs.Ordering.{nat_cmp}
use Rattle.wf_lists.specs.KeyOrder.{IsInKeyOrder, IsAboveKeys, find_key, without_key, put_key, IsKeyPlace, IsKeyGap}

abbrev Item : Type 0
Item = ℕ × ℕ

abbrev key : Item → ℕ
key p = p.0

abbrev three : List Item
three = (2, 20) ∷ (5, 50) ∷ (9, 90) ∷ []

-- ascending, each key once
in_order : IsInKeyOrder nat_cmp key three
in_order = ((refl, (refl, tt)), ((refl, tt), (tt, tt)))

twice-is-out_of_order : IsInKeyOrder nat_cmp key ((2, 20) ∷ (2, 21) ∷ []) → ⊥
twice-is-out_of_order order = let not_below = order.0.0 in Prim.cc

falling-is-out_of_order : IsInKeyOrder nat_cmp key ((5, 50) ∷ (2, 20) ∷ []) → ⊥
falling-is-out_of_order order = let not_below = order.0.0 in Prim.cc

above : IsAboveKeys nat_cmp key 10 three
above = (refl, (refl, (refl, tt)))

-- the first, one in the middle, the last, and none
find-first : find_key nat_cmp key 2 three ≡ Some (2, 20)
find-first = refl

find-middle : find_key nat_cmp key 5 three ≡ Some (5, 50)
find-middle = refl

find-last : find_key nat_cmp key 9 three ≡ Some (9, 90)
find-last = refl

find-none : find_key nat_cmp key 3 three ≡ None
find-none = refl

-- before all, between two, behind all, in place of the one with the key, and into an empty list
put-first : put_key nat_cmp key (0, 7) three ≡ (0, 7) ∷ (2, 20) ∷ (5, 50) ∷ (9, 90) ∷ []
put-first = refl

put-between : put_key nat_cmp key (3, 7) three ≡ (2, 20) ∷ (3, 7) ∷ (5, 50) ∷ (9, 90) ∷ []
put-between = refl

put-last : put_key nat_cmp key (10, 7) three ≡ (2, 20) ∷ (5, 50) ∷ (9, 90) ∷ (10, 7) ∷ []
put-last = refl

put-over : put_key nat_cmp key (5, 7) three ≡ (2, 20) ∷ (5, 7) ∷ (9, 90) ∷ []
put-over = refl

put-into_none : put_key nat_cmp key (5, 7) [] ≡ (5, 7) ∷ []
put-into_none = refl

without-first : without_key nat_cmp key 2 three ≡ (5, 50) ∷ (9, 90) ∷ []
without-first = refl

without-last : without_key nat_cmp key 9 three ≡ (2, 20) ∷ (5, 50) ∷ []
without-last = refl

without-none : without_key nat_cmp key 4 three ≡ three
without-none = refl

-- the place of a key, and the gap for one that is absent
place : IsKeyPlace nat_cmp key 5 three 1
place = (refl, refl)

gap-first : IsKeyGap nat_cmp key 0 three 0
gap-first = (refl, (refl, (refl, tt)))

gap-between : IsKeyGap nat_cmp key 6 three 2
gap-between = (refl, (refl, (refl, tt)))

gap-last : IsKeyGap nat_cmp key 10 three 3
gap-last = (refl, (refl, (refl, refl)))
