-- Steps of the loops over levels.
use Rattle.std.proofs.Common.{◌≡◌, ℕ, zero, suc, ◌+◌, ◌<◌, ◌≤◌, List, [], slice_set, ◌∷◌, length, get_or, drop, drop-cons, max, refl, sym, ap, ◌∙◌, add-one, arith}
use Rattle.wf_def.specs.ActionTree.{ActionTree}
use Rattle.wf_drawn.specs.Levels.{put_all_below, rounds}

pub rounds_more : (k : ℕ) (ls : List ℕ) (as' : List ActionTree) → rounds (k + 1) ls as' ≡ put_all_below (rounds k ls as') as'
rounds_more k ls as' = rw add-one refl

-- the deeper of those so far, and the one that comes next
pub deeper_next : (here so_far now rest all : ℕ) → now ≡ max here so_far → max so_far (max here rest) ≡ all → max now rest ≡ all
deeper_next here so_far now rest all is whole = omega (arith, is, whole)

-- the list from a place on
pub drop_at_place : {X : Type 0} (xs : List X) (i : ℕ) (x : X) → i < length xs → x ≡ get_or xs i x → drop i xs ≡ x ∷ drop (i + 1) xs
drop_at_place xs i x within is = rw add-one (drop-cons xs i x within ∙ ap (λ y. y ∷ drop (suc i) xs) (sym is))

-- what stands past the end is put nowhere
pub set_past : (xs : List ℕ) (i v : ℕ) → length xs ≤ i → xs ≡ slice_set xs i v
set_past [] zero v past = refl
set_past [] (suc i) v past = refl
set_past (x ∷ xs) zero v past = absurd (omega (arith, past))
set_past (x ∷ xs) (suc i) v past = ap (λ ys. x ∷ ys) (set_past xs i v (omega (arith, past)))
