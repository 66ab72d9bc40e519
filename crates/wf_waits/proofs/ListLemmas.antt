-- What holds of all of a list.
use Rattle.std.proofs.Common.{◌≡◌, ℕ, zero, suc, false, List, [], ◌∷◌, Option, Some, None, option_map, drop, inl, inr, slice_get, refl, ap, subst, true≢false}
use Rattle.std.specs.Prelude.{is_some}
use Rattle.std.specs.List.{AllByRecursion}
use Rattle.std.proofs.lemmas.Option.{none-some}
use Rattle.wf_layers.specs.Listed.{Among}

pub some_one : {X : Type 0} {x y : X} → Some x ≡ Some y → x ≡ y
some_one is = cc

module _ {E : Type 0} where
  pub all_among : (P : E → Type 0) (xs : List E) (x : E) → AllByRecursion P xs → Among xs x → P x
  all_among P [] x all among = absurd among
  all_among P (y ∷ ys) x all (inl is) = subst P is all.0
  all_among P (y ∷ ys) x all (inr later) = all_among P ys x all.1 later

  pub all_at : (P : E → Type 0) (xs : List E) (n : ℕ) (x : E) → AllByRecursion P xs → slice_get xs n ≡ Some x → P x
  all_at P [] n x all is = absurd (none-some x is)
  all_at P (y ∷ ys) zero x all is = subst P (some_one is) all.0
  all_at P (y ∷ ys) (suc n) x all is = all_at P ys n x all.1 is

  pub all_so : {P Q : E → Type 0} (xs : List E) → ((x : E) → P x → Q x) → AllByRecursion P xs → AllByRecursion Q xs
  all_so [] so all = tt
  all_so (x ∷ xs) so all = (so x all.0, all_so xs so all.1)

  pub both_so : {P Q R : E → Type 0} (xs : List E) → ((x : E) → P x → Q x → R x) → AllByRecursion P xs → AllByRecursion Q xs
      → AllByRecursion R xs
  both_so [] so ps qs = tt
  both_so (x ∷ xs) so ps qs = (so x ps.0 qs.0, both_so xs so ps.1 qs.1)

  -- what is left of a list from a place on
  pub left_at : (xs : List E) (n : ℕ) (x : E) → slice_get xs n ≡ Some x → drop n xs ≡ x ∷ drop (suc n) xs
  left_at [] n x is = absurd (none-some x is)
  left_at (y ∷ ys) zero x is = ap (λ z. z ∷ ys) (some_one is)
  left_at (y ∷ ys) (suc n) x is = left_at ys n x is

  -- what stands at a place is among the list
  pub at_among : (xs : List E) (n : ℕ) (x : E) → slice_get xs n ≡ Some x → Among xs x
  at_among [] n x is = absurd (none-some x is)
  at_among (y ∷ ys) zero x is = inl (some_one is)
  at_among (y ∷ ys) (suc n) x is = inr (at_among ys n x is)

-- what isn't there isn't seen
pub none_seen : {X Y : Type 0} (f : X → Y) (o : Option X) → is_some o ≡ false → option_map f o ≡ None
none_seen f None is = refl
none_seen f (Some x) is = absurd (true≢false is)
