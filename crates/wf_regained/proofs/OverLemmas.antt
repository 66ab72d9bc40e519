-- What one row more makes of the last writers.
use Rattle.std.proofs.Common.{◌≡◌, ◌+◌, ◌<◌, ◌≤◌, ℕ, zero, suc, Bool, true, false, ◌||◌, not, cond, List, [], ◌∷◌, drop, length}
use Rattle.std.proofs.Common.{Option, Some, None, inl, inr}
use Rattle.std.proofs.Common.{refl, sym, ap, ◌∙◌, subst, add-one, arith, eqb-true, nat_eq}
use Rattle.std.specs.Prelude.{slice_get, slice_index_or}
use Rattle.std.proofs.lemmas.Option.{none-some}
use Rattle.wf_layers.specs.Address.{Address}
use Rattle.wf_layers.proofs.Basics.{two, unless, when}
use Rattle.wf_asks.specs.Known.{is_among}
use Rattle.wf_def.specs.DefTree.{DefTree}
use Rattle.wf_regained.specs.Last.{comes_after, each_last, last_of, stays}

-- ---- places of a list

at_place : {X : Type 0} (xs : List X) (n : ℕ) (x : X) → slice_get xs n ≡ Some x → drop n xs ≡ x ∷ drop (suc n) xs
at_place [] n x is = absurd (none-some x is)
at_place (y ∷ ys) zero x is = let same : y ≡ x = cc (is) in ap (λ (z : _). z ∷ ys) same
at_place (y ∷ ys) (suc n) x is = at_place ys n x is

pub next_at : {X : Type 0} (xs : List X) (n : ℕ) (x : X) → slice_get xs n ≡ Some x → drop n xs ≡ x ∷ drop (n + 1) xs
next_at xs n x is = rw add-one (at_place xs n x is)

item_suc : (xs : List ℕ) (n : ℕ) → n < length xs → drop n xs ≡ slice_index_or xs n 0 ∷ drop (suc n) xs
item_suc [] n within = absurd (omega (arith, within))
item_suc (x ∷ xs) zero within = refl
item_suc (x ∷ xs) (suc n) within = item_suc xs n (omega (arith, within))

pub item_at : (xs : List ℕ) (n : ℕ) → n < length xs → drop n xs ≡ slice_index_or xs n 0 ∷ drop (n + 1) xs
item_at xs n within = rw add-one (item_suc xs n within)

pub none_left : {X : Type 0} (xs : List X) (n : ℕ) → length xs ≤ n → drop n xs ≡ []
none_left [] zero far = refl
none_left [] (suc n) far = refl
none_left (x ∷ xs) zero far = absurd (omega (arith, far))
none_left (x ∷ xs) (suc n) far = none_left xs n (omega (arith, far))

-- ---- the same writer once more changes nothing

module _ (d : DefTree) (y : Address) where
  last_is : (x : Address) (b : Bool) → comes_after d x y ≡ b → last_of d (Some x) y ≡ cond (not b) (Some x) (Some y)
  last_is x b is = ap (λ (c : Bool). cond (not c) (Some x) (Some y)) is

  own : (b : Bool) → cond (not b) (Some y) (Some y) ≡ Some y
  own true = refl
  own false = refl

  twice : (o : Option Address) → last_of d (last_of d o y) y ≡ last_of d o y
  twice None = own (comes_after d y y)
  twice (Some x) = elim (two (comes_after d x y)) [
    | inl t ↦ ap (λ (o : Option Address). last_of d o y) (last_is x true t) ∙ (own (comes_after d y y) ∙ sym (last_is x true t))
    | inr f ↦ ap (λ (o : Option Address). last_of d o y) (last_is x false f)
  ]

  -- so each variable that is listed, once or more, has it more
  pub each_is : (us : List ℕ) (last : ℕ → Option Address) (v : ℕ)
      → each_last d us last y v ≡ cond (is_among v us) (last_of d (last v) y) (last v)
  each_is [] last v = refl
  each_is (u ∷ us) last v =
      each_is us (λ w. cond (nat_eq u w) (last_of d (last w) y) (last w)) v ∙ go (nat_eq u v) (is_among v us)
    where
      go : (a b : Bool) → cond b (last_of d (cond a (last_of d (last v) y) (last v)) y) (cond a (last_of d (last v) y) (last v))
          ≡ cond (a || b) (last_of d (last v) y) (last v)
      go true true = twice (last v)
      go true false = refl
      go false b = refl

-- ---- one variable

module _ (d : DefTree) (y : Address) (u : ℕ) (last : ℕ → Option Address) where
  -- where the last writer stays it, nothing changes
  pub stays_last : stays d (last u) y ≡ true → (v : ℕ) → last v ≡ cond (nat_eq u v) (last_of d (last v) y) (last v)
  stays_last is v = elim (two (nat_eq u v)) [
    | inl t ↦
        let same : u ≡ v = eqb-true u v t in
        sym (when (nat_eq u v) (last_of d (last v) y) (last v) t
        ∙ when (stays d (last v) y) (last v) (Some y) (subst (λ (w : ℕ). stays d (last w) y ≡ true) same is))
    | inr f ↦ sym (unless (nat_eq u v) (last_of d (last v) y) (last v) f)
  ]

  -- else it is this one
  pub put_last : stays d (last u) y ≡ false → (v : ℕ)
      → cond (nat_eq u v) (Some y) (last v) ≡ cond (nat_eq u v) (last_of d (last v) y) (last v)
  put_last is v = elim (two (nat_eq u v)) [
    | inl t ↦
        let same : u ≡ v = eqb-true u v t in
        when (nat_eq u v) (Some y) (last v) t
        ∙ sym (when (nat_eq u v) (last_of d (last v) y) (last v) t
        ∙ unless (stays d (last v) y) (last v) (Some y) (subst (λ (w : ℕ). stays d (last w) y ≡ false) same is))
    | inr f ↦ unless (nat_eq u v) (Some y) (last v) f ∙ sym (unless (nat_eq u v) (last_of d (last v) y) (last v) f)
  ]
