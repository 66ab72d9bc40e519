-- The branches that aren't taken.
use Rattle.std.proofs.Common.{◌≡◌, ℕ, zero, suc, Bool, true, false, ◌&&◌, ◌||◌, cond, List, [], ◌∷◌, Some, None, ◌⊎◌, inl, inr, ⊎_elim, refl, sym, ap, ◌∙◌, subst, nat_eq, eqb-true, true≢false}
use Rattle.std.proofs.lemmas.Option.{none-some}
use Rattle.wf_layers.specs.Definition.{Kind, Branches, no_branch, branch, Graph, is_one, less_one, branch_at, holds, has, has_any, plain, kind_of, kind_any, Leaf, Scope, Choice, Foreach, Until, shows}
use Rattle.wf_layers.specs.Address.{Address, Table, same_at, starts, is_in, is_within, is_among, earlier_any}
use Rattle.wf_layers.specs.Source.{Source, SoundAny}
use Rattle.wf_layers.specs.Meaning.{skip}
use Rattle.wf_layers.specs.Rule.{look_any}
use Rattle.wf_layers.proofs.Basics.{two, and_in, and_of, fork, apart, not_true, when, unless, cond_same, any_within, among_here, among_there}
use Rattle.wf_layers.specs.Machine.{in_others, skip_others, passed_over}
use Rattle.wf_layers.proofs.Tables.{inner_of, branch_none, skip_in, shows_holds, same_starts, either_or}

-- an address in a branch that isn't taken is in one of the branches
pub others_among : (bs : Branches) (c : ℕ) (i : List ℕ) (y : Address) → in_others bs c i y ≡ true → is_among bs i y ≡ true
others_among no_branch c i y e = e
others_among (branch b rest) c i y e =
    ⊎_elim
    (λ t. among_here b rest i y t)
    (λ u. among_there b rest i y (others_among rest (less_one c) i y (sym (unless (is_within b i y) (cond (is_one c) false true) _ u) ∙ e)))
    (two (is_within b i y))

-- and in that, or in the branch that is taken
pub others_or : (bs : Branches) (c : ℕ) (i : List ℕ) (y : Address) → is_among bs i y ≡ true
    → (in_others bs c i y ≡ true) ⊎ ((b : Graph) × (branch_at bs c ≡ Some b) × (is_within b i y ≡ true))
others_or no_branch c i y w = absurd (true≢false (sym w))
others_or (branch b rest) c i y w =
    ⊎_elim
    (λ t. ⊎_elim
    (λ one'. inr (b, when (is_one c) (Some b) _ one', t))
    (λ other. inl (when (is_within b i y) _ _ t ∙ when_not (is_one c) other))
    (two (is_one c)))
    (λ u. ⊎_elim
    (λ h. inl (unless (is_within b i y) _ _ u ∙ h))
    (λ h. ⊎_elim
    (λ one'. absurd (none-some h.0 (sym (branch_none rest) ∙ ap (λ x. branch_at rest x) (sym (less_of c one')) ∙ h.1)))
    (λ other. inr (h.0, unless (is_one c) (Some b) _ other ∙ h.1, h.2))
    (two (is_one c)))
    (others_or rest (less_one c) i y (fork (has b y.name) (has_any rest y.name) (starts i y.at) w u)))
    (two (is_within b i y))
  where
    when_not : (p : Bool) → p ≡ false → cond p false true ≡ true
    when_not true e = absurd (true≢false e)
    when_not false e = refl

    less_of : (c : ℕ) → is_one c ≡ true → less_one c ≡ 0
    less_of zero e = refl
    less_of (suc zero) e = refl
    less_of (suc (suc c)) e = absurd (true≢false (sym e))

starts_on : (i j k : List ℕ) → starts i j ≡ true → starts j k ≡ true → starts i k ≡ true
starts_on [] j k e h = refl
starts_on (a ∷ i) [] k e h = absurd (true≢false (sym e))
starts_on (a ∷ i) (b ∷ j) [] e h = absurd (true≢false (sym h))
starts_on (a ∷ i) (b ∷ j) (c ∷ k) e h =
    let x = and_in (nat_eq a b) (starts i j) e in let y = and_in (nat_eq b c) (starts j k) h in
    and_of (nat_eq a c) (starts i k) (subst (λ z. nat_eq z c ≡ true) (sym (eqb-true a b x.0)) y.0) (starts_on i j k x.1 y.1)

module _ {Row Begun Decision Verdict : Type 0} (m : Source Row Begun Decision Verdict) where
  -- what the rule gives there is Skipped rows
  pub look_others : (bs : Branches) (c : ℕ) (i : List ℕ) (f : Table Row) (y : Address) → in_others bs c i y ≡ true
      → look_any m bs c i f y ≡ skip_others m bs c i y
  look_others no_branch c i f y e = refl
  look_others (branch b rest) c i f y e =
      cond_same (is_within b i y) _ _ _ _
      (λ t. cond_same (is_one c) _ _ _ _
      (λ one'. absurd (true≢false (sym (sym (when (is_within b i y) (cond (is_one c) false true) _ t) ∙ e)
      ∙ when (is_one c) false true one'))) (λ other. refl))
      (λ u. look_others rest (less_one c) i f y (sym (unless (is_within b i y) (cond (is_one c) false true) _ u) ∙ e))

  pub some_others : (bs : Branches) (c : ℕ) (i : List ℕ) (y : Address) (r : Row) → skip_others m bs c i y ≡ Some r
      → in_others bs c i y ≡ true
  some_others no_branch c i y r e = absurd (none-some r e)
  some_others (branch b rest) c i y r e =
      ⊎_elim
      (λ t. when (is_within b i y) _ _ t ∙ ⊎_elim
      (λ one'. absurd (none-some r (sym (when (is_within b i y) _ _ t ∙ when (is_one c) None _ one') ∙ e)))
      (λ other. unless (is_one c) false true other)
      (two (is_one c)))
      (λ u. unless (is_within b i y) _ _ u ∙ some_others rest (less_one c) i y r (sym (unless (is_within b i y) _ _ u) ∙ e))
      (two (is_within b i y))

  -- an address there sees, of the branches, only what is there too
  pub others_sees : (low : ℕ → ℕ → Type 0) (Sees : Address → Address → Type 0) (bs : Branches) (l c : ℕ) → SoundAny m Sees bs l
      → (i : List ℕ) (x y : Address) → in_others bs c i x ≡ true → earlier_any low bs i y x → in_others bs c i y ≡ true
  others_sees low Sees no_branch l c so i x y e h = e
  others_sees low Sees (branch b rest) l c so i x y e h =
      ⊎_elim
      (λ q. when (is_within b i y) _ _ q.0 ∙ sym (when (is_within b i x) (cond (is_one c) false true) _ q.1) ∙ e)
      (λ q. unless (is_within b i y) _ _ (not_here y (any_within low rest i y x q).0)
      ∙ others_sees low Sees rest l (less_one c) so.2 i x y
      (sym (unless (is_within b i x) (cond (is_one c) false true) _ (not_here x (any_within low rest i y x q).1)) ∙ e) q)
      h
    where
      not_here : (z : Address) → is_among rest i z ≡ true → is_within b i z ≡ false
      not_here z v = apart (has b z.name) (has_any rest z.name) (starts i z.at) (so.0 z.name) v

  -- with a Skipped row there, all inside its action is there
  pub others_inner : (Sees : Address → Address → Type 0) (bs : Branches) (l c : ℕ) → SoundAny m Sees bs l
      → (i : List ℕ) (x : Address) (r : Row) (k : Kind) → skip_others m bs c i x ≡ Some r → kind_any bs x.name ≡ Some k → (y : Address)
      → is_in x.name k x.at y ≡ true → in_others bs c i y ≡ true
  others_inner Sees no_branch l c so i x r k e is y t = absurd (none-some r e)
  others_inner Sees (branch b rest) l c so i x r k e is y t =
      ⊎_elim
      (λ w. ⊎_elim
      (λ one'. absurd (none-some r (sym (when (is_within b i x) _ _ w ∙ when (is_one c) None _ one') ∙ e)))
      (λ other.
      let v = and_in (has b x.name) (starts i x.at) w in
      let u = and_in (nat_eq x.name y.name || holds k y.name) (starts x.at y.at) t in
      let hx = v.0 in
      let k' = sym (when (has b x.name) (kind_of b x.name) (kind_any rest x.name) hx) ∙ is in
      when (is_within b i y) _ _
      (and_of (has b y.name) (starts i y.at) (inner_of b x.name y.name k k' hx u.0) (starts_on i x.at y.at v.1 u.1))
      ∙ unless (is_one c) false true other)
      (two (is_one c)))
      (λ w.
      let e' = sym (unless (is_within b i x) _ _ w) ∙ e in
      let amx = others_among rest (less_one c) i x (some_others rest (less_one c) i x r e') in
      let nb = not_true (has b x.name) (λ p. true≢false (sym (and_in (has_any rest x.name) (starts i x.at) amx).0 ∙ so.0 x.name p)) in
      let h = others_inner Sees rest l (less_one c) so.2 i x r k e'
      (sym (unless (has b x.name) (kind_of b x.name) (kind_any rest x.name) nb) ∙ is) y t in
      unless (is_within b i y) _ _
      (apart (has b y.name) (has_any rest y.name) (starts i y.at) (so.0 y.name) (others_among rest (less_one c) i y h)) ∙ h)
      (two (is_within b i x))

  -- the rows there, but for kept ones, are Skipped ones
  pub others_skipped : (bs : Branches) (c : ℕ) (i : List ℕ) (y : Address) (r : Row) → m.pinned y.name ≡ false
      → skip_others m bs c i y ≡ Some r → r ≡ m.skipped
  others_skipped no_branch c i y r free e = absurd (none-some r e)
  others_skipped (branch b rest) c i y r free e =
      ⊎_elim
      (λ w. ⊎_elim
      (λ t. absurd (none-some r (sym (when (is_within b i y) _ _ w ∙ when (is_one c) None _ t) ∙ e)))
      (λ u. of_all (plain b y.name && same_at i y.at)
      (sym (when (is_within b i y) _ _ w ∙ unless (is_one c) None _ u ∙ unless (m.pinned y.name) (m.old y) _ free) ∙ e))
      (two (is_one c)))
      (λ w. others_skipped rest (less_one c) i y r free (sym (unless (is_within b i y) _ _ w) ∙ e))
      (two (is_within b i y))
    where
      of_all : (p : Bool) → cond p (Some m.skipped) None ≡ Some r → r ≡ m.skipped
      of_all true e = let z : m.skipped ≡ r = cc in sym z
      of_all false e = absurd (none-some r e)

  -- and kept ones are the old ones
  pub others_old : (bs : Branches) (c : ℕ) (i : List ℕ) (y : Address) → in_others bs c i y ≡ true → m.pinned y.name ≡ true
      → skip_others m bs c i y ≡ m.old y
  others_old no_branch c i y h k = absurd (true≢false (sym h))
  others_old (branch b rest) c i y h k =
      ⊎_elim
      (λ w. ⊎_elim
      (λ t. absurd (true≢false (sym h ∙ when (is_within b i y) (cond (is_one c) false true) _ w ∙ when (is_one c) false true t)))
      (λ u. when (is_within b i y) _ _ w ∙ unless (is_one c) None _ u ∙ when (m.pinned y.name) (m.old y) _ k)
      (two (is_one c)))
      (λ w. unless (is_within b i y) _ _ w
      ∙ others_old rest (less_one c) i y (sym (unless (is_within b i y) (cond (is_one c) false true) _ w) ∙ h) k)
      (two (is_within b i y))

-- where the rows of what is passed over and of what is skipped stand
pub passed_in : {Row Begun Decision Verdict : Type 0} (m : Source Row Begun Decision Verdict) (kind : Kind) (c : ℕ) (i : List ℕ)
    (y : Address) (r : Row) → passed_over m kind c i y ≡ Some r
    → (holds kind y.name && starts i y.at) ≡ true
passed_in m Leaf c i y r e = absurd (none-some r e)
passed_in m (Scope g) c i y r e = absurd (none-some r e)
passed_in m (Choice bs) c i y r e = others_among bs c i y (some_others m bs c i y r e)
passed_in m (Foreach pace g) c i y r e = absurd (none-some r e)
passed_in m (Until most g) c i y r e = absurd (none-some r e)

pub skipped_in : {Row Begun Decision Verdict : Type 0} (m : Source Row Begun Decision Verdict) (kind : Kind) (n : ℕ) (i : List ℕ)
    (y : Address) (r : Row) → skip m n kind i y ≡ Some r
    → is_in n kind i y ≡ true
skipped_in m kind n i y r e =
    let h = skip_in m n kind i y r e in
    and_of (nat_eq n y.name || holds kind y.name) (starts i y.at)
    (either_or (nat_eq n y.name) (shows kind y.name) (nat_eq n y.name) (holds kind y.name) (λ t. t) (shows_holds kind y.name) h.0)
    (same_starts i y.at h.1)
