-- Tables with new entries, and the names inside an action.
use Rattle.std.proofs.Common.{◌≡◌, ℕ, Bool, true, false, ◌&&◌, ◌||◌, List, [], ◌∷◌, Option, Some, None, ◌⊎◌, inl, inr, ⊎_elim, refl, sym, ap, ap₂, ◌∙◌, subst, nat_eq, eqb-true, true≢false}
use Rattle.std.proofs.lemmas.Option.{none-some}
use Rattle.wf_layers.specs.Definition.{Kind, Leaf, Scope, Choice, Foreach, Until, Branches, no_branch, branch, Graph, done, add, is_one, less_one, branch_at, holds, has, has_any, shows, plain, plain_any, kind_in, kind_of, kind_any}
use Rattle.wf_layers.specs.Address.{Address, address, Table, same_at, starts, is_own, is_within, is_among}
use Rattle.wf_layers.specs.Source.{Source}
use Rattle.wf_layers.specs.Meaning.{skip, skip_all}
use Rattle.wf_layers.proofs.Basics.{two, and_in, and_of, same_self, same_self_at, when, unless}
use Rattle.wf_layers.specs.Machine.{or_else, place, one, without, opened}

-- ADDRESSES AND PLACED ROWS

pub same_at_is : (i j : List ℕ) → same_at i j ≡ true → i ≡ j
same_at_is [] [] e = refl
same_at_is [] (b ∷ j) e = absurd (true≢false (sym e))
same_at_is (a ∷ i) [] e = absurd (true≢false (sym e))
same_at_is (a ∷ i) (b ∷ j) e = let h = and_in (nat_eq a b) (same_at i j) e in ap₂ (λ x y. x ∷ y) (eqb-true a b h.0) (same_at_is i j h.1)

pub same_starts : (i j : List ℕ) → same_at i j ≡ true → starts i j ≡ true
same_starts [] j e = refl
same_starts (a ∷ i) [] e = e
same_starts (a ∷ i) (b ∷ j) e = let h = and_in (nat_eq a b) (same_at i j) e in and_of (nat_eq a b) (starts i j) h.0 (same_starts i j h.1)

pub own_is : (n : ℕ) (i : List ℕ) (x : Address) → is_own n i x ≡ true → address n i ≡ x
own_is n i x e =
    let h = and_in (nat_eq n x.name) (same_at i x.at) e in ap₂ (λ a b. address a b) (eqb-true n x.name h.0) (same_at_is i x.at h.1)

pub own_self : (n : ℕ) (i : List ℕ) → is_own n i (address n i) ≡ true
own_self n i = and_of (nat_eq n n) (same_at i i) (same_self n) (same_self_at i)

-- t has no other rows than f
pub record Within {A : Type 0} (t f : Table A) : Type 0 where
  pub by : (x : Address) (r : A) → t x ≡ Some r → f x ≡ Some r

pub one_is : {A : Type 0} (n : ℕ) (i : List ℕ) (v : A) (x : Address) (r : A) → one n i v x ≡ Some r → (address n i ≡ x) × (v ≡ r)
one_is n i v x r e =
    ⊎_elim
    (λ t. let h : Some v ≡ Some r = sym (when (is_own n i x) (Some v) None t) ∙ e in (own_is n i x t, cc))
    (λ u. absurd (none-some r (sym (unless (is_own n i x) (Some v) None u) ∙ e)))
    (two (is_own n i x))

pub one_within : {A : Type 0} (n : ℕ) (i : List ℕ) (v : A) (f : Table A) → f (address n i) ≡ Some v → Within (one n i v) f
one_within n i v f e = record { by = λ x r h. let q = one_is n i v x r h in ap f (sym q.0) ∙ e ∙ ap Some q.1 }

pub place_split : {A : Type 0} (new t : Table A) (x : Address) (r : A) → place new t x ≡ Some r → (new x ≡ Some r) ⊎ (t x ≡ Some r)
place_split {A} new t x r e = go (new x) refl
  where
    go : (o : Option A) → new x ≡ o → (new x ≡ Some r) ⊎ (t x ≡ Some r)
    go None h = inr (ap (λ o. or_else o (t x)) (sym h) ∙ e)
    go (Some q) h = inl (h ∙ ap (λ o. or_else o (t x)) (sym h) ∙ e)

pub place_none : {A : Type 0} (new t : Table A) (x : Address) → place new t x ≡ None → t x ≡ None
place_none {A} new t x e = go (new x) refl
  where
    go : (o : Option A) → new x ≡ o → t x ≡ None
    go None h = ap (λ o. or_else o (t x)) (sym h) ∙ e
    go (Some q) h = absurd (none-some q (sym e ∙ ap (λ o. or_else o (t x)) h))

pub place_agrees : {A : Type 0} (new t f : Table A) → Within new f → (y : Address) → t y ≡ f y → place new t y ≡ f y
place_agrees {A} new t f w y e = go (new y) refl
  where
    go : (o : Option A) → new y ≡ o → place new t y ≡ f y
    go None h = ap (λ o. or_else o (t y)) h ∙ e
    go (Some q) h = ap (λ o. or_else o (t y)) h ∙ sym (w.by y q h)

-- where the new rows are all that f has
pub place_fills : {A : Type 0} (new t f : Table A) → Within t f → (y : Address) → f y ≡ new y → place new t y ≡ f y
place_fills {A} new t f w y e = go (new y) (t y) refl refl
  where
    go : (o q : Option A) → new y ≡ o → t y ≡ q → place new t y ≡ f y
    go None None h k = ap (λ o. or_else o (t y)) h ∙ k ∙ sym (e ∙ h)
    go None (Some r) h k = absurd (none-some r (sym (e ∙ h) ∙ w.by y r k))
    go (Some r) q h k = ap (λ o. or_else o (t y)) h ∙ sym (e ∙ h)

pub place_within : {A : Type 0} (new t f : Table A) → Within new f → Within t f → Within (place new t) f
place_within new t f v w = record { by = λ x r e. ⊎_elim (λ h. v.by x r h) (λ h. w.by x r h) (place_split new t x r e) }

pub nothing : {A : Type 0} (t f : Table A) → Within t f → (y : Address) → f y ≡ None → t y ≡ f y
nothing {A} t f w y e = go (t y) refl
  where
    go : (o : Option A) → t y ≡ o → t y ≡ f y
    go None h = h ∙ sym e
    go (Some r) h = absurd (none-some r (sym e ∙ w.by y r h))

pub own_placed : {A : Type 0} (n : ℕ) (i : List ℕ) (v : A) (t f : Table A) (y : Address) → f (address n i) ≡ Some v → is_own n i y ≡ true
    → place (one n i v) t y ≡ f y
own_placed n i v t f y e h = ap (λ o. or_else o (t y)) (when (is_own n i y) (Some v) None h) ∙ sym e ∙ ap f (own_is n i y h)

pub without_split : {A : Type 0} (n : ℕ) (i : List ℕ) (t : Table A) (x : Address) (r : A) → without n i t x ≡ Some r → t x ≡ Some r
without_split n i t x r e =
    ⊎_elim (λ h. absurd (none-some r (sym (when (is_own n i x) None (t x) h) ∙ e))) (λ h. sym (unless (is_own n i x) None (t x) h) ∙ e)
    (two (is_own n i x))

pub opened_split : {A : Type 0} (n : ℕ) (i : List ℕ) (w : Option A) (o : Table A) (x : Address) (u : A) → opened n i w o x ≡ Some u
    → ((address n i ≡ x) × (w ≡ Some u)) ⊎ (o x ≡ Some u)
opened_split n i w o x u e =
    ⊎_elim (λ h. inl (own_is n i x h, sym (when (is_own n i x) w (o x) h) ∙ e)) (λ h. inr (sym (unless (is_own n i x) w (o x) h) ∙ e))
    (two (is_own n i x))

pub either_or : (p q u v : Bool) → (p ≡ true → u ≡ true) → (q ≡ true → v ≡ true) → (p || q) ≡ true → (u || v) ≡ true
either_or true q u v f g e = ap (λ x. x || v) (f refl)
either_or false q true v f g e = refl
either_or false q false v f g e = g e

pub or_true : (p : Bool) → (p || true) ≡ true
or_true true = refl
or_true false = refl

pub held : (n : ℕ) (kind : Kind) (rest : Graph) (b : ℕ) → holds kind b ≡ true → (nat_eq n b || holds kind b || has rest b) ≡ true
held n kind rest b h = ap (λ x. nat_eq n b || x || has rest b) h ∙ ap (λ x. x || has rest b) (or_true (nat_eq n b))

pub later' : (n : ℕ) (kind : Kind) (rest : Graph) (b : ℕ) → has rest b ≡ true → (nat_eq n b || holds kind b || has rest b) ≡ true
later' n kind rest b h = ap (λ x. nat_eq n b || holds kind b || x) h ∙ or_true (nat_eq n b || holds kind b)

pub skip_in : {Row Begun Decision Verdict : Type 0} (m : Source Row Begun Decision Verdict) (n : ℕ) (kind : Kind) (i : List ℕ) (y : Address)
    (r : Row) → skip m n kind i y ≡ Some r → ((nat_eq n y.name || shows kind y.name) ≡ true) × (same_at i y.at ≡ true)
skip_in m n kind i y r e =
    ⊎_elim (λ t. and_in (nat_eq n y.name || shows kind y.name) (same_at i y.at) t)
    (λ u. absurd (none-some r (sym (unless ((nat_eq n y.name || shows kind y.name) && same_at i y.at) (Some m.skipped) None u) ∙ e)))
    (two ((nat_eq n y.name || shows kind y.name) && same_at i y.at))

pub skip_all_in : {Row Begun Decision Verdict : Type 0} (m : Source Row Begun Decision Verdict) (g : Graph) (i : List ℕ) (y : Address)
    (r : Row) → m.pinned y.name ≡ false → skip_all m g i y ≡ Some r → (plain g y.name ≡ true) × (same_at i y.at ≡ true)
skip_all_in m g i y r free e =
    let e' = sym (unless (m.pinned y.name) (m.old y) _ free) ∙ e in
    ⊎_elim (λ t. and_in (plain g y.name) (same_at i y.at) t)
    (λ u. absurd (none-some r (sym (unless (plain g y.name && same_at i y.at) (Some m.skipped) None u) ∙ e')))
    (two (plain g y.name && same_at i y.at))

mutual
  pub shows_holds : (kind : Kind) (q : ℕ) → shows kind q ≡ true → holds kind q ≡ true
  shows_holds Leaf q e = e
  shows_holds (Scope g) q e = plain_has g q e
  shows_holds (Choice bs) q e = any_plain bs q e
  shows_holds (Foreach pace g) q e = absurd (true≢false (sym e))
  shows_holds (Until most g) q e = absurd (true≢false (sym e))

  pub any_plain : (bs : Branches) (q : ℕ) → plain_any bs q ≡ true → has_any bs q ≡ true
  any_plain no_branch q e = e
  any_plain (branch b rest) q e = either_or (plain b q) (plain_any rest q) (has b q) (has_any rest q) (plain_has b q) (any_plain rest q) e

  pub plain_has : (g : Graph) (q : ℕ) → plain g q ≡ true → has g q ≡ true
  plain_has done q e = e
  plain_has (add n after kind rest) q e =
      either_or (nat_eq n q || shows kind q) (plain rest q) (nat_eq n q || holds kind q) (has rest q)
      (λ h. either_or (nat_eq n q) (shows kind q) (nat_eq n q) (holds kind q) (λ x. x) (shows_holds kind q) h) (plain_has rest q) e

mutual
  pub holds_in : (kind : Kind) (a b : ℕ) (k : Kind) → kind_in kind a ≡ Some k → holds k b ≡ true → holds kind b ≡ true
  holds_in Leaf a b k e h = absurd (none-some k e)
  holds_in (Scope g) a b k e h = has_in g a b k e h
  holds_in (Choice bs) a b k e h = any_in bs a b k e h
  holds_in (Foreach pace g) a b k e h = has_in g a b k e h
  holds_in (Until most g) a b k e h = has_in g a b k e h

  pub any_in : (bs : Branches) (a b : ℕ) (k : Kind) → kind_any bs a ≡ Some k → holds k b ≡ true → has_any bs b ≡ true
  any_in no_branch a b k e h = absurd (none-some k e)
  any_in (branch x rest) a b k e h =
      ⊎_elim
      (λ t. ap (λ p. p || has_any rest b) (has_in x a b k (sym (when (has x a) (kind_of x a) (kind_any rest a) t) ∙ e) h))
      (λ u. either_or (has x b) true (has x b) (has_any rest b) (λ p. p)
      (λ p. any_in rest a b k (sym (unless (has x a) (kind_of x a) (kind_any rest a) u) ∙ e) h) (or_true (has x b)))
      (two (has x a))

  pub has_in : (g : Graph) (a b : ℕ) (k : Kind) → kind_of g a ≡ Some k → holds k b ≡ true → has g b ≡ true
  has_in done a b k e h = absurd (none-some k e)
  has_in (add n after kind rest) a b k e h =
      ⊎_elim
      (λ t. let s : Some kind ≡ Some k = sym (when (nat_eq n a) (Some kind) _ t) ∙ e in let same : kind ≡ k = cc in
      held n kind rest b (subst (λ x. holds x b ≡ true) (sym same) h))
      (λ u. let e' = sym (unless (nat_eq n a) (Some kind) _ u) ∙ e in
      ⊎_elim
      (λ t. held n kind rest b (holds_in kind a b k (sym (when (holds kind a) (kind_in kind a) (kind_of rest a) t) ∙ e') h))
      (λ v. later' n kind rest b (has_in rest a b k (sym (unless (holds kind a) (kind_in kind a) (kind_of rest a) v) ∙ e') h))
      (two (holds kind a)))
      (two (nat_eq n a))

pub inner_name : (kind : Kind) (a b : ℕ) (l : Kind) → kind_in kind a ≡ Some l → holds kind a ≡ true → (nat_eq a b || holds l b) ≡ true
    → holds kind b ≡ true
inner_name kind a b l e h t =
    ⊎_elim (λ q. subst (λ x. holds kind x ≡ true) (eqb-true a b q) h) (λ q. holds_in kind a b l e (sym (ap (λ x. x || holds l b) q) ∙ t))
    (two (nat_eq a b))

pub inner_of : (g : Graph) (a b : ℕ) (l : Kind) → kind_of g a ≡ Some l → has g a ≡ true → (nat_eq a b || holds l b) ≡ true → has g b ≡ true
inner_of g a b l e h t =
    ⊎_elim (λ q. subst (λ x. has g x ≡ true) (eqb-true a b q) h) (λ q. has_in g a b l e (sym (ap (λ x. x || holds l b) q) ∙ t))
    (two (nat_eq a b))

-- THE BRANCH THAT IS TAKEN

pub branch_none : (bs : Branches) → branch_at bs 0 ≡ None
branch_none no_branch = refl
branch_none (branch b rest) = branch_none rest

module _ (b : Graph) where
  -- what the branch has, the branches have
  pub taken_has : (bs : Branches) (c : ℕ) → branch_at bs c ≡ Some b → (q : ℕ) → has b q ≡ true → has_any bs q ≡ true
  taken_has no_branch c e q h = absurd (none-some b e)
  taken_has (branch a rest) c e q h =
      ⊎_elim
      (λ t. let same : Some a ≡ Some b = sym (when (is_one c) (Some a) _ t) ∙ e in let is : a ≡ b = cc in
      ap (λ p. p || has_any rest q) (subst (λ g. has g q ≡ true) (sym is) h))
      (λ u. either_or (has a q) true (has a q) (has_any rest q) (λ p. p)
      (λ p. taken_has rest (less_one c) (sym (unless (is_one c) (Some a) _ u) ∙ e) q h) (or_true (has a q)))
      (two (is_one c))

  pub taken_within : (bs : Branches) (c : ℕ) → branch_at bs c ≡ Some b → (i : List ℕ) (y : Address) → is_within b i y ≡ true
      → is_among bs i y ≡ true
  taken_within bs c e i y w =
      let h = and_in (has b y.name) (starts i y.at) w in and_of (has_any bs y.name) (starts i y.at) (taken_has bs c e y.name h.0) h.1
