-- Which loops are round two actions, and which of them a reference leaves, by the lists of the loops round each.
use Rattle.std.proofs.Common.{◌≡◌, ℕ, suc, Bool, true, false, ◌&&◌, ◌||◌, cond, List, [], ◌∷◌, drop, length, inl, inr, refl, sym, ap}
use Rattle.std.proofs.Common.{ap₂, ◌∙◌, subst}
use Rattle.std.proofs.Common.{true≢false, nat_eq, eqb-true}
use Rattle.wf_layers.specs.Definition.{Pace, Kind, Leaf, Scope, Choice, Foreach, Until, Branches, no_branch, branch, Graph, done, add}
use Rattle.wf_layers.specs.Definition.{holds, has, has_any}
use Rattle.wf_layers.specs.Seen.{Once, OnceIn, OnceAny}
use Rattle.wf_layers.proofs.Basics.{two, and_of, or_first, or_second, when, unless, same_self}
use Rattle.wf_views.specs.LoopsLoops.{left_any, left_in, left_round, loops_any, loops_in, loops_of, paces_any, paces_in, paces_round}
use Rattle.wf_views.proofs.HeldLemmas.{paces_none}
use Rattle.wf_views.specs.Loops.{common}

first_is : {n l : ℕ} {ns ls : List ℕ} → n ∷ ns ≡ l ∷ ls → n ≡ l
first_is e = cc

-- ---- the outermost loop round an action stands where the action does

mutual
  head_in : (m : ℕ) (kind : Kind) (x l : ℕ) (ls : List ℕ) → loops_in m kind x ≡ l ∷ ls → (nat_eq m l || holds kind l) ≡ true
  head_in m Leaf x l ls e = cc
  head_in m (Scope g) x l ls e = or_second (nat_eq m l) (has g l) (head_of g x l ls e)
  head_in m (Choice bs) x l ls e = or_second (nat_eq m l) (has_any bs l) (head_any bs x l ls e)
  head_in m (Foreach pace g) x l ls e =
      or_first (nat_eq m l) (has g l) (subst (λ (k : ℕ). nat_eq m k ≡ true) (first_is e) (same_self m))
  head_in m (Until most g) x l ls e =
      or_first (nat_eq m l) (has g l) (subst (λ (k : ℕ). nat_eq m k ≡ true) (first_is e) (same_self m))

  head_any : (bs : Branches) (x l : ℕ) (ls : List ℕ) → loops_any bs x ≡ l ∷ ls → has_any bs l ≡ true
  head_any no_branch x l ls e = cc
  head_any (branch b rest) x l ls e = elim (two (has b x)) [
    | inl t ↦ or_first (has b l) (has_any rest l) (head_of b x l ls (sym (when (has b x) (loops_of b x) (loops_any rest x) t) ∙ e))
    | inr f ↦ or_second (has b l) (has_any rest l) (head_any rest x l ls (sym (unless (has b x) (loops_of b x) (loops_any rest x) f) ∙ e))
  ]

  head_of : (g : Graph) (x l : ℕ) (ls : List ℕ) → loops_of g x ≡ l ∷ ls → has g l ≡ true
  head_of done x l ls e = cc
  head_of (add n after kind rest) x l ls e = elim (two (holds kind x)) [
    | inl t ↦ or_first (nat_eq n l || holds kind l) (has rest l)
        (head_in n kind x l ls (sym (when (holds kind x) (loops_in n kind x) (loops_of rest x) t) ∙ e))
    | inr f ↦ or_second (nat_eq n l || holds kind l) (has rest l)
        (head_of rest x l ls (sym (unless (holds kind x) (loops_in n kind x) (loops_of rest x) f) ∙ e))
  ]

-- ---- lists that begin apart have nothing in common

abbrev Apart : List ℕ → List ℕ → Type 0
Apart ls ms = (l : ℕ) (as' bs : List ℕ) → ls ≡ l ∷ as' → ms ≡ l ∷ bs → ⊥

common_none : (ls ms : List ℕ) → Apart ls ms → common ls ms ≡ 0
common_none [] ms apart = refl
common_none (l ∷ ls) [] apart = refl
common_none (l ∷ ls) (m ∷ ms) apart = elim (two (nat_eq l m)) [
  | inl t ↦ absurd (apart l ls ms refl (ap (λ (k : ℕ). k ∷ ms) (sym (eqb-true l m t))))
  | inr f ↦ unless (nat_eq l m) (suc (common ls ms)) 0 f
]

no_both : (b c : Bool) → c ≡ false → (b && c) ≡ false
no_both true c f = f
no_both false c f = refl

front_off : (b c : Bool) → (b || c) ≡ false → b ≡ false
front_off true c e = absurd (true≢false e)
front_off false c e = refl

back_off : (b c : Bool) → (b || c) ≡ false → c ≡ false
back_off true c e = absurd (true≢false e)
back_off false c e = e

-- what isn't there has no loop in common with anything
any_none : (bs : Branches) (x y : ℕ) → has_any bs y ≡ false → paces_any bs x y ≡ []
any_none no_branch x y off = refl
any_none (branch b rest) x y off =
    unless (has b x && has b y) (paces_round b x y) (paces_any rest x y)
    (no_both (has b x) (has b y) (front_off (has b y) (has_any rest y) off))
    ∙ any_none rest x y (back_off (has b y) (has_any rest y) off)

any_none_of : (bs : Branches) (x y : ℕ) → has_any bs x ≡ false → paces_any bs x y ≡ []
any_none_of no_branch x y off = refl
any_none_of (branch b rest) x y off =
    unless (has b x && has b y) (paces_round b x y) (paces_any rest x y)
    (ap (λ (c : Bool). c && has b y) (front_off (has b x) (has_any rest x) off))
    ∙ any_none_of rest x y (back_off (has b x) (has_any rest x) off)

none_of : (g : Graph) (x y : ℕ) → has g x ≡ false → paces_round g x y ≡ []
none_of done x y off = refl
none_of (add m after kind rest) x y off = elim (two (holds kind x)) [
  | inl t ↦ absurd (true≢false (sym (or_first (nat_eq m x || holds kind x) (has rest x) (or_second (nat_eq m x) (holds kind x) t)) ∙ off))
  | inr f ↦ unless (holds kind x && holds kind y) (paces_in kind x y) (paces_round rest x y) (ap (λ (c : Bool). c && holds kind y) f)
      ∙ none_of rest x y (elim (two (has rest x)) [
        | inl t ↦ absurd (true≢false (sym (or_second (nat_eq m x || holds kind x) (has rest x) t) ∙ off))
        | inr g ↦ g
      ])
]

-- ---- the lists of the loops round x and y, those round both, and those that a reference from y to x leaves

pub record Fronts (xs ys : List ℕ) (paces : List Pace) (left : List ℕ) : Type 0 where
  pub many : common xs ys ≡ length paces
  pub leaves : left ≡ drop (length paces) xs

fronts_as : {xs xs' ys ys' left left' : List ℕ} {paces paces' : List Pace} → xs ≡ xs' → ys ≡ ys' → paces ≡ paces' → left ≡ left'
    → Fronts xs' ys' paces' left' → Fronts xs ys paces left
fronts_as xs-is ys-is paces-is left-is h = record {
  many = ap₂ common xs-is ys-is ∙ (h.many ∙ ap length (sym paces-is));
  leaves = left-is ∙ (h.leaves ∙ ap₂ (λ (ps : List Pace) (zs : List ℕ). drop (length ps) zs) (sym paces-is) (sym xs-is));
}

apart_fronts : (xs ys : List ℕ) → Apart xs ys → Fronts xs ys [] xs
apart_fronts xs ys apart = record { many = common_none xs ys apart; leaves = refl }

mutual
  fronts_in : (m : ℕ) (kind : Kind) → OnceIn kind → (x y : ℕ)
      → Fronts (loops_in m kind x) (loops_in m kind y) (paces_in kind x y) (left_in kind x y)
  fronts_in m Leaf once x y = record { many = refl; leaves = refl }
  fronts_in m (Scope g) once x y = fronts_of g once x y
  fronts_in m (Choice bs) once x y = fronts_any bs once x y
  fronts_in m (Foreach pace g) once x y = let h = fronts_of g once x y in record {
    many = when (nat_eq m m) (suc (common (loops_of g x) (loops_of g y))) 0 (same_self m) ∙ ap suc h.many;
    leaves = h.leaves;
  }
  fronts_in m (Until most g) once x y = let h = fronts_of g once x y in record {
    many = when (nat_eq m m) (suc (common (loops_of g x) (loops_of g y))) 0 (same_self m) ∙ ap suc h.many;
    leaves = h.leaves;
  }

  fronts_any : (bs : Branches) → OnceAny bs → (x y : ℕ) → Fronts (loops_any bs x) (loops_any bs y) (paces_any bs x y) (left_any bs x y)
  fronts_any no_branch once x y = record { many = refl; leaves = refl }
  fronts_any (branch b rest) once x y = elim (two (has b x)) [
    | inl hx ↦ elim (two (has b y)) [
      | inl hy ↦ fronts_as (when (has b x) (loops_of b x) (loops_any rest x) hx) (when (has b y) (loops_of b y) (loops_any rest y) hy)
          (when (has b x && has b y) (paces_round b x y) (paces_any rest x y) (and_of (has b x) (has b y) hx hy))
          (when (has b x) (cond (has b y) (left_round b x y) (loops_of b x)) (left_any rest x y) hx
          ∙ when (has b y) (left_round b x y) (loops_of b x) hy)
          (fronts_of b once.1 x y)
      | inr off ↦ fronts_as (when (has b x) (loops_of b x) (loops_any rest x) hx) (unless (has b y) (loops_of b y) (loops_any rest y) off)
          (unless (has b x && has b y) (paces_round b x y) (paces_any rest x y) (no_both (has b x) (has b y) off)
          ∙ any_none_of rest x y (once.0 x hx))
          (when (has b x) (cond (has b y) (left_round b x y) (loops_of b x)) (left_any rest x y) hx
          ∙ unless (has b y) (left_round b x y) (loops_of b x) off)
          (apart_fronts (loops_of b x) (loops_any rest y)
          (λ l as' bs' e f. true≢false (sym (head_any rest y l bs' f) ∙ once.0 l (head_of b x l as' e))))
    ]
    | inr ox ↦ elim (two (has b y)) [
      | inl hy ↦
          let h = fronts_any rest once.2 x y in
          let none = any_none rest x y (once.0 y hy) in
          fronts_as (unless (has b x) (loops_of b x) (loops_any rest x) ox) (when (has b y) (loops_of b y) (loops_any rest y) hy)
          (unless (has b x && has b y) (paces_round b x y) (paces_any rest x y) (ap (λ (c : Bool). c && has b y) ox) ∙ none)
          (unless (has b x) (cond (has b y) (left_round b x y) (loops_of b x)) (left_any rest x y) ox
          ∙ (h.leaves ∙ ap (λ (ps : List Pace). drop (length ps) (loops_any rest x)) none))
          (apart_fronts (loops_any rest x) (loops_of b y)
          (λ l as' bs' e f. true≢false (sym (head_any rest x l as' e) ∙ once.0 l (head_of b y l bs' f))))
      | inr oy ↦ fronts_as (unless (has b x) (loops_of b x) (loops_any rest x) ox) (unless (has b y) (loops_of b y) (loops_any rest y) oy)
          (unless (has b x && has b y) (paces_round b x y) (paces_any rest x y) (ap (λ (c : Bool). c && has b y) ox))
          (unless (has b x) (cond (has b y) (left_round b x y) (loops_of b x)) (left_any rest x y) ox)
          (fronts_any rest once.2 x y)
    ]
  ]

  pub fronts_of : (g : Graph) → Once g → (x y : ℕ) → Fronts (loops_of g x) (loops_of g y) (paces_round g x y) (left_round g x y)
  fronts_of done once x y = record { many = refl; leaves = refl }
  fronts_of (add m after kind rest) once x y = elim (two (holds kind x)) [
    | inl hx ↦ elim (two (holds kind y)) [
      | inl hy ↦ fronts_as (when (holds kind x) (loops_in m kind x) (loops_of rest x) hx)
          (when (holds kind y) (loops_in m kind y) (loops_of rest y) hy)
          (when (holds kind x && holds kind y) (paces_in kind x y) (paces_round rest x y) (and_of (holds kind x) (holds kind y) hx hy))
          (when (holds kind x) (cond (holds kind y) (left_in kind x y) (loops_in m kind x)) (left_round rest x y) hx
          ∙ when (holds kind y) (left_in kind x y) (loops_in m kind x) hy)
          (fronts_in m kind once.2 x y)
      | inr oy ↦ fronts_as (when (holds kind x) (loops_in m kind x) (loops_of rest x) hx)
          (unless (holds kind y) (loops_in m kind y) (loops_of rest y) oy)
          (unless (holds kind x && holds kind y) (paces_in kind x y) (paces_round rest x y) (no_both (holds kind x) (holds kind y) oy)
          ∙ none_of rest x y (once.1 x (or_second (nat_eq m x) (holds kind x) hx)))
          (when (holds kind x) (cond (holds kind y) (left_in kind x y) (loops_in m kind x)) (left_round rest x y) hx
          ∙ unless (holds kind y) (left_in kind x y) (loops_in m kind x) oy)
          (apart_fronts (loops_in m kind x) (loops_of rest y)
          (λ l as' bs' e f. true≢false (sym (head_of rest y l bs' f) ∙ once.1 l (head_in m kind x l as' e))))
    ]
    | inr ox ↦ elim (two (holds kind y)) [
      | inl hy ↦
          let h = fronts_of rest once.3 x y in
          let none = paces_none rest x y (once.1 y (or_second (nat_eq m y) (holds kind y) hy)) in
          fronts_as (unless (holds kind x) (loops_in m kind x) (loops_of rest x) ox)
          (when (holds kind y) (loops_in m kind y) (loops_of rest y) hy)
          (unless (holds kind x && holds kind y) (paces_in kind x y) (paces_round rest x y) (ap (λ (c : Bool). c && holds kind y) ox) ∙ none)
          (unless (holds kind x) (cond (holds kind y) (left_in kind x y) (loops_in m kind x)) (left_round rest x y) ox
          ∙ (h.leaves ∙ ap (λ (ps : List Pace). drop (length ps) (loops_of rest x)) none))
          (apart_fronts (loops_of rest x) (loops_in m kind y)
          (λ l as' bs' e f. true≢false (sym (head_of rest x l as' e) ∙ once.1 l (head_in m kind y l bs' f))))
      | inr oy ↦ fronts_as (unless (holds kind x) (loops_in m kind x) (loops_of rest x) ox)
          (unless (holds kind y) (loops_in m kind y) (loops_of rest y) oy)
          (unless (holds kind x && holds kind y) (paces_in kind x y) (paces_round rest x y) (ap (λ (c : Bool). c && holds kind y) ox))
          (unless (holds kind x) (cond (holds kind y) (left_in kind x y) (loops_in m kind x)) (left_round rest x y) ox)
          (fronts_of rest once.3 x y)
    ]
  ]
