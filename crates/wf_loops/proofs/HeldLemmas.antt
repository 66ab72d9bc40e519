-- What stands inside a container: the loops round it and round the container, those that a reference out of it leaves, and its kind.
use Rattle.std.proofs.Common.{◌≡◌, ℕ, suc, Bool, true, false, ◌&&◌, ◌||◌, cond, List, [], length, Option, Some, ◌⊎◌, inl, inr, refl, sym}
use Rattle.std.proofs.Common.{ap, ◌∙◌, subst, true≢false, nat_eq, eqb-true}
use Rattle.std.proofs.lemmas.Option.{none-some}
use Rattle.wf_order.specs.Definition.{Pace, Kind, Leaf, Scope, Choice, Foreach, Until, Branches, no_branch, branch, Graph, done, add}
use Rattle.wf_order.specs.Definition.{holds, has, has_any, kind_in, kind_any, kind_of}
use Rattle.wf_order.specs.Seen.{Once, OnceIn, OnceAny}
use Rattle.wf_order.proofs.Basics.{two, and_of, or_first, or_second, when, unless}
use Rattle.wf_order.proofs.Tables.{has_in, any_in, holds_in}
use Rattle.wf_loops.specs.Loops.{left_any, left_in, left_round, loops_any, loops_in, loops_of, paces_any, paces_in, paces_round}
use Rattle.wf_loops.proofs.InsideLemmas.{at_first, in_first, behind_first, stands, kind_has}
use Rattle.wf_loops.proofs.RoundLemmas.{loops_none}

pub record Told (paces : List Pace) (round left : List ℕ) (found : Option Kind) (n : ℕ) (k : Kind) (x : ℕ) : Type 0 where
  pub many : length paces ≡ length round
  pub leaves : left ≡ loops_in n k x
  pub kind : found ≡ kind_in k x

pub paces_none : (g : Graph) (x y : ℕ) → has g y ≡ false → paces_round g x y ≡ []
paces_none done x y off = refl
paces_none (add m after kind rest) x y off = elim (two (holds kind y)) [
  | inl t ↦ absurd (true≢false (sym (or_first (nat_eq m y || holds kind y) (has rest y) (or_second (nat_eq m y) (holds kind y) t)) ∙ off))
  | inr f ↦ unless (holds kind x && holds kind y) (paces_in kind x y) (paces_round rest x y) (no_both (holds kind x) (holds kind y) f)
      ∙ paces_none rest x y (not_behind (two (has rest y)))
]
  where
    no_both : (b c : Bool) → c ≡ false → (b && c) ≡ false
    no_both true c f = f
    no_both false c f = refl

    not_behind : (has rest y ≡ true) ⊎ (has rest y ≡ false) → has rest y ≡ false
    not_behind (inl t) = absurd (true≢false (sym (or_second (nat_eq m y || holds kind y) (has rest y) t) ∙ off))
    not_behind (inr f) = f

and_off : (b : Bool) → (b && false) ≡ false
and_off true = refl
and_off false = refl

pub not_first : (rest : Branches) (x : ℕ) (b : Graph) → has_any rest x ≡ true → ((m : ℕ) → has b m ≡ true → has_any rest m ≡ false)
    → has b x ≡ false
not_first rest x b there apart = elim (two (has b x)) [
  | inl t ↦ absurd (true≢false (sym there ∙ apart x t))
  | inr f ↦ f
]

pub not_own : (x m : ℕ) (kind : Kind) → holds kind m ≡ false → holds kind x ≡ true → nat_eq m x ≡ false
not_own x m kind off hx = elim (two (nat_eq m x)) [
  | inl t ↦ absurd (true≢false (sym hx ∙ subst (λ (q : ℕ). holds kind q ≡ false) (eqb-true m x t) off))
  | inr f ↦ f
]

pub passed : (m : ℕ) (kind : Kind) (rest : Graph) → ((q : ℕ) → (nat_eq m q || holds kind q) ≡ true → has rest q ≡ false) → (x : ℕ)
    → has rest x ≡ true
    → (nat_eq m x ≡ false) × (holds kind x ≡ false)
passed m kind rest apart x there = (
  first (two (nat_eq m x)),
  second (two (holds kind x)),
)
  where
    first : (nat_eq m x ≡ true) ⊎ (nat_eq m x ≡ false) → nat_eq m x ≡ false
    first (inl t) = absurd (true≢false (sym there ∙ apart x (or_first (nat_eq m x) (holds kind x) t)))
    first (inr f) = f

    second : (holds kind x ≡ true) ⊎ (holds kind x ≡ false) → holds kind x ≡ false
    second (inl t) = absurd (true≢false (sym there ∙ apart x (or_second (nat_eq m x) (holds kind x) t)))
    second (inr f) = f

-- the container n, of the kind k, holds x
module _ (n x : ℕ) (k : Kind) (inner : holds k x ≡ true) where
  mutual
    told_in : (m : ℕ) (kind : Kind) → OnceIn kind → kind_in kind n ≡ Some k
        → Told (paces_in kind x n) (loops_in m kind n) (left_in kind x n) (kind_in kind x) n k x
    told_in m Leaf once e = absurd (none-some k e)
    told_in m (Scope g) once e = told_of g once e
    told_in m (Choice bs) once e = told_any bs once e
    told_in m (Foreach pace g) once e = let h = told_of g once e in record { many = ap suc h.many; leaves = h.leaves; kind = h.kind }
    told_in m (Until most g) once e = let h = told_of g once e in record { many = ap suc h.many; leaves = h.leaves; kind = h.kind }

    told_any : (bs : Branches) → OnceAny bs → kind_any bs n ≡ Some k
        → Told (paces_any bs x n) (loops_any bs n) (left_any bs x n) (kind_any bs x) n k x
    told_any no_branch once e = absurd (none-some k e)
    told_any (branch b rest) once e = elim (two (has b n)) [
      | inl t ↦
          let here = sym (when (has b n) (kind_of b n) (kind_any rest n) t) ∙ e in
          let h = told_of b once.1 here in
          let bx = has_in b n x k here inner in record {
            many = ap length (when (has b x && has b n) (paces_round b x n) (paces_any rest x n) (and_of (has b x) (has b n) bx t))
                ∙ (h.many ∙ ap length (sym (when (has b n) (loops_of b n) (loops_any rest n) t)));
            leaves = when (has b x) (cond (has b n) (left_round b x n) (loops_of b x)) (left_any rest x n) bx
                ∙ (when (has b n) (left_round b x n) (loops_of b x) t ∙ h.leaves);
            kind = when (has b x) (kind_of b x) (kind_any rest x) bx ∙ h.kind;
          }
      | inr f ↦
          let later = sym (unless (has b n) (kind_of b n) (kind_any rest n) f) ∙ e in
          let h = told_any rest once.2 later in
          let out = not_first rest x b (any_in rest n x k later inner) once.0 in record {
            many = ap length (unless (has b x && has b n) (paces_round b x n) (paces_any rest x n) (ap (λ (c : Bool). c && has b n) out))
                ∙ (h.many ∙ ap length (sym (unless (has b n) (loops_of b n) (loops_any rest n) f)));
            leaves = unless (has b x) (cond (has b n) (left_round b x n) (loops_of b x)) (left_any rest x n) out ∙ h.leaves;
            kind = unless (has b x) (kind_of b x) (kind_any rest x) out ∙ h.kind;
          }
    ]

    pub told_of : (g : Graph) → Once g → kind_of g n ≡ Some k → Told (paces_round g x n) (loops_of g n) (left_round g x n)
        (kind_of g x) n k x
    told_of done once e = absurd (none-some k e)
    told_of (add m after kind rest) once e = elim (stands m kind rest n k e) [
      | at_first t is ↦
          let hx = subst (λ (q : Kind). holds q x ≡ true) (sym is) inner in
          let off = subst (λ (q : ℕ). holds kind q ≡ false) (eqb-true m n t) once.0 in
          let gone = once.1 n (or_first (nat_eq m n) (holds kind n) t) in record {
            many = ap length (unless (holds kind x && holds kind n) (paces_in kind x n) (paces_round rest x n)
                (ap (λ (c : Bool). holds kind x && c) off ∙ and_off (holds kind x)) ∙ paces_none rest x n gone)
                ∙ ap length (sym (unless (holds kind n) (loops_in m kind n) (loops_of rest n) off ∙ loops_none rest n gone));
            leaves = when (holds kind x) (cond (holds kind n) (left_in kind x n) (loops_in m kind x)) (left_round rest x n) hx
                ∙ (unless (holds kind n) (left_in kind x n) (loops_in m kind x) off
                ∙ (ap (λ (q : ℕ). loops_in q kind x) (eqb-true m n t) ∙ ap (λ (q : Kind). loops_in n q x) is));
            kind = unless (nat_eq m x) (Some kind) (cond (holds kind x) (kind_in kind x) (kind_of rest x)) (not_own x m kind once.0 hx)
                ∙ (when (holds kind x) (kind_in kind x) (kind_of rest x) hx ∙ ap (λ (q : Kind). kind_in q x) is);
          }
      | in_first t is ↦
          let h = told_in m kind once.2 is in
          let hx = holds_in kind n x k is inner in record {
            many = ap length (when (holds kind x && holds kind n) (paces_in kind x n) (paces_round rest x n)
                (and_of (holds kind x) (holds kind n) hx t))
                ∙ (h.many ∙ ap length (sym (when (holds kind n) (loops_in m kind n) (loops_of rest n) t)));
            leaves = when (holds kind x) (cond (holds kind n) (left_in kind x n) (loops_in m kind x)) (left_round rest x n) hx
                ∙ (when (holds kind n) (left_in kind x n) (loops_in m kind x) t ∙ h.leaves);
            kind = unless (nat_eq m x) (Some kind) (cond (holds kind x) (kind_in kind x) (kind_of rest x)) (not_own x m kind once.0 hx)
                ∙ (when (holds kind x) (kind_in kind x) (kind_of rest x) hx ∙ h.kind);
          }
      | behind_first is ↦
          let h = told_of rest once.3 is in
          let rx = has_in rest n x k is inner in
          let rn = kind_has rest n k is in
          let out = passed m kind rest once.1 x rx in
          let away = passed m kind rest once.1 n rn in record {
            many = ap length (unless (holds kind x && holds kind n) (paces_in kind x n) (paces_round rest x n)
                (ap (λ (c : Bool). c && holds kind n) out.1))
                ∙ (h.many ∙ ap length (sym (unless (holds kind n) (loops_in m kind n) (loops_of rest n) away.1)));
            leaves = unless (holds kind x) (cond (holds kind n) (left_in kind x n) (loops_in m kind x)) (left_round rest x n) out.1
                ∙ h.leaves;
            kind = unless (nat_eq m x) (Some kind) (cond (holds kind x) (kind_in kind x) (kind_of rest x)) out.0
                ∙ (unless (holds kind x) (kind_in kind x) (kind_of rest x) out.1 ∙ h.kind);
          }
    ]
