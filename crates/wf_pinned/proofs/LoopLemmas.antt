-- No loop is closed again, and one round what is kept is kept.
use Rattle.std.proofs.Common.{◌≡◌, ℕ, Bool, true, false, cond, List, [], ◌∷◌, ◌++◌, Some, inl, inr, sym, ◌∙◌, subst}
use Rattle.std.proofs.Common.{nat_eq, eqb-true, true≢false}
use Rattle.std.proofs.lemmas.Option.{none-some}
use Rattle.wf_layers.specs.Definition.{Branches, Choice, Foreach, Graph, Kind, Leaf, Scope, Until, add, branch, done, has, holds}
use Rattle.wf_layers.specs.Definition.{kind_any, kind_in, kind_of, no_branch}
use Rattle.wf_layers.specs.Resubmission.{Split, SplitAny, SplitIn, kept}
use Rattle.wf_layers.proofs.Basics.{not_true, two, unless, when}
use Rattle.wf_layers.proofs.Resubmission.{is_kept, kept_not}
use Rattle.wf_loops.specs.Loops.{loops_any, loops_in, loops_of}
use Rattle.wf_seen_laws.proofs.RoundLemmas.{first_is, none_split, tail_is}
use Rattle.wf_meant_laws.specs.Answering.{IsLoop}

some_is : {A : Type 0} {u v : A} → Some u ≡ Some v → u ≡ v
some_is e = cc (e)

module _ (redo again : ℕ → Bool) where
  own_loop : (n : ℕ) (kind : Kind) → SplitIn redo again kind n → IsLoop kind → again n ≡ false
  own_loop n Leaf split loop = absurd loop
  own_loop n (Scope g) split loop = absurd loop
  own_loop n (Choice bs) split loop = absurd loop
  own_loop n (Foreach pace g) split loop = split.0
  own_loop n (Until most g) split loop = split.0

  mutual
    no_loop_in : (kind : Kind) (c n : ℕ) (k : Kind) → SplitIn redo again kind c → kind_in kind n ≡ Some k → IsLoop k → again n ≡ false
    no_loop_in Leaf c n k split is loop = absurd (none-some k is)
    no_loop_in (Scope g) c n k split is loop = no_loop g n k split is loop
    no_loop_in (Choice bs) c n k split is loop = no_loop_any bs n k split is loop
    no_loop_in (Foreach pace g) c n k split is loop = no_loop g n k split.2 is loop
    no_loop_in (Until most g) c n k split is loop = no_loop g n k split.2 is loop

    no_loop_any : (bs : Branches) (n : ℕ) (k : Kind) → SplitAny redo again bs → kind_any bs n ≡ Some k → IsLoop k → again n ≡ false
    no_loop_any no_branch n k split is loop = absurd (none-some k is)
    no_loop_any (branch b rest) n k split is loop = elim (two (has b n)) [
      | inl t ↦ no_loop b n k split.0 (sym (when (has b n) (kind_of b n) (kind_any rest n) t) ∙ is) loop
      | inr f ↦ no_loop_any rest n k split.1 (sym (unless (has b n) (kind_of b n) (kind_any rest n) f) ∙ is) loop
    ]

    -- THE LAW
    pub no_loop : (g : Graph) (n : ℕ) (k : Kind) → Split redo again g → kind_of g n ≡ Some k → IsLoop k → again n ≡ false
    no_loop done n k split is loop = absurd (none-some k is)
    no_loop (add c after kind rest) n k split is loop = elim (two (nat_eq c n)) [
      | inl t ↦
          let same = some_is (sym (when (nat_eq c n) (Some kind) (cond (holds kind n) (kind_in kind n) (kind_of rest n)) t) ∙ is) in
          subst (λ (q : ℕ). again q ≡ false) (eqb-true c n t) (own_loop c kind split.2 (subst IsLoop (sym same) loop))
      | inr o ↦
          let is' = sym (unless (nat_eq c n) (Some kind) (cond (holds kind n) (kind_in kind n) (kind_of rest n)) o) ∙ is in
          elim (two (holds kind n)) [
            | inl h ↦ no_loop_in kind c n k split.2 (sym (when (holds kind n) (kind_in kind n) (kind_of rest n) h) ∙ is') loop
            | inr out ↦ no_loop rest n k split.3 (sym (unless (holds kind n) (kind_in kind n) (kind_of rest n) out) ∙ is') loop
          ]
    ]

  -- what is kept stands in nothing that is redone
  module _ (q : ℕ) (stays : kept redo again q ≡ true) where
    mutual
      round_in : (kind : Kind) (n l : ℕ) (outer inner : List ℕ) → SplitIn redo again kind n → redo n ≡ false
          → loops_in n kind q ≡ outer ++ l ∷ inner → kept redo again l ≡ true
      round_in Leaf n l outer inner split off e = absurd (none_split outer l inner e)
      round_in (Scope g) n l outer inner split off e = round_kept g l outer inner split e
      round_in (Choice bs) n l outer inner split off e = round_any bs l outer inner split e
      round_in (Foreach pace g) n l [] inner split off e =
          subst (λ (p : ℕ). kept redo again p ≡ true) (first_is e) (is_kept (redo n) (again n) off split.0)
      round_in (Foreach pace g) n l (o ∷ outer) inner split off e = round_kept g l outer inner split.2 (tail_is e)
      round_in (Until most g) n l [] inner split off e =
          subst (λ (p : ℕ). kept redo again p ≡ true) (first_is e) (is_kept (redo n) (again n) off split.0)
      round_in (Until most g) n l (o ∷ outer) inner split off e = round_kept g l outer inner split.2 (tail_is e)

      round_any : (bs : Branches) (l : ℕ) (outer inner : List ℕ) → SplitAny redo again bs → loops_any bs q ≡ outer ++ l ∷ inner
          → kept redo again l ≡ true
      round_any no_branch l outer inner split e = absurd (none_split outer l inner e)
      round_any (branch b rest) l outer inner split e = elim (two (has b q)) [
        | inl t ↦ round_kept b l outer inner split.0 (sym (when (has b q) (loops_of b q) (loops_any rest q) t) ∙ e)
        | inr f ↦ round_any rest l outer inner split.1 (sym (unless (has b q) (loops_of b q) (loops_any rest q) f) ∙ e)
      ]

      -- THE LAW
      pub round_kept : (g : Graph) (l : ℕ) (outer inner : List ℕ) → Split redo again g → loops_of g q ≡ outer ++ l ∷ inner
          → kept redo again l ≡ true
      round_kept done l outer inner split e = absurd (none_split outer l inner e)
      round_kept (add n after kind rest) l outer inner split e = elim (two (holds kind q)) [
        | inl t ↦
            round_in kind n l outer inner split.2
            (not_true (redo n) (λ is. true≢false (sym (split.0 is q t) ∙ kept_not (redo q) (again q) stays)))
            (sym (when (holds kind q) (loops_in n kind q) (loops_of rest q) t) ∙ e)
        | inr f ↦ round_kept rest l outer inner split.3 (sym (unless (holds kind q) (loops_in n kind q) (loops_of rest q) f) ∙ e)
      ]
