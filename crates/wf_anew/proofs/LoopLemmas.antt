-- A loop is redone where what stands inside it is, as none of that is chosen; and no loop is round what is closed again.
use Rattle.std.proofs.Common.{◌≡◌, ℕ, Bool, true, false, List, [], inl, inr, refl, sym, ◌∙◌, subst, true≢false}
use Rattle.std.specs.List.{AllByRecursion}
use Rattle.wf_layers.specs.Definition.{Kind, Leaf, Scope, Choice, Foreach, Until, Branches, no_branch, branch, Graph, done, add, holds, has}
use Rattle.wf_layers.specs.Redo.{IsRedo, RedoAny, RedoIn, RedoOf}
use Rattle.wf_layers.proofs.Basics.{not_true, two, unless, when}
use Rattle.wf_layers.proofs.Redo.{kind_redone, none_again, walk_touched}
use Rattle.wf_loops.specs.Loops.{loops_any, loops_in, loops_of}

module _ (d : Graph) (chosen redo again : ℕ → Bool) where
  abbrev AllAs : ℕ → List ℕ → Type 0
  AllAs x ls = AllByRecursion (λ l. redo l ≡ redo x) ls

  as_inside : (n : ℕ) (kind : Kind) (g : Graph) → ((q : ℕ) → has g q ≡ true → chosen q ≡ false) → RedoOf d chosen redo again (redo n) g g
      → (redo n ≡ true → (q : ℕ) → has g q ≡ true → redo q ≡ true) → (x : ℕ) → has g x ≡ true → redo n ≡ redo x
  as_inside n kind g none t inside x h = elim (two (redo n)) [
    | inl yes' ↦ yes' ∙ sym (inside yes' x h)
    | inr no' ↦
        no' ∙ sym (not_true (redo x) (λ r.
        let c = walk_touched d chosen redo again g g (redo n) no' (λ c before kind st. st) t x h (inl r) in
        true≢false (sym c.2 ∙ none c.0 c.1)))
  ]

  mutual
    kind_loops : (n : ℕ) (kind : Kind) → RedoIn d chosen redo again kind n → (x : ℕ) → holds kind x ≡ true → AllAs x (loops_in n kind x)
    kind_loops n Leaf t x h = tt
    kind_loops n (Scope g) t x h = graph_loops g g (redo n) t x
    kind_loops n (Choice bs) t x h = any_loops bs (redo n) t x
    kind_loops n (Foreach pace g) t x h = (
      as_inside n (Foreach pace g) g t.0 t.1 (λ r q w. kind_redone d chosen redo again (Foreach pace g) n r t q w) x h,
      graph_loops g g (redo n) t.1 x,
    )
    kind_loops n (Until most g) t x h = (
      as_inside n (Until most g) g t.0 t.1 (λ r q w. kind_redone d chosen redo again (Until most g) n r t q w) x h,
      graph_loops g g (redo n) t.1 x,
    )

    any_loops : (bs : Branches) (up : Bool) → RedoAny d chosen redo again up bs → (x : ℕ) → AllAs x (loops_any bs x)
    any_loops no_branch up t x = tt
    any_loops (branch b rest) up t x = elim (two (has b x)) [
      | inl h ↦ subst (AllAs x) (sym (when (has b x) (loops_of b x) (loops_any rest x) h)) (graph_loops b b up t.0 x)
      | inr h ↦ subst (AllAs x) (sym (unless (has b x) (loops_of b x) (loops_any rest x) h)) (any_loops rest up t.1 x)
    ]

    graph_loops : (g w : Graph) (up : Bool) → RedoOf d chosen redo again up g w → (x : ℕ) → AllAs x (loops_of g x)
    graph_loops done w up t x = tt
    graph_loops (add n after kind rest) w up t x = elim (two (holds kind x)) [
      | inl h ↦ subst (AllAs x) (sym (when (holds kind x) (loops_in n kind x) (loops_of rest x) h)) (kind_loops n kind t.4 x h)
      | inr h ↦ subst (AllAs x) (sym (unless (holds kind x) (loops_in n kind x) (loops_of rest x) h)) (graph_loops rest w up t.5 x)
    ]

  -- THE LAW of loops
  pub loops_as_inside : IsRedo d chosen redo again → (x : ℕ) → AllByRecursion (λ l. redo l ≡ redo x) (loops_of d x)
  loops_as_inside parts x = graph_loops d d false parts.tree x

  -- ---- what is closed again

  mutual
    kind_outside : (n : ℕ) (kind : Kind) → RedoIn d chosen redo again kind n → (x : ℕ) → again x ≡ true → holds kind x ≡ true
        → loops_in n kind x ≡ []
    kind_outside n Leaf t x e h = refl
    kind_outside n (Scope g) t x e h = graph_outside g g (redo n) t x e
    kind_outside n (Choice bs) t x e h = any_outside bs (redo n) t x e
    kind_outside n (Foreach pace g) t x e h = absurd (true≢false (sym e ∙ none_again d chosen redo again g (redo n) t.0 t.1 x h))
    kind_outside n (Until most g) t x e h = absurd (true≢false (sym e ∙ none_again d chosen redo again g (redo n) t.0 t.1 x h))

    any_outside : (bs : Branches) (up : Bool) → RedoAny d chosen redo again up bs → (x : ℕ) → again x ≡ true → loops_any bs x ≡ []
    any_outside no_branch up t x e = refl
    any_outside (branch b rest) up t x e = elim (two (has b x)) [
      | inl h ↦ when (has b x) (loops_of b x) (loops_any rest x) h ∙ graph_outside b b up t.0 x e
      | inr h ↦ unless (has b x) (loops_of b x) (loops_any rest x) h ∙ any_outside rest up t.1 x e
    ]

    graph_outside : (g w : Graph) (up : Bool) → RedoOf d chosen redo again up g w → (x : ℕ) → again x ≡ true → loops_of g x ≡ []
    graph_outside done w up t x e = refl
    graph_outside (add n after kind rest) w up t x e = elim (two (holds kind x)) [
      | inl h ↦ when (holds kind x) (loops_in n kind x) (loops_of rest x) h ∙ kind_outside n kind t.4 x e h
      | inr h ↦ unless (holds kind x) (loops_in n kind x) (loops_of rest x) h ∙ graph_outside rest w up t.5 x e
    ]

  -- THE LAW of what is closed again
  pub no_loop_round : IsRedo d chosen redo again → (x : ℕ) → again x ≡ true → loops_of d x ≡ []
  no_loop_round parts x e = graph_outside d d false parts.tree x e
