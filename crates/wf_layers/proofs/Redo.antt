-- What is redone, closed again and kept, from a set of chosen actions.
use Rattle.std.proofs.Common.{◌≡◌, ℕ, Bool, true, false, ◌||◌, List, [], ◌∷◌, ◌++◌, Option, Some, None, ◌⊎◌, inl, inr, ⊎_elim, refl, sym, ap, ◌∙◌, subst, nat_eq, eqb-true, true≢false}
use Rattle.std.proofs.lemmas.Option.{none-some}
use Rattle.wf_layers.specs.Definition.{Need, Kind, Leaf, Scope, Choice, Foreach, Until, Branches, no_branch, branch, Graph, done, add, holds, has, has_any, IsBefore, next, more}
use Rattle.wf_layers.specs.Address.{Address, starts, is_in, owner, Lower, earlier_in, earlier_any, together}
use Rattle.wf_layers.proofs.Basics.{two, and_in, not_true, same_self, when, unless}
use Rattle.wf_layers.specs.Machine.{In, here, there}
use Rattle.wf_layers.proofs.Tables.{or_true, held, later'}
use Rattle.wf_layers.specs.Redo.{HoldsChosen, Touched, IsHit, RedoIn, RedoAny, RedoOf, IsRedo}
use Rattle.wf_layers.specs.Resubmission.{kept, SplitIn, SplitAny, Split, IsSplit}
use Rattle.wf_layers.proofs.Resubmission.{kept_not, kept_other, is_kept}

module _ (d : Graph) (chosen redo again : ℕ → Bool) where
  abbrev pub Tree : Bool → Graph → Graph → Type 0
  Tree up g w = RedoOf d chosen redo again up g w

  abbrev pub Inside : Kind → ℕ → Type 0
  Inside kind n = RedoIn d chosen redo again kind n

  -- redone, or closed again
  abbrev pub Moves : ℕ → Type 0
  Moves q = (redo q ≡ true) ⊎ (again q ≡ true)

  -- ALL INSIDE A REDONE ACTION IS REDONE
  mutual
    pub kind_redone : (kind : Kind) (n : ℕ) → redo n ≡ true → Inside kind n → (q : ℕ) → holds kind q ≡ true → redo q ≡ true
    kind_redone Leaf n r t q h = absurd (true≢false (sym h))
    kind_redone (Scope g) n r t q h = graph_redone g g (redo n) r t q h
    kind_redone (Choice bs) n r t q h = any_redone bs (redo n) r t q h
    kind_redone (Foreach pace g) n r t q h = graph_redone g g (redo n) r t.1 q h
    kind_redone (Until most g) n r t q h = graph_redone g g (redo n) r t.1 q h

    any_redone : (bs : Branches) (up : Bool) → up ≡ true → RedoAny d chosen redo again up bs → (q : ℕ) → has_any bs q ≡ true → redo q ≡ true
    any_redone no_branch up u t q h = absurd (true≢false (sym h))
    any_redone (branch b rest) up u t q h =
        ⊎_elim (λ e. graph_redone b b up u t.0 q e) (λ e. any_redone rest up u t.1 q (sym (ap (λ x. x || has_any rest q) e) ∙ h))
        (two (has b q))

    graph_redone : (g w : Graph) (up : Bool) → up ≡ true → Tree up g w → (q : ℕ) → has g q ≡ true → redo q ≡ true
    graph_redone done w up u t q h = absurd (true≢false (sym h))
    graph_redone (add n after kind rest) w up u t q h =
        ⊎_elim
        (λ e. subst (λ x. redo x ≡ true) (eqb-true n q e) (t.1 (inl u)))
        (λ e. ⊎_elim
        (λ k. kind_redone kind n (t.1 (inl u)) t.4 q k)
        (λ k. graph_redone rest w up u t.5 q (sym (ap (λ x. x || holds kind q || has rest q) e ∙ ap (λ x. x || has rest q) k) ∙ h))
        (two (holds kind q)))
        (two (nat_eq n q))

  -- WHAT MOVES INSIDE AN ACTION THAT ISN'T REDONE TOUCHES A CHOSEN ONE THERE
  in_has : (w : Graph) (c : ℕ) (before : List Need) (kind : Kind) → In w c before kind
      → (has w c ≡ true) × ((q : ℕ) → holds kind q ≡ true → has w q ≡ true)
  in_has _ c before kind (here {rest = rest}) = (ap (λ x. x || holds kind c || has rest c) (same_self c), λ q h. held c kind rest q h)
  in_has _ c before kind (there {m = m} {other = other} {rest = rest} st) =
      let r = in_has rest c before kind st in (later' m other rest c r.0, λ q h. later' m other rest q (r.1 q h))

  touched_has : (w : Graph) (c : ℕ) (before : List Need) (kind : Kind) → In w c before kind → Touched d chosen c kind
      → (a : ℕ) × (has w a ≡ true) × (chosen a ≡ true)
  touched_has w c before kind st (inl e) = (c, (in_has w c before kind st).0, e)
  touched_has w c before kind st (inr h) = (h.0, (in_has w c before kind st).1 h.0 h.1, h.2)

  mutual
    pub kind_touched : (kind : Kind) (n : ℕ) → redo n ≡ false → Inside kind n → (q : ℕ) → holds kind q ≡ true → Moves q
        → HoldsChosen d chosen kind
    kind_touched Leaf n r t q h mv = absurd (true≢false (sym h))
    kind_touched (Scope g) n r t q h mv = walk_touched g g (redo n) r (λ x b k st. st) t q h mv
    kind_touched (Choice bs) n r t q h mv = any_touched bs (redo n) r t q h mv
    kind_touched (Foreach pace g) n r t q h mv = walk_touched g g (redo n) r (λ x b k st. st) t.1 q h mv
    kind_touched (Until most g) n r t q h mv = walk_touched g g (redo n) r (λ x b k st. st) t.1 q h mv

    any_touched : (bs : Branches) (up : Bool) → up ≡ false → RedoAny d chosen redo again up bs → (q : ℕ) → has_any bs q ≡ true → Moves q
        → (a : ℕ) × (has_any bs a ≡ true) × (chosen a ≡ true)
    any_touched no_branch up u t q h mv = absurd (true≢false (sym h))
    any_touched (branch b rest) up u t q h mv =
        ⊎_elim
        (λ e. let r = walk_touched b b up u (λ x b k st. st) t.0 q e mv in (r.0, ap (λ x. x || has_any rest r.0) r.1, r.2))
        (λ e. let r = any_touched rest up u t.1 q (sym (ap (λ x. x || has_any rest q) e) ∙ h) mv in
        (r.0, ap (λ x. has b r.0 || x) r.1 ∙ or_true (has b r.0), r.2))
        (two (has b q))

    pub walk_touched : (g w : Graph) (up : Bool) → up ≡ false
        → ((c : ℕ) (before : List Need) (kind : Kind) → In g c before kind → In w c before kind) → Tree up g w → (q : ℕ) → has g q ≡ true
        → Moves q → (a : ℕ) × (has w a ≡ true) × (chosen a ≡ true)
    walk_touched done w up u into t q h mv = absurd (true≢false (sym h))
    walk_touched (add n after kind rest) w up u into t q h mv =
        ⊎_elim
        (λ e. own_moves (subst Moves (sym (eqb-true n q e)) mv))
        (λ e. ⊎_elim
        (λ k. ⊎_elim
        (λ r. own_moves (inl r))
        (λ r. let c = kind_touched kind n r t.4 q k mv in (c.0, (in_has w n after kind st).1 c.0 c.1, c.2))
        (two (redo n)))
        (λ k. walk_touched rest w up u (λ c b l z. into c b l (there z)) t.5 q
        (sym (ap (λ x. x || holds kind q || has rest q) e ∙ ap (λ x. x || has rest q) k) ∙ h) mv)
        (two (holds kind q)))
        (two (nat_eq n q))
      where
        st : In w n after kind
        st = into n after kind here

        own_moves : Moves n → (a : ℕ) × (has w a ≡ true) × (chosen a ≡ true)
        own_moves (inl r) =
            ⊎_elim
            (λ x. absurd (true≢false (sym x ∙ u)))
            (λ x. ⊎_elim
            (λ y. (n, (in_has w n after kind st).0, y))
            (λ y. touched_has w y.0 y.1 y.2 y.3 y.5)
            x)
            (t.0 r)
        own_moves (inr r) = let c = (t.2 r).1 in (c.0, (in_has w n after kind st).1 c.0 c.1, c.2)

  -- WHAT IS CLOSED AGAIN ISN'T REDONE
  mutual
    pub kind_apart : (kind : Kind) (n : ℕ) → Inside kind n → (q : ℕ) → holds kind q ≡ true → again q ≡ true → redo q ≡ false
    kind_apart Leaf n t q h e = absurd (true≢false (sym h))
    kind_apart (Scope g) n t q h e = graph_apart g g (redo n) t q h e
    kind_apart (Choice bs) n t q h e = any_apart bs (redo n) t q h e
    kind_apart (Foreach pace g) n t q h e = graph_apart g g (redo n) t.1 q h e
    kind_apart (Until most g) n t q h e = graph_apart g g (redo n) t.1 q h e

    any_apart : (bs : Branches) (up : Bool) → RedoAny d chosen redo again up bs → (q : ℕ) → has_any bs q ≡ true → again q ≡ true
        → redo q ≡ false
    any_apart no_branch up t q h e = absurd (true≢false (sym h))
    any_apart (branch b rest) up t q h e =
        ⊎_elim (λ k. graph_apart b b up t.0 q k e) (λ k. any_apart rest up t.1 q (sym (ap (λ x. x || has_any rest q) k) ∙ h) e)
        (two (has b q))

    graph_apart : (g w : Graph) (up : Bool) → Tree up g w → (q : ℕ) → has g q ≡ true → again q ≡ true → redo q ≡ false
    graph_apart done w up t q h e = absurd (true≢false (sym h))
    graph_apart (add n after kind rest) w up t q h e =
        ⊎_elim
        (λ s. subst (λ x. redo x ≡ false) (eqb-true n q s) (t.2 (subst (λ x. again x ≡ true) (sym (eqb-true n q s)) e)).0)
        (λ s. ⊎_elim
        (λ k. kind_apart kind n t.4 q k e)
        (λ k. graph_apart rest w up t.5 q (sym (ap (λ x. x || holds kind q || has rest q) s ∙ ap (λ x. x || has rest q) k) ∙ h) e)
        (two (holds kind q)))
        (two (nat_eq n q))

  -- nothing in a loop is closed again
  pub none_again : (g : Graph) (up : Bool) → ((q : ℕ) → has g q ≡ true → chosen q ≡ false) → Tree up g g → (q : ℕ) → has g q ≡ true
      → again q ≡ false
  none_again g up none t q h =
      not_true (again q) (λ e.
      ⊎_elim
      (λ u. true≢false (sym (graph_redone g g up u t q h) ∙ graph_apart g g up t q h e))
      (λ u. let c = walk_touched g g up u (λ x b k st. st) t q h (inr e) in true≢false (sym c.2 ∙ none c.0 c.1))
      (two up))

  -- THE SPLIT
  pub not_moving : (q : ℕ) → (Moves q → ⊥) → kept redo again q ≡ true
  not_moving q h = is_kept (redo q) (again q) (not_true (redo q) (λ e. h (inl e))) (not_true (again q) (λ e. h (inr e)))

  mutual
    kind_split : (kind : Kind) (n : ℕ) → Inside kind n → (again n ≡ true → HoldsChosen d chosen kind) → SplitIn redo again kind n
    kind_split Leaf n t ag = not_true (again n) (λ e. true≢false (sym (ag e).1))
    kind_split (Scope g) n t ag = graph_split g g (redo n) t
    kind_split (Choice bs) n t ag = any_split bs (redo n) t
    kind_split (Foreach pace g) n t ag = (
      not_true (again n) (λ e. true≢false (sym (ag e).2 ∙ t.0 (ag e).0 (ag e).1)),
      none_again g (redo n) t.0 t.1,
      graph_split g g (redo n) t.1,
    )
    kind_split (Until most g) n t ag = (
      not_true (again n) (λ e. true≢false (sym (ag e).2 ∙ t.0 (ag e).0 (ag e).1)),
      none_again g (redo n) t.0 t.1,
      graph_split g g (redo n) t.1,
    )

    any_split : (bs : Branches) (up : Bool) → RedoAny d chosen redo again up bs → SplitAny redo again bs
    any_split no_branch up t = tt
    any_split (branch b rest) up t = (graph_split b b up t.0, any_split rest up t.1)

    graph_split : (g w : Graph) (up : Bool) → Tree up g w → Split redo again g
    graph_split done w up t = tt
    graph_split (add n after kind rest) w up t = (
      (λ r q h. kind_redone kind n r t.4 q h),
      (λ k q h. not_moving q (λ mv.
          let nr = kept_not (redo n) (again n) k in
          let c = kind_touched kind n nr t.4 q h mv in
          true≢false (sym (t.3 nr c) ∙ kept_other (redo n) (again n) k))),
      kind_split kind n t.4 (λ e. (t.2 e).1),
      graph_split rest w up t.5,
    )

  -- NOTHING KEPT STANDS AFTER WHAT MOVES
  owner_in : (g : Graph) (i : List ℕ) (y : Address) (c : ℕ) → owner g i y ≡ Some c
      → (before : List Need) × (kind : Kind) × In g c before kind × (is_in c kind i y ≡ true)
  owner_in done i y c e = absurd (none-some c e)
  owner_in (add n after kind rest) i y c e =
      ⊎_elim
      (λ t. let s : Some n ≡ Some c = sym (when (is_in n kind i y) (Some n) (owner rest i y) t) ∙ e in let s' : n ≡ c = cc in
      subst (λ x. (before : List Need) × (k : Kind) × In (add n after kind rest) x before k × (is_in x k i y ≡ true)) s'
      (after, kind, here, t))
      (λ u. let r = owner_in rest i y c (sym (unless (is_in n kind i y) (Some n) (owner rest i y) u) ∙ e) in (r.0, r.1, there r.2, r.3))
      (two (is_in n kind i y))

  pub tree_at : (g w : Graph) (up : Bool) (c : ℕ) (before : List Need) (kind : Kind) → Tree up g w → In g c before kind
      → (redo c ≡ true → IsHit d chosen up w c) × (IsHit d chosen up w c → redo c ≡ true)
      × (again c ≡ true → (redo c ≡ false) × HoldsChosen d chosen kind) × (redo c ≡ false → HoldsChosen d chosen kind → again c ≡ true)
      × Inside kind c
  tree_at _ w up c before kind t here = (t.0, t.1, t.2, t.3, t.4)
  tree_at _ w up c before kind t (there {rest = rest} st) = tree_at rest w up c before kind t.5 st

  -- y in an action c of the graph moves, and z is in e, which stands after c: then z is redone
  lower_moves : (w : Graph) (up : Bool) (i : List ℕ) (y z : Address) → Tree up w w → Lower (IsBefore d) (owner w i y) (owner w i z)
      → Moves y.name → redo z.name ≡ true
  lower_moves w up i y z t l mv = go (owner w i y) (owner w i z) refl refl l
    where
      go : (o p : Option ℕ) → owner w i y ≡ o → owner w i z ≡ p → Lower (IsBefore d) o p → redo z.name ≡ true
      go None p e h l = absurd l
      go (Some c) None e h l = absurd l
      go (Some c) (Some k) e h l = inside (⊎_elim (λ r. r) (λ r. absurd (nothing_moves r)) (two (redo k)))
        where
          cy : (before : List Need) × (kind : Kind) × In w c before kind × (is_in c kind i y ≡ true)
          cy = owner_in w i y c e

          kz : (before : List Need) × (kind : Kind) × In w k before kind × (is_in k kind i z ≡ true)
          kz = owner_in w i z k h

          at_c : (redo c ≡ true → IsHit d chosen up w c) × (IsHit d chosen up w c → redo c ≡ true)
              × (again c ≡ true → (redo c ≡ false) × HoldsChosen d chosen cy.1)
              × (redo c ≡ false → HoldsChosen d chosen cy.1 → again c ≡ true) × Inside cy.1 c
          at_c = tree_at w w up c cy.0 cy.1 t cy.2

          at_k : (redo k ≡ true → IsHit d chosen up w k) × (IsHit d chosen up w k → redo k ≡ true)
              × (again k ≡ true → (redo k ≡ false) × HoldsChosen d chosen kz.1)
              × (redo k ≡ false → HoldsChosen d chosen kz.1 → again k ≡ true) × Inside kz.1 k
          at_k = tree_at w w up k kz.0 kz.1 t kz.2

          joined : (b a q : ℕ) → IsBefore d a b → IsBefore d b q → IsBefore d a q
          joined b a q x (next n) = more x n
          joined b a q x (more {q = m} y n) = more (joined b a m x y) n

          touch_hits : Touched d chosen c cy.1 → redo k ≡ true
          touch_hits x = at_k.1 (inr (inr (c, cy.0, cy.1, cy.2, l, x)))

          hit_hits : IsHit d chosen up w c → redo k ≡ true
          hit_hits (inl u) = at_k.1 (inl u)
          hit_hits (inr (inl x)) = touch_hits (inl x)
          hit_hits (inr (inr x)) = at_k.1 (inr (inr (x.0, x.1, x.2, x.3, joined c x.0 k x.4 l, x.5)))

          -- c is y's own name, or y is inside it
          moves_c : (redo c ≡ true) ⊎ Touched d chosen c cy.1
          moves_c =
              ⊎_elim
              (λ s. ⊎_elim (λ r. inl (subst (λ x. redo x ≡ true) (sym (eqb-true c y.name s)) r))
              (λ r. inr (inr (at_c.2 (subst (λ x. again x ≡ true) (sym (eqb-true c y.name s)) r)).1)) mv)
              (λ s. ⊎_elim (λ r. inl r)
              (λ r. inr (inr (kind_touched cy.1 c r at_c.4 y.name
              (sym (ap (λ b. b || holds cy.1 y.name) s) ∙ (and_in (nat_eq c y.name || holds cy.1 y.name) (starts i y.at) cy.3).0) mv)))
              (two (redo c)))
              (two (nat_eq c y.name))

          nothing_moves : redo k ≡ false → ⊥
          nothing_moves r = true≢false (sym (⊎_elim (λ x. hit_hits (at_c.0 x)) (λ x. touch_hits x) moves_c) ∙ r)

          inside : redo k ≡ true → redo z.name ≡ true
          inside r =
              ⊎_elim
              (λ s. subst (λ x. redo x ≡ true) (eqb-true k z.name s) r)
              (λ s. kind_redone kz.1 k r at_k.4 z.name
              (sym (ap (λ b. b || holds kz.1 z.name) s) ∙ (and_in (nat_eq k z.name || holds kz.1 z.name) (starts i z.at) kz.3).0))
              (two (nat_eq k z.name))

  -- both in one loop: nothing moves there unless all of it is redone
  loop_moves : (h : Graph) (up : Bool) → ((q : ℕ) → has h q ≡ true → chosen q ≡ false) → Tree up h h → (y z : ℕ) → has h y ≡ true
      → has h z ≡ true → Moves y → redo z ≡ true
  loop_moves h up none t y z hy hz mv =
      ⊎_elim
      (λ u. graph_redone h h up u t z hz)
      (λ u. let c = walk_touched h h up u (λ x b k st. st) t y hy mv in absurd (true≢false (sym c.2 ∙ none c.0 c.1)))
      (two up)

  mutual
    kind_moves : (kind : Kind) (n : ℕ) → Inside kind n → (i : List ℕ) (y z : Address) → earlier_in (IsBefore d) kind i y z → Moves y.name
        → redo z.name ≡ true
    kind_moves Leaf n t i y z e mv = absurd e
    kind_moves (Scope g) n t i y z e mv = ⊎_elim (λ l. lower_moves g (redo n) i y z t l mv) (λ j. graph_moves g g (redo n) t i y z j mv) e.2
    kind_moves (Choice bs) n t i y z e mv = any_moves bs (redo n) t i y z e mv
    kind_moves (Foreach pace g) n t i y z e mv =
        ⊎_elim
        (λ h. ⊎_elim (λ l. lower_moves g (redo n) (i ++ h.0 ∷ []) y z t.1 l mv)
        (λ j. graph_moves g g (redo n) t.1 (i ++ h.0 ∷ []) y z j mv) h.3)
        (λ h. loop_moves g (redo n) t.0 t.1 y.name z.name (and_in (has g y.name) (starts (i ++ h.0 ∷ []) y.at) h.4).0
        (and_in (has g z.name) (starts (i ++ h.1 ∷ []) z.at) h.5).0 mv)
        e
    kind_moves (Until most g) n t i y z e mv =
        ⊎_elim
        (λ h. ⊎_elim (λ l. lower_moves g (redo n) (i ++ h.0 ∷ []) y z t.1 l mv)
        (λ j. graph_moves g g (redo n) t.1 (i ++ h.0 ∷ []) y z j mv) h.3)
        (λ h. loop_moves g (redo n) t.0 t.1 y.name z.name (and_in (has g y.name) (starts (i ++ h.0 ∷ []) y.at) h.3).0
        (and_in (has g z.name) (starts (i ++ h.1 ∷ []) z.at) h.4).0 mv)
        e

    any_moves : (bs : Branches) (up : Bool) → RedoAny d chosen redo again up bs → (i : List ℕ) (y z : Address)
        → earlier_any (IsBefore d) bs i y z → Moves y.name → redo z.name ≡ true
    any_moves no_branch up t i y z e mv = absurd e
    any_moves (branch b rest) up t i y z e mv =
        ⊎_elim
        (λ h. ⊎_elim (λ l. lower_moves b up i y z t.0 l mv) (λ j. graph_moves b b up t.0 i y z j mv) h.2)
        (λ h. any_moves rest up t.1 i y z h mv)
        e

    graph_moves : (g w : Graph) (up : Bool) → Tree up g w → (i : List ℕ) (y z : Address) → together (IsBefore d) g i y z → Moves y.name
        → redo z.name ≡ true
    graph_moves done w up t i y z e mv = absurd e
    graph_moves (add n after kind rest) w up t i y z e mv =
        ⊎_elim (λ h. kind_moves kind n t.4 i y z h.2 mv) (λ h. graph_moves rest w up t.5 i y z h.1 mv) e

  pub redo_splits : IsRedo d chosen redo again → IsSplit d redo again
  redo_splits is = record {
    tree = graph_split d d false is.tree;
    apart = λ n e. ⊎_elim (λ h. graph_apart d d false is.tree n h e) (λ h. absurd (true≢false (sym e ∙ is.outside n h))) (two (has d n));
    after = λ z y nr see. not_moving y.name (λ mv.
        true≢false (sym (⊎_elim (λ l. lower_moves d false [] y z is.tree l mv) (λ j. graph_moves d d false is.tree [] y z j mv) see.1)
        ∙ nr));
  }
