-- A meaning's table is an old table from which a resubmission may go on.
use Rattle.std.proofs.Common.{◌≡◌, ℕ, Bool, true, ◌&&◌, ◌||◌, List, [], Some, None, inl, ⊎_elim, refl, sym, ap, ◌∙◌, subst, nat_eq, eqb-true, true≢false}
use Rattle.std.proofs.lemmas.Option.{none-some}
use Rattle.wf_layers.specs.Definition.{Kind, Leaf, Scope, Choice, Foreach, Until, Branches, no_branch, branch, Graph, done, add, holds, has, needs_in, needs_of, needs_any, kind_in, kind_of, kind_any, IsBefore, IsDepth}
use Rattle.wf_layers.specs.Address.{Address, address, Table, same_at, SeenIn}
use Rattle.wf_layers.specs.Source.{Source, gate, Sound}
use Rattle.wf_layers.specs.Meaning.{deepest, meaning}
use Rattle.wf_layers.specs.Rule.{Obeys}
use Rattle.wf_layers.proofs.Basics.{two, and_in, when, unless}
use Rattle.wf_layers.proofs.Layers.{out_layers}
use Rattle.wf_layers.specs.Machine.{Opening, State}
use Rattle.wf_layers.proofs.Tables.{same_at_is}
use Rattle.wf_layers.proofs.Places.{or_right}
use Rattle.wf_layers.proofs.Others.{others_skipped}
use Rattle.wf_layers.specs.Facts.{OpenFact}
use Rattle.wf_layers.specs.Laws.{IsFresh}
use Rattle.wf_layers.specs.Resubmission.{kept, SplitIn, SplitAny, Split, IsSplit, PassedIn, PassedAny, Passed, IsResubmission, reopened, resumed, OthersKept, IsOldTable}
use Rattle.wf_layers.proofs.Meaning.{meaning_solves}
use Rattle.wf_layers.proofs.Open.{OpenFacts}
use Rattle.wf_layers.proofs.Events.{own_row}

-- what is said of a definition's actions, at one of them
module _ {Row Begun Decision Verdict : Type 0} (a : Source Row Begun Decision Verdict) (redo again : ℕ → Bool) (r : Table Row) where
  mutual
    at_kind : (kind : Kind) (m n : ℕ) (k : Kind) → SplitIn redo again kind m → PassedIn a again r kind → kind_in kind n ≡ Some k
        → SplitIn redo again k n × (kept redo again n ≡ true → (q : ℕ) → holds k q ≡ true → kept redo again q ≡ true)
        × (again n ≡ true → gate a (needs_in kind n) n [] r ≡ true)
    at_kind Leaf m n k s p e = absurd (none-some k e)
    at_kind (Scope g) m n k s p e = at_graph g n k s p e
    at_kind (Choice bs) m n k s p e = at_any bs n k s p e
    at_kind (Foreach t g) m n k s p e = at_graph g n k s.2 p e
    at_kind (Until most g) m n k s p e = at_graph g n k s.2 p e

    at_any : (bs : Branches) (n : ℕ) (k : Kind) → SplitAny redo again bs → PassedAny a again r bs → kind_any bs n ≡ Some k
        → SplitIn redo again k n × (kept redo again n ≡ true → (q : ℕ) → holds k q ≡ true → kept redo again q ≡ true)
        × (again n ≡ true → gate a (needs_any bs n) n [] r ≡ true)
    at_any no_branch n k s p e = absurd (none-some k e)
    at_any (branch g rest) n k s p e =
        ⊎_elim
        (λ t. let h = at_graph g n k s.0 p.0 (sym (when (has g n) (kind_of g n) (kind_any rest n) t) ∙ e) in
        (h.0, h.1, λ q. subst (λ x. gate a x n [] r ≡ true) (sym (when (has g n) (needs_of g n) (needs_any rest n) t)) (h.2 q)))
        (λ t. let h = at_any rest n k s.1 p.1 (sym (unless (has g n) (kind_of g n) (kind_any rest n) t) ∙ e) in
        (h.0, h.1, λ q. subst (λ x. gate a x n [] r ≡ true) (sym (unless (has g n) (needs_of g n) (needs_any rest n) t)) (h.2 q)))
        (two (has g n))

    at_graph : (g : Graph) (n : ℕ) (k : Kind) → Split redo again g → Passed a again r g → kind_of g n ≡ Some k
        → SplitIn redo again k n × (kept redo again n ≡ true → (q : ℕ) → holds k q ≡ true → kept redo again q ≡ true)
        × (again n ≡ true → gate a (needs_of g n) n [] r ≡ true)
    at_graph done n k s p e = absurd (none-some k e)
    at_graph (add c after kind rest) n k s p e =
        ⊎_elim
        (λ t. let same = eqb-true c n t in
        let x : Some kind ≡ Some k = sym (when (nat_eq c n) (Some kind) _ t) ∙ e in let x' : kind ≡ k = cc in (
          subst (λ z. SplitIn redo again z n) x' (subst (λ z. SplitIn redo again kind z) same s.2),
          subst (λ z. kept redo again n ≡ true → (q : ℕ) → holds z q ≡ true → kept redo again q ≡ true) x'
              (subst (λ z. kept redo again z ≡ true → (q : ℕ) → holds kind q ≡ true → kept redo again q ≡ true) same s.1),
          λ q. subst (λ z. gate a z n [] r ≡ true) (sym (when (nat_eq c n) after _ t))
              (subst (λ z. gate a after z [] r ≡ true) same (p.0 (subst (λ z. again z ≡ true) (sym same) q))),
        ))
        (λ u. let e' = sym (unless (nat_eq c n) (Some kind) _ u) ∙ e in
        ⊎_elim
        (λ t. let h = at_kind kind c n k s.2 p.1 (sym (when (holds kind n) (kind_in kind n) (kind_of rest n) t) ∙ e') in (
          h.0,
          h.1,
          λ q. subst (λ z. gate a z n [] r ≡ true)
              (sym (unless (nat_eq c n) after _ u ∙ when (holds kind n) (needs_in kind n) (needs_of rest n) t)) (h.2 q),
        ))
        (λ t. let h = at_graph rest n k s.3 p.2 (sym (unless (holds kind n) (kind_in kind n) (kind_of rest n) t) ∙ e') in (
          h.0,
          h.1,
          λ q. subst (λ z. gate a z n [] r ≡ true)
              (sym (unless (nat_eq c n) after _ u ∙ unless (holds kind n) (needs_in kind n) (needs_of rest n) t)) (h.2 q),
        ))
        (two (holds kind n)))
        (two (nat_eq c n))

module _ {Row Begun Decision Verdict : Type 0} (a b : Source Row Begun Decision Verdict) (redo again : ℕ → Bool) (d : Graph) (depth : ℕ → ℕ)
    (falls : IsDepth d depth) (sa : Sound a (SeenIn d) d 0) (fa : IsFresh a) (recall : Address → Decision)
    (rs : IsResubmission d depth a b redo again recall) (others : OthersKept d a redo again (meaning a depth d) recall) where
  abbrev r : Table Row
  r = meaning a depth d

  abbrev s0 : State Row Begun Decision Verdict
  s0 = resumed d redo again r recall

  sp : IsSplit d redo again
  sp = rs.split

  -- an open container is one that is closed again, in no loop
  open_is : (n : ℕ) (i : List ℕ) (w : Opening Decision Verdict) (kind : Kind) → s0.opens (address n i) ≡ Some w → kind_of d n ≡ Some kind
      → (again n ≡ true) × ([] ≡ i) × (w ≡ record { decision = recall (address n i); next = 0; test = None })
  open_is n i w kind e k =
      ⊎_elim
      (λ t. let h = and_in (again n) (same_at [] i) t in
      let v : Some (record { decision = recall (address n i); next = 0; test = None }) ≡ Some w =
      sym (when (again n && same_at [] i) _ None t ∙ ap (λ z. reopened z (recall (address n i))) k) ∙ e in
      (h.0, same_at_is [] i h.1, cc))
      (λ t. absurd (none-some w (sym (unless (again n && same_at [] i) _ None t) ∙ e)))
      (two (again n && same_at [] i))

  -- the same of the old run, to see that the open graphs were called for there
  sol_a : Obeys a d r
  sol_a = meaning_solves a depth d falls sa

  old_facts : OpenFacts a d sa r sol_a r s0.opens
  old_facts n i w kind e k =
      let o = open_is n i w kind e k in
      let at = at_graph a redo again r d n kind sp.tree rs.passed k in (
        record {
          free = (fa n).0;
          passes = subst (λ j. (a.reclosed n || gate a (needs_of d n) n j r) ≡ true) o.1
              (or_right a (IsBefore d) (SeenIn d) (a.reclosed n) (gate a (needs_of d n) n [] r) (at.2 o.0));
        },
        subst (λ z. OpenFact a r r kind n i z) (sym o.2)
            (go kind o.0 at.0 (subst (λ j. recall (address n j) ≡ a.decide (address n j) r) o.1 (rs.recalls n o.0))),
      )
    where
      go : (kind : Kind) → again n ≡ true → SplitIn redo again kind n → recall (address n i) ≡ a.decide (address n i) r
          → OpenFact a r r kind n i (record { decision = recall (address n i); next = 0; test = None })
      go Leaf ag s q = true≢false (sym ag ∙ s)
      go (Scope g) ag s q = q
      go (Choice bs) ag s q = (q, λ y h. refl)
      go (Foreach t g) ag s q = absurd (true≢false (sym ag ∙ s.0))
      go (Until most g) ag s q = absurd (true≢false (sym ag ∙ s.0))

  pub meaning_is_old_table : IsOldTable d a redo again r recall
  meaning_is_old_table = record {
    split = sp;
    inside = λ y w. out_layers a depth d [] (deepest depth d) (λ x. None) y w;
    rows = λ g n after kind og st kn none. own_row a d sa r sol_a r s0.opens old_facts g [] n after kind og st (fa n).0 none;
    others =
        λ n bs ag k y h. let o = others n bs ag k y h in
        (o.0, λ q e. inl (others_skipped a bs (a.taken (recall (address n []))) [] y q (fa y.name).0 (sym o.1 ∙ e)));
  }
