-- The machine from the state of a resubmission, of any old table that holds what it has to.
use Rattle.std.proofs.Common.{◌≡◌, ℕ, zero, suc, ◌+◌, ◌-◌, Bool, true, false, ◌&&◌, ◌||◌, cond, List, [], Option, Some, None, ◌⊎◌, inl, inr, ⊎_elim, refl, sym, ap, ◌∙◌, subst, arith, nat_eq, eqb-true, true≢false, length}
use Rattle.std.proofs.lemmas.Option.{none-some}
use Rattle.wf_layers.specs.Definition.{Need, AtMost, Kind, Leaf, Scope, Choice, Foreach, Until, Branches, no_branch, branch, Graph, done, add, is_one, less_one, branch_at, holds, has, has_any, needs_of, kind_in, kind_of, kind_any, IsBefore, IsDepth, Closed, Turns}
use Rattle.wf_layers.specs.Address.{Address, address, Table, same_at, starts, is_own, is_in, is_within, is_among, SeenIn}
use Rattle.wf_layers.specs.Source.{Source, gate, SoundIn, SoundAny, Sound}
use Rattle.wf_layers.specs.Meaning.{only, deepest, skip, run, meaning}
use Rattle.wf_layers.specs.Rule.{look_in, look_any, look, Obeys}
use Rattle.wf_layers.proofs.Basics.{two, and_in, and_of, fork, apart, not_true, when, unless, in_within, rest_within, other_within, held_in, inner_not_own}
use Rattle.wf_layers.proofs.Layers.{out_layers}
use Rattle.wf_layers.specs.Machine.{Opening, State, In, here, there, IsOpen, top, scope, chosen, turn, round, in_others, Event, IsThere, Run}
use Rattle.wf_layers.proofs.Tables.{same_at_is, later', taken_has, taken_within, branch_none}
use Rattle.wf_layers.proofs.Places.{Stands, or_right, or_none, stands, taken_look}
use Rattle.wf_layers.specs.Facts.{OpenFact, IsRooted, finished, passed}
use Rattle.wf_layers.proofs.Busy.{Busy, run_busy}
use Rattle.wf_layers.proofs.Rooted.{Rooted, root, run_rooted}
use Rattle.wf_layers.proofs.Limit.{Limited, run_limited}
use Rattle.wf_layers.proofs.Facts.{facts_are}
use Rattle.wf_layers.proofs.OneEvent.{one_event}
use Rattle.wf_layers.proofs.Tests.{test_sees}
use Rattle.wf_layers.proofs.Store.{stores_run, run_last, decided_last, tested_last, running_last}
use Rattle.wf_layers.proofs.Variables.{Lull, sees_finished}
use Rattle.wf_layers.proofs.Keeps.{decided_own}
use Rattle.wf_layers.proofs.Enabled.{exact}
use Rattle.wf_layers.proofs.Changes.{only_there}
use Rattle.wf_layers.specs.Resubmission.{kept, SplitIn, SplitAny, Split, IsSplit, pin, reopened, resumed, IsOldTable, ResumedRows, ResumedAtTheEnd, ResumedEnds, ResumedChanges, ResumedExact, ResumedFacts, ResumedFew, ResumedOneEvent, ResumedInOrder, ResumedStore}
use Rattle.wf_layers.proofs.Others.{look_others, others_or, others_old}
use Rattle.wf_layers.proofs.Meaning.{meaning_solves}
use Rattle.wf_layers.proofs.Open.{OpenFacts, open_sub, placed_in, kind_there}
use Rattle.wf_layers.proofs.Keeps.{Keeps, IsClosed, SpecialOut}
use Rattle.wf_layers.proofs.Events.{run_keeps, rows_are, ended_settled}
use Rattle.wf_layers.proofs.Progress.{closed_is, all_ended_over}
use Rattle.wf_layers.specs.Bound.{total_of, total_in, total_any, total, left_in, left_any, left}
use Rattle.wf_layers.proofs.Left.{by_none, by_row, by_open, entry, ended_left, run_left}
use Rattle.wf_layers.proofs.Worth.{events_are_few}
use Rattle.wf_layers.proofs.Resubmission.{kept_not, kept_other, not_kept, is_kept, pin_sound}

-- what has a kind is there
mutual
  kind_held : (kind : Kind) (n : ℕ) (k : Kind) → kind_in kind n ≡ Some k → holds kind n ≡ true
  kind_held Leaf n k e = absurd (none-some k e)
  kind_held (Scope g) n k e = kind_has g n k e
  kind_held (Choice bs) n k e = any_held bs n k e
  kind_held (Foreach pace g) n k e = kind_has g n k e
  kind_held (Until most g) n k e = kind_has g n k e

  any_held : (bs : Branches) (n : ℕ) (k : Kind) → kind_any bs n ≡ Some k → has_any bs n ≡ true
  any_held no_branch n k e = absurd (none-some k e)
  any_held (branch b rest) n k e =
      ⊎_elim
      (λ t. ap (λ z. z || has_any rest n) t)
      (λ u. ap (λ z. z || has_any rest n) u ∙ any_held rest n k (sym (unless (has b n) (kind_of b n) (kind_any rest n) u) ∙ e))
      (two (has b n))

  kind_has : (g : Graph) (n : ℕ) (k : Kind) → kind_of g n ≡ Some k → has g n ≡ true
  kind_has done n k e = absurd (none-some k e)
  kind_has (add c after kind rest) n k e =
      ⊎_elim
      (λ t. ap (λ z. z || holds kind n || has rest n) t)
      (λ u. let e' = sym (unless (nat_eq c n) (Some kind) _ u) ∙ e in
      ap (λ z. z || holds kind n || has rest n) u
      ∙ ⊎_elim
      (λ t. ap (λ z. z || has rest n) t)
      (λ v. ap (λ z. z || has rest n) v ∙ kind_has rest n k (sym (unless (holds kind n) (kind_in kind n) (kind_of rest n) v) ∙ e'))
      (two (holds kind n)))
      (two (nat_eq c n))

-- what is said of a definition's actions, at one of them

module _ (redo again : ℕ → Bool) where
  abbrev SplitAt : ℕ → Kind → Type 0
  SplitAt n k = SplitIn redo again k n × (kept redo again n ≡ true → (q : ℕ) → holds k q ≡ true → kept redo again q ≡ true)

  mutual
    split_kind : (kind : Kind) (c n : ℕ) (k : Kind) → SplitIn redo again kind c → kind_in kind n ≡ Some k → SplitAt n k
    split_kind Leaf c n k s e = absurd (none-some k e)
    split_kind (Scope g) c n k s e = split_graph g n k s e
    split_kind (Choice bs) c n k s e = split_any bs n k s e
    split_kind (Foreach t g) c n k s e = split_graph g n k s.2 e
    split_kind (Until most g) c n k s e = split_graph g n k s.2 e

    split_any : (bs : Branches) (n : ℕ) (k : Kind) → SplitAny redo again bs → kind_any bs n ≡ Some k → SplitAt n k
    split_any no_branch n k s e = absurd (none-some k e)
    split_any (branch g rest) n k s e =
        ⊎_elim
        (λ t. split_graph g n k s.0 (sym (when (has g n) (kind_of g n) (kind_any rest n) t) ∙ e))
        (λ t. split_any rest n k s.1 (sym (unless (has g n) (kind_of g n) (kind_any rest n) t) ∙ e))
        (two (has g n))

    split_graph : (g : Graph) (n : ℕ) (k : Kind) → Split redo again g → kind_of g n ≡ Some k → SplitAt n k
    split_graph done n k s e = absurd (none-some k e)
    split_graph (add c after kind rest) n k s e =
        ⊎_elim
        (λ t. let same = eqb-true c n t in
        let x : Some kind ≡ Some k = sym (when (nat_eq c n) (Some kind) _ t) ∙ e in let x' : kind ≡ k = cc in (
          subst (λ z. SplitIn redo again z n) x' (subst (λ z. SplitIn redo again kind z) same s.2),
          subst (λ z. kept redo again n ≡ true → (q : ℕ) → holds z q ≡ true → kept redo again q ≡ true) x'
              (subst (λ z. kept redo again z ≡ true → (q : ℕ) → holds kind q ≡ true → kept redo again q ≡ true) same s.1),
        ))
        (λ u. let e' = sym (unless (nat_eq c n) (Some kind) _ u) ∙ e in
        ⊎_elim
        (λ t. split_kind kind c n k s.2 (sym (when (holds kind n) (kind_in kind n) (kind_of rest n) t) ∙ e'))
        (λ t. split_graph rest n k s.3 (sym (unless (holds kind n) (kind_in kind n) (kind_of rest n) t) ∙ e'))
        (two (holds kind n)))
        (two (nat_eq c n))

  -- inside a redone action all is redone
  mutual
    redo_kind : (kind : Kind) (c n : ℕ) (k : Kind) → SplitIn redo again kind c → kind_in kind n ≡ Some k → redo n ≡ true → (q : ℕ)
        → holds k q ≡ true → redo q ≡ true
    redo_kind Leaf c n k s e = absurd (none-some k e)
    redo_kind (Scope g) c n k s e = redo_of g n k s e
    redo_kind (Choice bs) c n k s e = redo_any bs n k s e
    redo_kind (Foreach t g) c n k s e = redo_of g n k s.2 e
    redo_kind (Until most g) c n k s e = redo_of g n k s.2 e

    redo_any : (bs : Branches) (n : ℕ) (k : Kind) → SplitAny redo again bs → kind_any bs n ≡ Some k → redo n ≡ true → (q : ℕ)
        → holds k q ≡ true → redo q ≡ true
    redo_any no_branch n k s e = absurd (none-some k e)
    redo_any (branch g rest) n k s e =
        ⊎_elim
        (λ t. redo_of g n k s.0 (sym (when (has g n) (kind_of g n) (kind_any rest n) t) ∙ e))
        (λ t. redo_any rest n k s.1 (sym (unless (has g n) (kind_of g n) (kind_any rest n) t) ∙ e))
        (two (has g n))

    pub redo_of : (g : Graph) (n : ℕ) (k : Kind) → Split redo again g → kind_of g n ≡ Some k → redo n ≡ true → (q : ℕ) → holds k q ≡ true
        → redo q ≡ true
    redo_of done n k s e = absurd (none-some k e)
    redo_of (add c after kind rest) n k s e =
        ⊎_elim
        (λ t. let x : Some kind ≡ Some k = sym (when (nat_eq c n) (Some kind) _ t) ∙ e in let x' : kind ≡ k = cc in
        λ re q h. s.0 (subst (λ z. redo z ≡ true) (sym (eqb-true c n t)) re) q (subst (λ z. holds z q ≡ true) (sym x') h))
        (λ u. let e' = sym (unless (nat_eq c n) (Some kind) _ u) ∙ e in
        ⊎_elim
        (λ t. redo_kind kind c n k s.2 (sym (when (holds kind n) (kind_in kind n) (kind_of rest n) t) ∙ e'))
        (λ t. redo_of rest n k s.3 (sym (unless (holds kind n) (kind_in kind n) (kind_of rest n) t) ∙ e'))
        (two (holds kind n)))
        (two (nat_eq c n))

  in_split : (g : Graph) (n : ℕ) (after : List Need) (kind : Kind) → Split redo again g → In g n after kind
      → (redo n ≡ true → (q : ℕ) → holds kind q ≡ true → redo q ≡ true) × SplitIn redo again kind n
  in_split _ n after kind s here = (s.0, s.2)
  in_split _ n after kind s (there {rest = rest} st) = in_split rest n after kind s.3 st

  split_taken : (bs : Branches) (c : ℕ) (b : Graph) → SplitAny redo again bs → branch_at bs c ≡ Some b → Split redo again b
  split_taken no_branch c b s e = absurd (none-some b e)
  split_taken (branch g rest) c b s e =
      ⊎_elim
      (λ t. let same : Some g ≡ Some b = sym (when (is_one c) (Some g) _ t) ∙ e in let is : g ≡ b = cc in
      subst (λ z. Split redo again z) is s.0)
      (λ u. split_taken rest (less_one c) b s.1 (sym (unless (is_one c) (Some g) _ u) ∙ e))
      (two (is_one c))

  module _ {Decision Verdict : Type 0} (taken : Decision → ℕ) where
    open_split : (d : Graph) (o : Table (Opening Decision Verdict)) (g : Graph) (i : List ℕ) → Split redo again d → IsOpen taken d o g i
        → Split redo again g
    open_split d o _ _ s top = s
    open_split d o _ i s (scope {g = g} {h = h} {n = n} {after = after} og st e) =
        (in_split g n after (Scope h) (open_split d o g i s og) st).1
    open_split d o _ i s (chosen {g = g} {b = b} {n = n} {after = after} {bs = bs} {w = w} og st e is) =
        split_taken bs (taken w.decision) b (in_split g n after (Choice bs) (open_split d o g i s og) st).1 is
    open_split d o _ _ s (turn {g = g} {h = h} {i = i} {n = n} {after = after} {pace = t} j og st e lt) =
        (in_split g n after (Foreach t h) (open_split d o g i s og) st).1.2
    open_split d o _ _ s (round {g = g} {h = h} {i = i} {n = n} {most = most} {after = after} j og st e lt) =
        (in_split g n after (Until most h) (open_split d o g i s og) st).1.2

module _ {Row Begun Decision Verdict : Type 0} (a b : Source Row Begun Decision Verdict) (redo again : ℕ → Bool) (d : Graph) (depth : ℕ → ℕ)
    (falls : IsDepth d depth) (sb : Sound b (SeenIn d) d 0) (r : Table Row) (recall : Address → Decision)
    (old : IsOldTable d a redo again r recall) where
  abbrev pub m : Source Row Begun Decision Verdict
  m = pin a b redo again r recall

  abbrev pub f : Table Row
  f = meaning m depth d

  pub so : Sound m (SeenIn d) d 0
  so = pin_sound a b redo (SeenIn d) again r recall d 0 sb

  pub sol : Obeys m d f
  sol = meaning_solves m depth d falls so

  abbrev pub s0 : State Row Begun Decision Verdict
  s0 = resumed d redo again r recall

  sp : IsSplit d redo again
  sp = old.split

  -- KEPT ROWS ARE THE OLD ONES
  abbrev Followed : Graph → Type 0
  Followed g = (x : Address) → is_within g [] x ≡ true → f x ≡ look m g [] f x

  abbrev Kinds : Graph → Type 0
  Kinds g = (q : ℕ) → has g q ≡ true → kind_of d q ≡ kind_of g q

  inner' : (kind : Kind) (n : ℕ) (x : Address) → holds kind n ≡ false → (holds kind x.name && true) ≡ true → (v u : Option Row) (p : Bool)
      → p ≡ true → cond (is_own n [] x) v (only p u) ≡ u
  inner' kind n x nh w v u p e =
      unless (is_own n [] x) v _ (inner_not_own n kind [] x nh (and_in (holds kind x.name) true w).0) ∙ when p u None e

  mutual
    kind_kept : (kind : Kind) (n l : ℕ) → holds kind n ≡ false → SoundIn m (SeenIn d) kind n l → SplitIn redo again kind n → again n ≡ true
        → kind_of d n ≡ Some kind → ((q : ℕ) → holds kind q ≡ true → kind_of d q ≡ kind_in kind q)
        → ((x : Address) → is_in n kind [] x ≡ true → f x ≡ look_in m kind n [] f x) → (y : Address) → (holds kind y.name && true) ≡ true
        → kept redo again y.name ≡ true → f y ≡ r y
    kind_kept Leaf n l nh so' s ag own kinds follow y h ky = absurd (true≢false (sym (and_in false true h).0))
    kind_kept (Scope g) n l nh so' s ag own kinds follow y h ky =
        walk_kept g l so'.2 s kinds
        (λ x w. follow x (held_in n (Scope g) [] x w) ∙ inner' (Scope g) n x nh w _ _ (is_within g [] x) w) y h ky
    kind_kept (Choice bs) n l nh so' s ag own kinds follow y h ky =
        ⊎_elim
        (λ z. ruled y h ∙ look_others m bs c [] f y z ∙ others_old m bs c [] y z ky)
        (λ z. any_kept bs l so'.2 s kinds c z.0 z.1
        (λ x w. ruled x (taken_within z.0 bs c z.1 [] x w)
        ∙ taken_look m (IsBefore d) (SeenIn d) bs l c z.0 so'.2 z.1 [] f x w) y z.2 ky)
        (others_or bs c [] y h)
      where
        c : ℕ
        c = a.taken (recall (address n []))

        ruled : (x : Address) → is_among bs [] x ≡ true → f x ≡ look_any m bs c [] f x
        ruled x w =
            follow x (held_in n (Choice bs) [] x w) ∙ inner' (Choice bs) n x nh w _ _ (is_among bs [] x) w
            ∙ ap (λ p. look_any m bs (a.taken p) [] f x) (when (again n) (recall (address n [])) _ ag)
    kind_kept (Foreach pace g) n l nh so' s ag own kinds follow y h ky = absurd (true≢false (sym ag ∙ s.0))
    kind_kept (Until most g) n l nh so' s ag own kinds follow y h ky = absurd (true≢false (sym ag ∙ s.0))

    any_kept : (bs : Branches) (l : ℕ) → SoundAny m (SeenIn d) bs l → SplitAny redo again bs
        → ((q : ℕ) → has_any bs q ≡ true → kind_of d q ≡ kind_any bs q) → (c : ℕ) (g : Graph) → branch_at bs c ≡ Some g → Followed g
        → (y : Address) → is_within g [] y ≡ true → kept redo again y.name ≡ true → f y ≡ r y
    any_kept no_branch l so' s kinds c g e follow y w ky = absurd (none-some g e)
    any_kept (branch x rest) l so' s kinds c g e follow y w ky =
        ⊎_elim
        (λ t. let same : Some x ≡ Some g = sym (when (is_one c) (Some x) _ t) ∙ e in let is : x ≡ g = cc in
        walk_kept x l so'.1 s.0 (λ q h. kinds q (ap (λ z. z || has_any rest q) h) ∙ when (has x q) (kind_of x q) (kind_any rest q) h)
        (subst Followed (sym is) follow) y (subst (λ z. is_within z [] y ≡ true) (sym is) w) ky)
        (λ u. any_kept rest l so'.2 s.1 (λ q h. kinds q (or_right m (IsBefore d) (SeenIn d) (has x q) (has_any rest q) h)
        ∙ unless (has x q) (kind_of x q) (kind_any rest q) (not_true (has x q) (λ z. true≢false (sym h ∙ so'.0 q z)))) (less_one c) g
        (sym (unless (is_one c) (Some x) _ u) ∙ e) follow y w ky)
        (two (is_one c))

    walk_kept : (g : Graph) (l : ℕ) → Sound m (SeenIn d) g l → Split redo again g → Kinds g → Followed g → (y : Address)
        → is_within g [] y ≡ true → kept redo again y.name ≡ true → f y ≡ r y
    walk_kept done l so' s kinds follow y w ky = absurd (true≢false (sym w))
    walk_kept (add n after kind rest) l so' s kinds follow y w ky =
        ⊎_elim
        (λ t. ⊎_elim
        (λ kn. follow y w ∙ when (is_in n kind [] y) _ (look m rest [] f y) t ∙ when (kept redo again n) (r y) _ kn)
        (λ kn. ⊎_elim
        (λ re. absurd (redo_not re t))
        (λ ag. kind_kept kind n l so'.1 so'.3 s.2 ag own inner
        (λ x v. follow x (in_within n after kind rest [] x v) ∙ when (is_in n kind [] x) _ (look m rest [] f x) v
        ∙ unless (kept redo again n) (r x) _ kn ∙ when (again n || gate m after n [] f) _ (skip m n kind [] x)
        (ap (λ z. z || gate m after n [] f) ag))
        y (inside ag t) ky)
        (not_kept (redo n) (again n) kn))
        (two (kept redo again n)))
        (λ u. walk_kept rest l so'.4 s.3
        (λ q h. kinds q (later' n kind rest q h) ∙ in_rest q h)
        (λ x v. follow x (rest_within n after kind rest [] x v)
        ∙ unless (is_in n kind [] x) _ (look m rest [] f x)
        (apart (nat_eq n x.name || holds kind x.name) (has rest x.name) true (so'.2 x.name) v))
        y (other_within n after kind rest [] y w u) ky)
        (two (is_in n kind [] y))
      where
        st : Stands m (IsBefore d) (SeenIn d) l (add n after kind rest) n after kind
        st = stands m (IsBefore d) (SeenIn d) l (add n after kind rest) n after kind so' here

        own : kind_of d n ≡ Some kind
        own = kinds n st.own_has ∙ st.own_kind

        inner : (q : ℕ) → holds kind q ≡ true → kind_of d q ≡ kind_in kind q
        inner q h = kinds q (st.inner_has q h) ∙ st.inner_kind q h

        in_rest : (q : ℕ) → has rest q ≡ true → kind_of (add n after kind rest) q ≡ kind_of rest q
        in_rest q h =
            let no' = or_none m (IsBefore d) (SeenIn d) (nat_eq n q) (holds kind q)
            (not_true (nat_eq n q || holds kind q) (λ e. true≢false (sym h ∙ so'.2 q e))) in
            unless (nat_eq n q) (Some kind) _ no'.0 ∙ unless (holds kind q) (kind_in kind q) (kind_of rest q) no'.1

        redo_not : redo n ≡ true → is_in n kind [] y ≡ true → ⊥
        redo_not re t =
            ⊎_elim
            (λ same. true≢false (sym re
            ∙ kept_not (redo n) (again n) (subst (λ q. kept redo again q ≡ true) (sym (eqb-true n y.name same)) ky)))
            (λ u. true≢false (sym
            (s.0 re y.name (sym (ap (λ c. c || holds kind y.name) u) ∙ (and_in (nat_eq n y.name || holds kind y.name) true t).0))
            ∙ kept_not (redo y.name) (again y.name) ky))
            (two (nat_eq n y.name))

        inside : again n ≡ true → is_in n kind [] y ≡ true → (holds kind y.name && true) ≡ true
        inside ag t =
            ⊎_elim
            (λ same. absurd (true≢false
            (sym ag ∙ kept_other (redo n) (again n) (subst (λ q. kept redo again q ≡ true) (sym (eqb-true n y.name same)) ky))))
            (λ u. and_of (holds kind y.name) true
            (sym (ap (λ c. c || holds kind y.name) u) ∙ (and_in (nat_eq n y.name || holds kind y.name) true t).0) refl)
            (two (nat_eq n y.name))

  pub kept_row : (y : Address) → kept redo again y.name ≡ true → f y ≡ r y
  kept_row y ky =
      ⊎_elim
      (λ w. walk_kept d 0 so sp.tree (λ q h. refl) sol y w ky)
      (λ w. out_layers m depth d [] (deepest depth d) (λ x. None) y w ∙ sym (old.inside y w))
      (two (is_within d [] y))

  row_of : (x : Address) → kept redo again x.name ≡ true → s0.rows x ≡ f x
  row_of x k = when (kept redo again x.name) (r x) None k ∙ sym (kept_row x k)

  row_kept : (x : Address) (q : Row) → s0.rows x ≡ Some q → kept redo again x.name ≡ true
  row_kept x q e =
      ⊎_elim (λ t. t) (λ t. absurd (none-some q (sym (unless (kept redo again x.name) (r x) None t) ∙ e))) (two (kept redo again x.name))

  -- an open container is one that is closed again, in no loop
  open_is : (n : ℕ) (i : List ℕ) (w : Opening Decision Verdict) (kind : Kind) → s0.opens (address n i) ≡ Some w → kind_of d n ≡ Some kind
      → (again n ≡ true) × ([] ≡ i) × (w ≡ record { decision = recall (address n i); next = 0; test = None })
  open_is n i w kind e k =
      ⊎_elim
      (λ t. let h = and_in (again n) (same_at [] i) t in
      let v : Some (record { decision = recall (address n i); next = 0; test = None }) ≡ Some w =
      sym (when (again n && same_at [] i) _ None t ∙ ap (λ z. reopened z (recall (address n i))) k) ∙ e in
      (h.0, same_at_is [] i h.1, cc))
      (λ t. absurd (none-some w (sym (unless (again n && same_at [] i) _ None t) ∙ e)))
      (two (again n && same_at [] i))

  not_kept' : (n : ℕ) → again n ≡ true → kept redo again n ≡ false
  not_kept' n e = not_true (kept redo again n) (λ t. true≢false (sym e ∙ kept_other (redo n) (again n) t))

  facts : OpenFacts m d so f sol s0.rows s0.opens
  facts n i w kind e k =
      let o = open_is n i w kind e k in
      let at = split_graph redo again d n kind sp.tree k in (
        record { free = not_kept' n o.0; passes = ap (λ z. z || gate m (needs_of d n) n i f) o.0 },
        subst (λ z. OpenFact m f s0.rows kind n i z) (sym o.2) (go kind k o.0 at.0 o.1),
      )
    where
      go : (kind : Kind) → kind_of d n ≡ Some kind → again n ≡ true → SplitIn redo again kind n → [] ≡ i
          → OpenFact m f s0.rows kind n i (record { decision = recall (address n i); next = 0; test = None })
      go Leaf k ag s e = true≢false (sym ag ∙ s)
      go (Scope g) k ag s e = sym (when (again n) (recall (address n i)) _ ag)
      go (Choice bs) k ag s e = (
        sym (when (again n) (recall (address n i)) _ ag),
        λ y h. row_of y (subst (λ j. in_others bs (a.taken (recall (address n j))) j y ≡ true → kept redo again y.name ≡ true) e
            (λ z. (old.others n bs ag k y z).0) h),
      )
      go (Foreach t g) k ag s e = absurd (true≢false (sym ag ∙ s.0))
      go (Until most g) k ag s e = absurd (true≢false (sym ag ∙ s.0))

  -- THE FIRST STATE
  first_keeps : Keeps m d so f sol s0
  first_keeps = record {
    placed = record { by = λ x q e. sym (row_of x (row_kept x q e)) ∙ e };
    held = λ x w e. absurd (none-some w e);
    behind = λ x q e y see. row_of y (sp.after x y (kept_not (redo x.name) (again x.name) (row_kept x q e)) see);
    subtree = λ n i q kind e k y w. row_of y (inside n kind k (row_kept (address n i) q e) i y w);
    run_behind = λ x w e. absurd (none-some w e);
    run_rest = λ n i w kind e. absurd (none-some w e);
    open_behind =
        λ n i w e y see. row_of y (sp.after (address n i) y (sp.apart n (and_in (again n) (same_at [] i) (open_test n i w e)).0) see);
    facts = facts;
    special = λ g i n after kind og st s e u. special_row g i n after kind og st s e u;
  }
    where
      inside : (n : ℕ) (kind : Kind) → kind_of d n ≡ Some kind → kept redo again n ≡ true → (i : List ℕ) (y : Address)
          → is_in n kind i y ≡ true → kept redo again y.name ≡ true
      inside n kind k kn i y w =
          ⊎_elim
          (λ t. subst (λ z. kept redo again z ≡ true) (eqb-true n y.name t) kn)
          (λ t. (split_graph redo again d n kind sp.tree k).1 kn y.name
          (sym (ap (λ z. z || holds kind y.name) t) ∙ (and_in (nat_eq n y.name || holds kind y.name) (starts i y.at) w).0))
          (two (nat_eq n y.name))

      open_test : (n : ℕ) (i : List ℕ) (w : Opening Decision Verdict) → s0.opens (address n i) ≡ Some w → (again n && same_at [] i) ≡ true
      open_test n i w e =
          ⊎_elim (λ t. t) (λ t. absurd (none-some w (sym (unless (again n && same_at [] i) _ None t) ∙ e))) (two (again n && same_at [] i))

      special_row : (g : Graph) (i : List ℕ) (n : ℕ) (after : List Need) (kind : Kind) → IsOpen m.taken d s0.opens g i → In g n after kind
          → (kept redo again n || again n) ≡ true → s0.rows (address n i) ≡ None → s0.opens (address n i) ≡ None → ⊥
      special_row g i n after kind og st s e u =
          ⊎_elim
          (λ t. old.rows g n after kind (subst (λ j. IsOpen a.taken d s0.opens g j) (sym (flat g i og)) og) st t
          (ap (λ j. r (address n j)) (flat g i og) ∙ sym (when (kept redo again n) (r (address n i)) None t) ∙ e))
          (λ t. let ag = sym (ap (λ z. z || again n) t) ∙ s in
          none-some _ (sym u ∙ when (again n && same_at [] i) _ None
          (and_of (again n) (same_at [] i) ag (subst (λ j. same_at [] j ≡ true) (flat g i og) refl))
          ∙ ap (λ z. reopened z (recall (address n i))) (kind_there m d so f sol s0.opens g i n after kind og st).0))
          (two (kept redo again n))
        where
          -- no open container is a loop
          flat : (g : Graph) (i : List ℕ) → IsOpen m.taken d s0.opens g i → [] ≡ i
          flat _ _ top = refl
          flat _ i (scope {g = g} og st e) = flat g i og
          flat _ i (chosen {g = g} og st e is) = flat g i og
          flat _ _ (turn {g = g} {h = h} {i = i} {n = n} {after = after} {pace = t} {w = w} j og st e lt) =
              absurd (omega (
                arith,
                lt,
                ap (λ z. z.next) (open_is n i w (Foreach t h) e (kind_there m d so f sol s0.opens g i n after (Foreach t h) og st).0).2,
              ))
          flat _ _ (round {g = g} {h = h} {i = i} {n = n} {most = most} {after = after} {w = w} j og st e lt) =
              absurd (omega (
                arith,
                lt,
                ap (λ z. z.next) (open_is n i w (Until most h) e (kind_there m d so f sol s0.opens g i n after (Until most h) og st).0).2,
              ))

  pub out : SpecialOut m d so f sol
  out o g i n after kind og st q h s =
      let sp' = (in_split redo again g n after kind (open_split redo again a.taken d o g i sp.tree og) st).0 in
      ⊎_elim
      (λ t. absurd (special_not q s (sp' t q h)))
      (λ t. ⊎_elim (λ ag. or_right m (IsBefore d) (SeenIn d) (kept redo again n) (again n) ag)
      (λ ag. ap (λ z. z || again n) (is_kept (redo n) (again n) t ag)) (two (again n)))
      (two (redo n))
    where
      special_not : (q : ℕ) → (kept redo again q || again q) ≡ true → redo q ≡ true → ⊥
      special_not q s t =
          ⊎_elim
          (λ k. true≢false (sym t ∙ kept_not (redo q) (again q) k))
          (λ k. true≢false (sym t ∙ sp.apart q (sym (ap (λ z. z || again q) k) ∙ s)))
          (two (kept redo again q))

  pub any_rows : Closed d d → ResumedRows d depth a b redo again r recall
  any_rows closed es s run = rows_are m d so f sol (closed_is m d so f sol closed) out s0 first_keeps es s run

  -- FACTS OF RESUMED STATES
  first_open : (w : Graph) (c : ℕ) (before : List Need) (kind : Kind) → IsOpen m.taken d s0.opens w [] → In w c before kind → again c ≡ true
      → s0.opens (address c []) ≡ Some (record { decision = recall (address c []); next = 0; test = None })
  first_open w c before kind og st ag =
      when (again c && same_at [] []) _ None (and_of (again c) true ag refl)
      ∙ ap (λ z. reopened z (recall (address c []))) (kind_there m d so f sol s0.opens w [] c before kind og st).0

  -- an address is in an action of an open graph that isn't open, is that of an action there, or lies in a branch that isn't taken
  abbrev Reach : Address → Type 0
  Reach y =
      (w : Graph) × IsOpen m.taken d s0.opens w [] × (n : ℕ) × (before : List Need) × (k : Kind) × In w n before k × (is_in n k [] y ≡ true)
      × ((again n ≡ false)
      ⊎ ((nat_eq n y.name ≡ true)
      ⊎ ((bs : Branches) × (k ≡ Choice bs) × (again n ≡ true) × (in_others bs (a.taken (recall (address n []))) [] y ≡ true))))

  branch_later : (x : Graph) (rest : Branches) (c : ℕ) (g : Graph) → branch_at rest (less_one c) ≡ Some g
      → branch_at (branch x rest) c ≡ Some g
  branch_later x rest c g e =
      ⊎_elim (λ t. absurd (none-some g (sym (branch_none rest) ∙ ap (λ z. branch_at rest z) (sym (less_of c t)) ∙ e)))
      (λ u. unless (is_one c) (Some x) _ u ∙ e) (two (is_one c))
    where
      less_of : (c : ℕ) → is_one c ≡ true → less_one c ≡ 0
      less_of zero e = refl
      less_of (suc zero) e = refl
      less_of (suc (suc c)) e = absurd (true≢false (sym e))

  mutual
    reach_kind : (kind : Kind) (c : ℕ) (w : Graph) (before : List Need) → In w c before kind → IsOpen m.taken d s0.opens w []
        → SplitIn redo again kind c → again c ≡ true → (y : Address) → is_in c kind [] y ≡ true → (holds kind y.name && true) ≡ true
        → Reach y
    reach_kind Leaf c w before st og s ag y t h = absurd (true≢false (sym (and_in false true h).0))
    reach_kind (Scope g) c w before st og s ag y t h =
        reach_graph g g (λ n x k q. q) (scope og st (first_open w c before (Scope g) og st ag)) s y h
    reach_kind (Choice bs) c w before st og s ag y t h =
        reach_any bs (a.taken (recall (address c []))) (λ g e. chosen og st (first_open w c before (Choice bs) og st ag) e) y
        (λ o. (w, og, c, before, Choice bs, st, t, inr (inr (bs, refl, ag, o)))) s h
    reach_kind (Foreach pace g) c w before st og s ag y t h = absurd (true≢false (sym ag ∙ s.0))
    reach_kind (Until most g) c w before st og s ag y t h = absurd (true≢false (sym ag ∙ s.0))

    reach_any : (bs : Branches) (c : ℕ) → ((g : Graph) → branch_at bs c ≡ Some g → IsOpen m.taken d s0.opens g []) → (y : Address)
        → (in_others bs c [] y ≡ true → Reach y) → SplitAny redo again bs → is_among bs [] y ≡ true → Reach y
    reach_any no_branch c opens y pass s h = absurd (true≢false (sym (and_in false true h).0))
    reach_any (branch x rest) c opens y pass s h =
        ⊎_elim
        (λ t. ⊎_elim
        (λ one'. reach_graph x x (λ n z k q. q) (opens x (when (is_one c) (Some x) _ one')) s.0 y t)
        (λ other. pass (when (is_within x [] y) (cond (is_one c) false true) _ t ∙ unless (is_one c) false true other))
        (two (is_one c)))
        (λ u. reach_any rest (less_one c) (λ g e. opens g (branch_later x rest c g e)) y
        (λ o. pass (unless (is_within x [] y) (cond (is_one c) false true) _ u ∙ o)) s.1
        (fork (has x y.name) (has_any rest y.name) true h u))
        (two (is_within x [] y))

    reach_graph : (g w : Graph) → ((n : ℕ) (before : List Need) (k : Kind) → In g n before k → In w n before k)
        → IsOpen m.taken d s0.opens w [] → Split redo again g → (y : Address) → is_within g [] y ≡ true → Reach y
    reach_graph done w up og s y h = absurd (true≢false (sym (and_in false true h).0))
    reach_graph (add c before kind rest) w up og s y h =
        ⊎_elim
        (λ t. ⊎_elim
        (λ ag. ⊎_elim
        (λ own. (w, og, c, before, kind, up c before kind here, t, inr (inl own)))
        (λ u. reach_kind kind c w before (up c before kind here) og s.2 ag y t
        (and_of (holds kind y.name) true
        (sym (ap (λ z. z || holds kind y.name) u) ∙ (and_in (nat_eq c y.name || holds kind y.name) true t).0) refl))
        (two (nat_eq c y.name)))
        (λ na. (w, og, c, before, kind, up c before kind here, t, inl na))
        (two (again c)))
        (λ u. reach_graph rest w (λ n z k q. up n z k (there q)) og s.3 y (other_within c before kind rest [] y h u))
        (two (is_in c kind [] y))

  redo_in : (n : ℕ) (k : Kind) → kind_of d n ≡ Some k → redo n ≡ true → (q : ℕ) → holds k q ≡ true → redo q ≡ true
  redo_in n k kn = redo_of redo again d n k sp.tree kn

  -- inside an action that isn't closed again nothing is closed again, and in one that is redone nothing is kept
  not_again_in : (n : ℕ) (k : Kind) → kind_of d n ≡ Some k → again n ≡ false → (q : ℕ) → holds k q ≡ true → again q ≡ true → ⊥
  not_again_in n k kn na q h ag =
      ⊎_elim
      (λ re. true≢false (sym (redo_all re) ∙ sp.apart q ag))
      (λ nr. true≢false (sym ag
      ∙ kept_other (redo q) (again q) ((split_graph redo again d n k sp.tree kn).1 (is_kept (redo n) (again n) nr na) q h)))
      (two (redo n))
    where
      redo_all : redo n ≡ true → redo q ≡ true
      redo_all re = redo_in n k kn re q h

  first_busy : Busy m d so f sol s0
  first_busy = record {
    there' = λ x busy. ⊎_elim (λ z. absurd (none-some z.0 z.1)) (λ z. opened_there x.name x.at z.0 z.1) busy;
    no_row =
        λ x busy. ⊎_elim (λ z. absurd (none-some z.0 z.1))
        (λ z. unless (kept redo again x.name) (r x) None (not_kept' x.name (is_again x z.0 z.1))) busy;
  }
    where
      is_again : (x : Address) (w : Opening Decision Verdict) → s0.opens x ≡ Some w → again x.name ≡ true
      is_again x w e =
          ⊎_elim (λ t. (and_in (again x.name) (same_at [] x.at) t).0)
          (λ t. absurd (none-some w (sym (unless (again x.name && same_at [] x.at) _ None t) ∙ e))) (two (again x.name && same_at [] x.at))

      opened_there : (n : ℕ) (i : List ℕ) (w : Opening Decision Verdict) → s0.opens (address n i) ≡ Some w
          → (after : List Need) × (kind : Kind) × IsThere d m s0 n i after kind
      opened_there n i w e = go (kind_of d n) refl
        where
          at' : [] ≡ i
          at' =
              ⊎_elim (λ t. same_at_is [] i (and_in (again n) (same_at [] i) t).1)
              (λ t. absurd (none-some w (sym (unless (again n && same_at [] i) _ None t) ∙ e))) (two (again n && same_at [] i))

          ag : again n ≡ true
          ag = is_again (address n i) w e

          Stood : ℕ → List ℕ → Type 0
          Stood q j = (after : List Need) × (kind : Kind) × IsThere d m s0 q j after kind

          from : (k : Kind) → kind_of d n ≡ Some k → Reach (address n []) → Stood n []
          from k kn (w, og, q, before, l, st, inq, inl na) =
              absurd (⊎_elim
              (λ t. true≢false (sym ag ∙ ap (λ z. again z) (sym (eqb-true q n t)) ∙ na))
              (λ u. not_again_in q l (kind_there m d so f sol s0.opens w [] q before l og st).0 na n
              (sym (ap (λ z. z || holds l n) u) ∙ (and_in (nat_eq q n || holds l n) true inq).0) ag)
              (two (nat_eq q n)))
          from k kn (w, og, q, before, l, st, inq, inr (inl own)) =
              subst (λ z. Stood z []) (eqb-true q n own) (before, l, record { graph = w; is_open = og; is_in = st })
          from k kn (w, og, q, before, l, st, inq, inr (inr (bs, is, aq, o))) =
              absurd (true≢false (sym ag
              ∙ kept_other (redo n) (again n)
              ((old.others q bs aq ((kind_there m d so f sol s0.opens w [] q before l og st).0 ∙ ap Some is) (address n []) o).0)))

          go : (o : Option Kind) → kind_of d n ≡ o → Stood n i
          go None kn =
              absurd (none-some w (sym (ap (λ z. cond (again n && same_at [] i) (reopened z (recall (address n i))) None) kn
              ∙ both (again n && same_at [] i)) ∙ e))
            where
              both : (p : Bool) → cond p (reopened {Decision = Decision} {Verdict = Verdict} None (recall (address n i))) None ≡ None
              both true = refl
              both false = refl
          go (Some k) kn =
              subst (λ j. Stood n j) at'
              (from k kn (reach_graph d d (λ n b k q. q) top sp.tree (address n []) (and_of (has d n) true (kind_has d n k kn) refl)))

  first_rooted : Rooted m d so f sol s0
  first_rooted y q e = from (reach_graph d d (λ n b k q. q) top sp.tree y (within y q e))
    where
      ky : kept redo again y.name ≡ true
      ky = row_kept y q e

      within : (y : Address) (q : Row) → s0.rows y ≡ Some q → is_within d [] y ≡ true
      within y q e =
          ⊎_elim (λ t. t) (λ u. absurd
          (none-some q (sym (old.inside y u) ∙ sym (when (kept redo again y.name) (r y) None (row_kept y q e)) ∙ e)))
          (two (is_within d [] y))

      kept_at : (w : Graph) (n : ℕ) (before : List Need) (l : Kind) → IsOpen m.taken d s0.opens w [] → In w n before l
          → is_in n l [] y ≡ true → kept redo again n ≡ true → IsRooted m.taken s0.rows s0.opens y d []
      kept_at w n before l og st inn kn = has_row (r (address n [])) refl
        where
          has_row : (o : Option Row) → r (address n []) ≡ o → IsRooted m.taken s0.rows s0.opens y d []
          has_row None e = absurd (old.rows w n before l og st kn e)
          has_row (Some x) e =
              root m.taken s0.rows s0.opens y d w [] og (finished st (when (kept redo again n) (r (address n [])) None kn ∙ e) inn)

      from : Reach y → IsRooted m.taken s0.rows s0.opens y d []
      from (w, og, n, before, l, st, inn, inl na) =
          ⊎_elim
          (λ re. absurd (true≢false
          (sym (⊎_elim (λ t. subst (λ z. redo z ≡ true) (eqb-true n y.name t) re)
          (λ u. redo_in n l (kind_there m d so f sol s0.opens w [] n before l og st).0 re y.name
          (sym (ap (λ z. z || holds l y.name) u) ∙ (and_in (nat_eq n y.name || holds l y.name) true inn).0)) (two (nat_eq n y.name)))
          ∙ kept_not (redo y.name) (again y.name) ky)))
          (λ nr. kept_at w n before l og st inn (is_kept (redo n) (again n) nr na))
          (two (redo n))
      from (w, og, n, before, l, st, inn, inr (inl own)) =
          kept_at w n before l og st inn (subst (λ z. kept redo again z ≡ true) (sym (eqb-true n y.name own)) ky)
      from (w, og, n, before, l, st, inn, inr (inr (bs, is, aq, o))) =
          root m.taken s0.rows s0.opens y d w [] og (passed (subst (λ z. In w n before z) is st) (first_open w n before l og st aq) o)

  -- what is closed again is in no loop
  again_flat : (o : Table (Opening Decision Verdict)) (g : Graph) (i : List ℕ) → IsOpen m.taken d o g i → (q : ℕ) → has g q ≡ true
      → again q ≡ true → [] ≡ i
  again_flat o _ _ top = λ q h ag. refl
  again_flat o _ i (scope {g = g} {h = h} {n = n} {after = after} og st e) = λ q hq ag.
      again_flat o g i og q ((placed_in m d so f sol (length i) g n after (Scope h) (open_sub m d so f sol o g i og) st).inner_has q hq) ag
  again_flat o _ i (chosen {g = g} {b = x} {n = n} {after = after} {bs = bs} {w = w} og st e is) = λ q hq ag.
      again_flat o g i og q
      ((placed_in m d so f sol (length i) g n after (Choice bs) (open_sub m d so f sol o g i og) st).inner_has q
      (taken_has x bs (m.taken w.decision) is q hq)) ag
  again_flat o _ _ (turn {g = g} {h = h} {i = i} {n = n} {after = after} {pace = t} j og st e lt) =
      λ q hq ag. absurd (true≢false
      (sym ag ∙ (in_split redo again g n after (Foreach t h) (open_split redo again a.taken d o g i sp.tree og) st).1.1 q hq))
  again_flat o _ _ (round {g = g} {h = h} {i = i} {n = n} {most = most} {after = after} j og st e lt) =
      λ q hq ag. absurd (true≢false
      (sym ag ∙ (in_split redo again g n after (Until most h) (open_split redo again a.taken d o g i sp.tree og) st).1.1 q hq))

  lull : Lull m d so f sol
  lull o g i n after bs og st ag y h ky r' q =
      let sub = open_sub m d so f sol o g i og in
      let flat = again_flat o g i og n ((placed_in m d so f sol (length i) g n after (Choice bs) sub st).own_has) ag in
      (old.others n bs ag (kind_there m d so f sol o g i n after (Choice bs) og st).0 y
      (subst (λ j. in_others bs (a.taken (recall (address n j))) j y ≡ true) (sym flat)
      (subst (λ p. in_others bs (a.taken p) i y ≡ true) (when (again n) (recall (address n i)) _ ag) h))).1 r' (sym (kept_row y ky) ∙ q)

  first_limited : Limited m d so f sol s0
  first_limited n i w most h e k =
      absurd (true≢false (sym (open_is n i w (Foreach (AtMost most) h) e k).0
      ∙ (split_graph redo again d n (Foreach (AtMost most) h) sp.tree k).0.0))

  left_own : (c : ℕ) (before : List Need) (kind : Kind) (w : Graph) → In w c before kind → IsOpen m.taken d s0.opens w []
      → (again c ≡ true → total_in m f kind c [] ≡ suc
      (left_in m f s0 kind c [] (record { decision = recall (address c []); next = 0; test = None })))
      → entry m f s0 c before kind [] ≡ total_of m f before c [] (total_in m f kind c [])
  left_own c before kind w st og opens =
      ⊎_elim
      (λ kn. with_row kn (r (address c [])) refl)
      (λ nk. ⊎_elim
      (λ ag.
      let x = by_open m f s0 (address c []) (record { decision = recall (address c []); next = 0; test = None })
      (λ w. suc (b.tries (address c []) w.begun - w.tries)) (λ w. left_in m f s0 kind c [] w)
      (total_of m f before c [] (total_in m f kind c []))
      (unless (kept redo again c) (r (address c [])) None nk) refl (first_open w c before kind og st ag) in
      let y : total_of m f before c [] (total_in m f kind c []) ≡ left_in m f s0 kind c []
      (record { decision = recall (address c []); next = 0; test = None }) = unless (kept redo again c) 0 _ nk
      ∙ when (again c) (less_one (total_in m f kind c [])) _ ag ∙ ap less_one (opens ag) in
      omega (arith, x, y))
      (λ na. by_none m f s0 (address c []) (λ w. suc (b.tries (address c []) w.begun - w.tries)) (λ w. left_in m f s0 kind c [] w)
      (total_of m f before c [] (total_in m f kind c [])) (
        unless (kept redo again c) (r (address c [])) None nk,
        refl,
        unless (again c && true) (reopened (kind_of d c) (recall (address c []))) None (ap (λ z. z && true) na),
      ))
      (two (again c)))
      (two (kept redo again c))
    where
      with_row : kept redo again c ≡ true → (o : Option Row) → r (address c []) ≡ o
          → entry m f s0 c before kind [] ≡ total_of m f before c [] (total_in m f kind c [])
      with_row kn None e = absurd (old.rows w c before kind og st kn e)
      with_row kn (Some q) e =
          by_row m f s0 (address c []) q (λ w. suc (b.tries (address c []) w.begun - w.tries)) (λ w. left_in m f s0 kind c [] w)
          (total_of m f before c [] (total_in m f kind c [])) (when (kept redo again c) (r (address c [])) None kn ∙ e)
          ∙ sym (when (kept redo again c) 0 _ kn)

  -- what is left at first is all
  mutual
    left_kind : (kind : Kind) (c : ℕ) (w : Graph) (before : List Need) → In w c before kind → IsOpen m.taken d s0.opens w []
        → SplitIn redo again kind c → again c ≡ true
        → total_in m f kind c [] ≡ suc (left_in m f s0 kind c [] (record { decision = recall (address c []); next = 0; test = None }))
    left_kind Leaf c w before st og s ag = absurd (true≢false (sym ag ∙ s))
    left_kind (Scope h) c w before st og s ag =
        ap (λ z. suc (suc z)) (sym (left_graph h h (λ n z k q. q) (scope og st (first_open w c before (Scope h) og st ag)) s))
    left_kind (Choice bs) c w before st og s ag =
        ap (λ z. suc (suc (total_any m f bs (a.taken z) []))) (when (again c) (recall (address c [])) _ ag)
        ∙ ap (λ z. suc (suc z))
        (sym (left_bs bs (a.taken (recall (address c []))) (λ g e. chosen og st (first_open w c before (Choice bs) og st ag) e) s))
    left_kind (Foreach pace h) c w before st og s ag = absurd (true≢false (sym ag ∙ s.0))
    left_kind (Until most h) c w before st og s ag = absurd (true≢false (sym ag ∙ s.0))

    left_bs : (bs : Branches) (c : ℕ) → ((g : Graph) → branch_at bs c ≡ Some g → IsOpen m.taken d s0.opens g []) → SplitAny redo again bs
        → left_any m f s0 bs c [] ≡ total_any m f bs c []
    left_bs no_branch c opens s = refl
    left_bs (branch x rest) c opens s =
        ⊎_elim
        (λ t. when (is_one c) (left m f s0 x []) _ t ∙ left_graph x x (λ n z k q. q) (opens x (when (is_one c) (Some x) _ t)) s.0
        ∙ sym (when (is_one c) (total m f x []) _ t))
        (λ t. unless (is_one c) (left m f s0 x []) _ t ∙ left_bs rest (less_one c) (λ g e. opens g (branch_later x rest c g e)) s.1
        ∙ sym (unless (is_one c) (total m f x []) _ t))
        (two (is_one c))

    left_graph : (g w : Graph) → ((n : ℕ) (before : List Need) (k : Kind) → In g n before k → In w n before k)
        → IsOpen m.taken d s0.opens w [] → Split redo again g → left m f s0 g [] ≡ total m f g []
    left_graph done w up og s = refl
    left_graph (add c before kind rest) w up og s =
        let x = left_graph rest w (λ n z k q. up n z k (there q)) og s.3 in
        let y = left_own c before kind w (up c before kind here) og (λ ag. left_kind kind c w before (up c before kind here) og s.2 ag) in
        omega (arith, x, y)

  module _ (closed : Closed d d) where
    pub cl : IsClosed m d so f sol
    cl = closed_is m d so f sol closed

    pub any_keeps : (es : List Event) (s : State Row Begun Decision Verdict) → Run d m s0 es s → Keeps m d so f sol s
    any_keeps es s run = run_keeps m d so f sol cl out s0 es s first_keeps run

    pub any_busy : (es : List Event) (s : State Row Begun Decision Verdict) → Run d m s0 es s → Busy m d so f sol s
    any_busy es s run = run_busy m d so f sol cl out s0 es s first_keeps first_busy run

    pub any_rooted : (es : List Event) (s : State Row Begun Decision Verdict) → Run d m s0 es s → Rooted m d so f sol s
    any_rooted es s run = run_rooted m d so f sol cl out s0 es s first_keeps first_busy first_rooted run

    pub any_facts : ResumedFacts d depth a b redo again r recall
    any_facts es s run =
        facts_are m d so f sol s (any_keeps es s run) (any_busy es s run) (any_rooted es s run)
        (run_limited m d so f sol s0 es s first_limited run)

    any_counted : (es : List Event) (s : State Row Begun Decision Verdict) → Run d m s0 es s → length es + left m f s d [] ≡ total m f d []
    any_counted es s run =
        run_left m d so f sol cl out s0 es s first_keeps first_busy first_rooted run ∙ left_graph d d (λ n z k q. q) top sp.tree

    pub any_ends : ResumedEnds d depth a b redo again r recall
    any_ends es s run = any_counted es s run

    pub any_few : (RowAt LeafAt OpenAt : Type 0) → ResumedFew RowAt LeafAt OpenAt d depth a b redo again r recall
    any_few RowAt LeafAt OpenAt es s run turns tells row_at row leaf_at leaf open_at opening of_row of_leaf of_open costs rows leaves opens
        lr ll lo =
        events_are_few m d so f sol turns tells cl out RowAt LeafAt OpenAt s0 es s first_keeps first_busy first_rooted run
        (any_keeps es s run)
        (any_busy es s run) row_at row leaf_at leaf open_at opening of_row of_leaf of_open costs rows leaves opens lr ll lo

    pub any_at_the_end : Turns d → ResumedAtTheEnd d depth a b redo again r recall
    any_at_the_end t es s run o =
        let k = any_keeps es s run in let e = all_ended_over m d so f sol closed depth falls s k o t in
        let x = any_counted es s run in let y = ended_left m f s d [] e in
        (ended_settled m d so f sol s k d [] top e, omega (arith, x, y))

    pub any_one_event : ResumedOneEvent d depth a b redo again r recall
    any_one_event es s run = one_event m d so f sol s (any_keeps es s run)

    pub any_exact : ResumedExact d a b redo again r recall
    any_exact es s run = exact m d so f sol s (any_keeps es s run) (any_busy es s run)

    pub any_changes : ResumedChanges d a b redo again r recall
    any_changes es s run e s' st x free =
        only_there m d so f sol cl out s e s' (any_keeps es s run) (any_busy es s run) (any_rooted es s run) st x free

    -- what a decided action has an order with, and is finished, is seen by it; and all that it sees is there; and so for tests
    pub any_order : ResumedInOrder d depth a b redo again r recall
    any_order es s run =
        let k = any_keeps es s run in let bu = any_busy es s run in let rt = any_rooted es s run in (
          sees_finished m d so f sol lull out s k bu rt,
          λ n i after kind de y see.
              decided_own m d so f sol cl s k de.is_there.graph i n after kind de.is_there.is_open de.is_there.is_in de.ended y see,
          test_sees m d so f sol lull out s k bu rt,
        )

    pub any_store : {Value : Type 0} (writes : Address → Row → Option Value) → ResumedStore d depth a b redo again r recall writes
    any_store writes one_order v0 first es s v st =
        let run = stores_run d m writes s0 es s v0 v st in
        let k = any_keeps es s run in let bu = any_busy es s run in let rt = any_rooted es s run in
        let l = run_last m d so f sol cl out lull writes one_order s0 es s v0 v first_keeps first_busy st first in (
          l,
          decided_last m d so f sol cl out lull writes one_order s v k bu rt l,
          tested_last m d so f sol cl out lull writes one_order s v k bu rt l,
          running_last m d so f sol cl out lull writes one_order s v k bu rt l,
        )
