-- What a Test makes of what a state keeps.
use Rattle.std.proofs.Common.{◌≡◌, ℕ, suc, ◌-◌, Bool, true, cond, List, Option, Some, None, option_map, inr, ⊎_elim, refl, sym, ap, ◌∙◌, subst, arith}
use Rattle.std.proofs.lemmas.Option.{none-some}
use Rattle.wf_lists.specs.KeyOrder.{IsInKeyOrder, find_key, put_key, without_key}
use Rattle.wf_layers.specs.Definition.{Need, Kind, Leaf, Scope, Choice, Foreach, Until, Graph, kind_of}
use Rattle.wf_layers.specs.Address.{Address, Table, address, is_own}
use Rattle.wf_layers.specs.Changes.{next_of}
use Rattle.wf_layers.specs.Enabled.{own_event, of_busy, of_opening, of_tested}
use Rattle.wf_layers.specs.Machine as machine
use Rattle.wf_layers.specs.Machine.{Opening, State, Event, IsThere, MayTest, Step, has_ended, opened}
use Rattle.wf_layers.specs.Source.{Source}
use Rattle.wf_layers.specs.Variables.{OneOrder}
use Rattle.wf_layers.specs.Meaning.{meaning}
use Rattle.wf_layers.proofs.Basics.{two, when, unless}
use Rattle.wf_layers.proofs.Tables.{own_self}
use Rattle.wf_kept.specs.Event.{AreLeft}
use Rattle.wf_kept.proofs.Informed.{kinds_are_known, running_stands}
use Rattle.wf_kept.proofs.Known.{Known, known, goes_on}
use Rattle.wf_kept.proofs.Quiet.{counts_stay, left_stays, ready_but_own}
use Rattle.wf_kept.proofs.Stored.{store_goes_on}
use Rattle.wf_events.specs.Instances.{address_of, instance_cmp, instance_of, rows_in, table_of}
use Rattle.wf_events.specs.Known.{HoldsLastAtTest, IsInformedAtTest, open_tree, opens_in, store_in, writer}
use Rattle.wf_events.specs.Instance.{Instance}
use Rattle.wf_events.specs.OpenAt.{OpenAt}
use Rattle.wf_events.specs.RowAt.{RowAt}
use Rattle.wf_events.specs.WriterAt.{WriterAt}
use Rattle.wf_events.specs.Plan.{PlanTree}
use Rattle.wf_events.specs.PlanSeen.{at_place}
use Rattle.wf_events.specs.Counts.{or_zero}
use Rattle.wf_events.specs.Tables.{count_in, count_or_none, event_at, events_in, left_in, running_in, state_of}
use Rattle.wf_events.specs.CountAt.{CountAt}
use Rattle.wf_events.specs.EventAt.{EventAt}
use Rattle.wf_events.specs.EventKind.{EventKind}
use Rattle.wf_events.specs.LeafAt.{LeafAt}
use Rattle.wf_events.proofs.OpenLemmas.{found_at, found_is, table_changed}
use Rattle.wf_events.specs.Events.{count_of, count_or_zero, tested_kind}
use Rattle.wf_steps.specs.Kept.{Goes, IsEnabled, IsKept, IsPlanned}
use Rattle.wf_events.proofs.EventLemmas.{tested_same}
use Rattle.wf_steps.proofs.InformedLemmas.{tested_holds_last, tested_is_informed}

the_same : {A : Type 0} {u v : A} → Some u ≡ Some v → u ≡ v
the_same e = cc (e)

-- ---- what is unfinished of a container that is put back with another test

module _ {Decision Verdict : Type 0} (k : Instance) (xs : List (OpenAt Decision Verdict))
    (order : IsInKeyOrder instance_cmp (λ (o : OpenAt Decision Verdict). o.instance) xs) (o : OpenAt Decision Verdict)
    (found : Some o ≡ find_key instance_cmp (λ (o : OpenAt Decision Verdict). o.instance) k xs) (v : Verdict) where
  abbrev Open : Type 0
  Open = OpenAt Decision Verdict

  abbrev at_of : Open → Instance
  at_of z = z.instance

  abbrev pub with_test : Open
  with_test = record { instance = o.instance; decision = o.decision; next = o.next; test = Some v; unfinished = o.unfinished }

  abbrev pub tested : List Open
  tested = put_key instance_cmp at_of with_test (without_key instance_cmp at_of k xs)

  abbrev lefts : List Open → Address → Option ℕ
  lefts = table_of at_of (λ (z : Open). z.unfinished)

  left_is : (ys : List Open) (x : Address) → left_in ys x ≡ or_zero (lefts ys x)
  left_is ys x = go (find_key instance_cmp at_of (instance_of x) ys)
    where
      go : (z : Option Open) → count_or_none z ≡ or_zero (option_map (λ (z : Open). z.unfinished) z)
      go None = refl
      go (Some z) = refl

  is_at : o.instance ≡ k
  is_at = found_at at_of k xs o (sym found)

  -- at its own address stands what is found
  found_there : {Y : Type 0} (see : Open → Y) (x : Address) → is_own k.action k.at x ≡ true → table_of at_of see xs x ≡ Some (see o)
  found_there see x t = found_is at_of see k xs order (Some o) (sym found) x t

  same_left : (x : Address) → left_in tested x ≡ left_in xs x
  same_left x =
      left_is tested x
      ∙ ap or_zero (table_changed at_of (λ (z : Open). z.unfinished) k xs order with_test is_at x
      ∙ ⊎_elim
      (λ t. when (is_own k.action k.at x) (Some o.unfinished) (lefts xs x) t ∙ sym (found_there (λ (z : Open). z.unfinished) x t))
      (λ u. unless (is_own k.action k.at x) (Some o.unfinished) (lefts xs x) u)
      (two (is_own k.action k.at x)))
      ∙ sym (left_is xs x)

  pub left_same : left_in xs ≡ left_in tested
  left_same = sym (λ k x. same_left x k)

next_is : {Decision Verdict Decided Told : Type 0} (decided : Decision → Decided) (told : Verdict → Told)
    (o : Option (OpenAt Decision Verdict))
    → next_of (option_map (open_tree (λ d. d) (λ v. v)) o) ≡ next_of (option_map (open_tree decided told) o)
next_is decided told None = refl
next_is decided told (Some o) = refl

module _ {Row Begun Decision Verdict Kept Started Decided Told : Type 0} (see : Row → Kept) (started : Begun → Started)
    (decided : Decision → Decided) (told : Verdict → Told) (d : Graph) (m : Source Kept Started Decided Told) (depth : ℕ → ℕ)
    (writes : ℕ → Address → Kept → Bool) (rows : List (RowAt Row)) (running : List (LeafAt Begun)) (opens : List (OpenAt Decision Verdict))
    (store : List WriterAt) (waits lacks : List CountAt) (ready : List EventAt)
    (kept : IsKept d m depth writes (state_of see started decided told rows running opens) opens store waits lacks ready)
    (at : Instance) (may : IsEnabled d m (state_of see started decided told rows running opens) (machine.Test at.action at.at)) where
  n : ℕ
  n = at.action

  i : List ℕ
  i = at.at

  abbrev s : State Kept Started Decided Told
  s = state_of see started decided told rows running opens

  abbrev w : Opening Decided Told
  w = may.1.2

  abbrev j : ℕ
  j = may.1.3

  abbrev after : List Need
  after = may.1.0

  stands : s.opens (address at.action at.at) ≡ Some w
  stands = may.1.5

  until_of : (kind : Kind) → IsThere d m s at.action at.at after kind → MayTest m kind at.at w s.rows j
      → (most : ℕ) × (g : Graph) × IsThere d m s at.action at.at after (Until most g) × MayTest m (Until most g) at.at w s.rows j
  until_of Leaf th mt = absurd mt
  until_of (Scope g) th mt = absurd mt
  until_of (Choice bs) th mt = absurd mt
  until_of (Foreach pace g) th mt = absurd mt
  until_of (Until most g) th mt = (most, g, th, mt)

  pub it : (most : ℕ) × (g : Graph) × IsThere d m s at.action at.at after (Until most g) × MayTest m (Until most g) at.at w s.rows j
  it = until_of may.1.1 may.1.4 may.1.6

  is_kind : kind_of d at.action ≡ Some (Until it.0 it.1)
  is_kind = (kinds_are_known d depth m s kept.reached at.action at.at after (Until it.0 it.1) it.2).0

  -- the index of its last iteration
  pub next_there : next_of (opens_in (λ d. d) (λ v. v) opens (address_of at)) ≡ suc j
  next_there =
      next_is decided told (find_key instance_cmp (λ (o : OpenAt Decision Verdict). o.instance) at opens)
      ∙ ap next_of stands ∙ it.3.0

  pub index_is : (next index : ℕ) → next ≡ next_of (opens_in (λ d. d) (λ v. v) opens (address_of at)) → index ≡ next - 1 → index ≡ j
  index_is next index is one_less = let more = is ∙ next_there in omega (arith, more, one_less)

  pub test_is_informed : ((v : ℕ) → OneOrder d m (writer writes v) (meaning m depth d)) → (index : ℕ) → index ≡ j → (most : ℕ) (g : Graph) → kind_of d at.action ≡ Some (Until most g)
      → IsInformedAtTest d depth m s.rows s.opens at.action at.at most g index
      × HoldsLastAtTest d depth m writes s.rows (store_in store) at.action most g at.at index
  test_is_informed order index is most g kn =
      let same : Until it.0 it.1 ≡ Until most g = the_same (sym is_kind ∙ kn) in
      let th = subst (λ (k : Kind). IsThere d m s at.action at.at after k) same it.2 in
      let mt = subst (λ (k : Kind). MayTest m k at.at w s.rows j) same it.3 in
      subst (λ (z : ℕ). IsInformedAtTest d depth m s.rows s.opens at.action at.at most g z
      × HoldsLastAtTest d depth m writes s.rows (store_in store) at.action most g at.at z) (sym is) (
        tested_is_informed d depth m s kept.reached at.action at.at after most g w j th stands mt,
        tested_holds_last d depth m s kept.reached writes order (store_in store) kept.stored at.action at.at after most g w j th stands mt,
      )

  -- what is tested is open
  pub none_open : None ≡ find_key instance_cmp (λ (o : OpenAt Decision Verdict). o.instance) at opens → ⊥
  none_open none = none-some w (ap (option_map (open_tree decided told)) none ∙ stands)

  -- its limit stands in the plan
  pub count_there : (p : PlanTree) → IsPlanned d p → count_or_zero (at_place p.entries at.action) ≡ it.0
  count_there p planned =
      let e = planned.plan.entry at.action (Until it.0 it.1) is_kind in
      ap count_or_zero e.1 ∙ ap count_of e.2.shape

  module _ (order : IsInKeyOrder instance_cmp (λ (o : OpenAt Decision Verdict). o.instance) opens) (found : OpenAt Decision Verdict)
      (there : Some found ≡ find_key instance_cmp (λ (o : OpenAt Decision Verdict). o.instance) at opens)
      (v : Verdict) (index : ℕ) (is : index ≡ j) (gives : told v ≡ m.test (address_of at) index (rows_in see rows)) where
    opening : w ≡ open_tree decided told found
    opening = the_same (sym stands ∙ ap (option_map (open_tree decided told)) (sym there))

    abbrev then : List (OpenAt Decision Verdict)
    then = tested at opens order found there v

    abbrev s' : State Kept Started Decided Told
    s' = state_of see started decided told rows running then

    abbrev new : Opening Decided Told
    new = record { decision = decided found.decision; next = found.next; test = Some (told v) }

    opens_at : (x : Address) → opens_in decided told then x ≡ opened at.action at.at (Some new) s.opens x
    opens_at x = table_changed (λ (o : OpenAt Decision Verdict). o.instance) (open_tree decided told) at opens order
        (with_test at opens order found there v)
        (is_at at opens order found there v) x

    new_is : new ≡ record { decision = w.decision; next = w.next; test = Some (m.test (address at.action at.at) j s.rows) }
    new_is =
        ap (λ (z : Opening Decided Told). record { decision = z.decision; next = z.next; test = Some (told v) }) (sym opening)
        ∙ ap (λ (t : Told). record { decision = w.decision; next = w.next; test = Some t })
        (gives ∙ ap (λ k. m.test (address_of at) k s.rows) is)

    pub test_goes : Goes d m s (machine.Test at.action at.at) s'
    test_goes = (
      after,
      Until it.0 it.1,
      w,
      j,
      it.2,
      stands,
      it.3,
      ap (λ (t : Table (Opening Decided Told)). record { rows = rows_in see rows; running = running_in started running; opens = t })
          ((λ k x. opens_at x k) ∙ ap (λ o. opened at.action at.at (Some o) s.opens) new_is),
    )

    pub test_leads : (ys : List (OpenAt Decision Verdict)) → ys ≡ then
        → Goes d m s (machine.Test at.action at.at) (state_of see started decided told rows running ys)
    test_leads ys e =
        subst (λ (zs : List (OpenAt Decision Verdict)). Goes d m s (machine.Test at.action at.at)
        (state_of see started decided told rows running zs)) (sym e) test_goes

    no_row : s.rows (address at.action at.at) ≡ None
    no_row = (known d depth m s kept.reached).busy.no_row (address at.action at.at) (inr (w, stands))

    not_running : s.running (address at.action at.at) ≡ None
    not_running = go (s.running (address at.action at.at)) refl
      where
        go : (o : Option (machine.Running Started)) → s.running (address at.action at.at) ≡ o → s.running (address at.action at.at) ≡ None
        go None e = e
        go (Some r) e = absurd (none-some w
            (sym (running_stands d depth m s kept.reached (address at.action at.at) r e).2 ∙ stands))

    own_open : s'.opens (address at.action at.at) ≡ Some new
    own_open =
        opens_at (address at.action at.at)
        ∙ when (is_own at.action at.at (address at.action at.at)) (Some new) (s.opens (address at.action at.at))
        (own_self at.action at.at)

    own_is : own_event m s' after (Until it.0 it.1) at.action at.at
        ≡ of_tested m s' it.0 at.action at.at found.next (told v)
    own_is =
        ap (λ o. cond (has_ended o) None (of_busy m s' after (Until it.0 it.1) at.action at.at (s.running (address at.action at.at)))) no_row
        ∙ ap (of_busy m s' after (Until it.0 it.1) at.action at.at) not_running
        ∙ ap (of_opening m s' after (Until it.0 it.1) at.action at.at) own_open

    -- a table of events that is looked at anew there
    pub test_kept : (p : PlanTree) → IsPlanned d p → (next : ℕ) → next ≡ next_of (opens_in (λ d. d) (λ v. v) opens (address_of at))
        → (most : ℕ) → most ≡ count_or_zero (at_place p.entries at.action) → (kind : Option EventKind)
        → kind ≡ tested_kind m most next (told v) → (events : List EventAt)
        → ((x : Address) → events_in events x
        ≡ cond (is_own at.action at.at x) (option_map (λ k. event_at k at.action at.at) kind) (events_in ready x))
        → IsKept d m depth writes s' then store waits lacks events
    test_kept p planned next next_it most count kind tells events looks = record {
      reached = goes_on d depth m s kept.reached e s' test_goes;
      counts = counts_stay d depth m s kept.reached e s' test_goes refl (count_in waits) (count_in lacks) kept.counts;
      left =
          subst (AreLeft d m s') (left_same at opens order found there v)
          (left_stays d depth m s kept.reached e s' test_goes refl (count_in waits) (count_in lacks) (left_in opens) kept.counts kept.left);
      enabled =
          ready_but_own d depth m s kept.reached e s' test_goes refl (events_in ready) (events_in events) kept.enabled after
          (Until it.0 it.1) th'
          (looks (address at.action at.at)
          ∙ when (is_own at.action at.at (address at.action at.at)) (option_map (λ k. event_at k at.action at.at) kind)
          (events_in ready (address at.action at.at)) (own_self at.action at.at)
          ∙ event_is ∙ sym own_is)
          (λ x u. looks x
          ∙ unless (is_own at.action at.at x) (option_map (λ k. event_at k at.action at.at) kind) (events_in ready x) u);
      stored = λ v'. store_goes_on d depth m (writer writes v') s (store_in store v') (kept.stored v') e s' test_goes;
    }
      where
        e : Event
        e = machine.Test at.action at.at

        th' : IsThere d m s' at.action at.at after (Until it.0 it.1)
        th' =
            let k : Known d depth m s' = known d depth m s' (goes_on d depth m s kept.reached e s' test_goes) in
            let t = k.busy.there' (address at.action at.at) (inr (new, own_open)) in
            let kn = kinds_are_known d depth m s' (goes_on d depth m s kept.reached e s' test_goes) at.action at.at t.0 t.1 t.2 in
            subst (λ (z : List Need). IsThere d m s' at.action at.at z (Until it.0 it.1))
            (sym kn.1 ∙ (kinds_are_known d depth m s kept.reached at.action at.at after (Until it.0 it.1) it.2).1)
            (subst (λ (z : Kind). IsThere d m s' at.action at.at t.0 z) (the_same (sym kn.0 ∙ is_kind)) t.2)

        at_next : next ≡ found.next
        at_next =
            next_it ∙ next_there ∙ sym it.3.0 ∙ ap (λ (z : Opening Decided Told). z.next) opening

        event_is : option_map (λ k. event_at k at.action at.at) kind ≡ of_tested m s' it.0 at.action at.at found.next (told v)
        event_is =
            ap (option_map (λ k. event_at k at.action at.at))
            (tells ∙ ap (λ z. tested_kind m z next (told v)) (count ∙ count_there p planned) ∙ ap (λ z. tested_kind m it.0 z (told v)) at_next)
            ∙ tested_same d m s' (count_in waits) (count_in lacks) (left_in opens) at.action at.at it.0 found.next (told v)
