-- What a Begin makes of what a state keeps.
use Rattle.std.proofs.Common.{◌≡◌, ℕ, zero, suc, ◌+◌, ◌-◌, ◌<◌, ◌≤◌, Bool, true, false, cond, List, [], ◌∷◌, ◌++◌, Option, Some, None, option_map, length, nat_eq, nat_lt, refl, sym, ap, ◌∙◌, subst, arith, true≢false}
use Rattle.std.proofs.lemmas.Option.{none-some}
use Rattle.wf_lists.specs.KeyOrder.{IsInKeyOrder, find_key, put_key, without_key}
use Rattle.wf_layers.specs.Definition.{InTurn, AtMost, Kind, Leaf, Scope, Choice, Foreach, Until, Graph, kind_of}
use Rattle.wf_layers.specs.Address.{Address, Table, address, is_own}
use Rattle.wf_layers.specs.Changes.{next_of}
use Rattle.wf_layers.specs.Machine as machine
use Rattle.wf_layers.specs.Machine.{IsThere, MayBegin, Opening, State, is_ended, opened, unfinished}
use Rattle.wf_layers.specs.Source.{Source}
use Rattle.wf_layers.proofs.Basics.{when}
use Rattle.wf_layers.proofs.Tables.{own_self}
use Rattle.wf_kept.specs.Counted.{AreCounts, nonzero, size}
use Rattle.wf_kept.specs.Event.{AreLeft}
use Rattle.wf_kept.specs.Ready.{IsReady}
use Rattle.wf_kept.proofs.Informed.{kinds_are_known}
use Rattle.wf_kept.proofs.Known.{goes_on}
use Rattle.wf_kept.proofs.Stored.{store_goes_on}
use Rattle.wf_step_laws.specs.Edits.{is_foreach, size_of, turned_graph}
use Rattle.wf_step_laws.proofs.Entered.{iterations_are_counted}
use Rattle.wf_events.specs.Instances.{address_of, instance_cmp, instance_of, rows_in, table_of}
use Rattle.wf_events.specs.Known.{open_tree, opens_in, store_in, writer}
use Rattle.wf_events.specs.Instance.{Instance}
use Rattle.wf_events.specs.OpenAt.{OpenAt}
use Rattle.wf_events.specs.RowAt.{RowAt}
use Rattle.wf_events.specs.WriterAt.{WriterAt}
use Rattle.wf_events.specs.Plan.{EntryTree, PlanTree, shape_of}
use Rattle.wf_events.specs.PlanOf.{IsEntryOf}
use Rattle.wf_events.specs.PlanSeen.{at_place}
use Rattle.wf_events.specs.Counts.{or_zero, set_all}
use Rattle.wf_events.specs.Tables.{count_in, count_or_none, events_in, left_in, running_in, state_of}
use Rattle.wf_events.specs.CountAt.{CountAt}
use Rattle.wf_events.specs.EventAt.{EventAt}
use Rattle.wf_events.specs.LeafAt.{LeafAt}
use Rattle.wf_events.proofs.CountLemmas.{own_size}
use Rattle.wf_events.proofs.OpenLemmas.{found_at, table_changed}
use Rattle.wf_events.specs.Looked.{idle_at, look_each, open_at}
use Rattle.wf_resting.specs.Begun.{IsBelow, begun, begun_by, begun_in, counts_at, counts_by, counts_turns, limit_by, limit_of}
use Rattle.wf_resting.specs.Entered.{IsMade, is_at}
use Rattle.wf_resting.specs.Graphs.{turned_at}
use Rattle.wf_resting.specs.Entering.{Entering}
use Rattle.wf_resting.proofs.EnteredLemmas.{iteration_is_entered}
use Rattle.wf_resting.proofs.MadeLemmas.{made_is_entered}
use Rattle.wf_steps.specs.Kept.{Goes, IsEnabled, IsKept, IsPlanned}

-- no more are unfinished than have begun
few_unfinished : {A : Type 0} (g : Graph) (i : List ℕ) (t : Table A) (c : ℕ) → unfinished g i t c ≤ c
few_unfinished g i t zero = omega (arith)
few_unfinished g i t (suc j) = go (few_unfinished g i t j) (is_ended g (i ++ j ∷ []) t)
  where
    go : unfinished g i t j ≤ j → (b : Bool) → cond b (unfinished g i t j) (suc (unfinished g i t j)) ≤ suc j
    go le true = omega (arith, le)
    go le false = omega (arith, le)

next_is : {Decision Verdict Decided Told : Type 0} (decided : Decision → Decided) (told : Verdict → Told)
    (o : Option (OpenAt Decision Verdict))
    → next_of (option_map (open_tree (λ d. d) (λ v. v)) o) ≡ next_of (option_map (open_tree decided told) o)
next_is decided told None = refl
next_is decided told (Some o) = refl

one_unless_none : (z u : ℕ) → cond (nat_lt 0 z) (u + 1) u ≡ cond (nat_eq z 0) u (suc u)
one_unless_none z u = grind (arith)

module _ {Row Begun Decision Verdict Kept Started Decided Told : Type 0} (see : Row → Kept) (started : Begun → Started)
    (decided : Decision → Decided) (told : Verdict → Told) (d : Graph) (m : Source Kept Started Decided Told) (depth : ℕ → ℕ)
    (writes : ℕ → Address → Kept → Bool) (rows : List (RowAt Row)) (running : List (LeafAt Begun)) (opens : List (OpenAt Decision Verdict))
    (store : List WriterAt) (waits lacks : List CountAt) (ready : List EventAt)
    (kept : IsKept d m depth writes (state_of see started decided told rows running opens) opens store waits lacks ready)
    (at : Instance) (may : IsEnabled d m (state_of see started decided told rows running opens) (machine.Begin at.action at.at))
    (p : PlanTree) (planned : IsPlanned d p) where
  abbrev Open : Type 0
  Open = OpenAt Decision Verdict

  abbrev at_of : Open → Instance
  at_of o = o.instance

  abbrev s : State Kept Started Decided Told
  s = state_of see started decided told rows running opens

  abbrev kind : Kind
  kind = may.1.1

  abbrev w : Opening Decided Told
  w = may.1.2

  stands : s.opens (address at.action at.at) ≡ Some w
  stands = may.1.4

  is_kind : kind_of d at.action ≡ Some kind
  is_kind = (kinds_are_known d depth m s kept.reached at.action at.at may.1.0 kind may.1.3).0

  entry : (e : EntryTree) × (at_place p.entries at.action ≡ Some e) × IsEntryOf d at.action kind e
  entry = planned.plan.entry at.action kind is_kind

  counts_are : counts_at p at.action ≡ counts_turns (shape_of kind)
  counts_are = ap counts_by entry.1 ∙ ap counts_turns entry.2.shape

  -- the index of the next iteration
  pub next_there : next_of (opens_in (λ d. d) (λ v. v) opens (address_of at)) ≡ w.next
  next_there = next_is decided told (find_key instance_cmp at_of at opens) ∙ ap next_of stands

  below_of : (kind : Kind) → MayBegin m kind at.at w s.rows → w.next < limit_of m (shape_of kind) w.decision
  below_of Leaf mb = absurd mb
  below_of (Scope g) mb = absurd mb
  below_of (Choice bs) mb = absurd mb
  below_of (Foreach InTurn g) mb = mb.0
  below_of (Foreach (AtMost most) g) mb = mb.0
  below_of (Until most g) mb = mb.0

  pub begin_is_below : IsBelow m p at.action (opens_in decided told opens (address_of at))
  begin_is_below =
      subst (IsBelow m p at.action) (sym stands)
      (subst (λ c. w.next < c) (sym (ap (λ o. limit_by m o w.decision) entry.1 ∙ ap (λ z. limit_of m z w.decision) entry.2.shape))
      (below_of kind may.1.5))

  -- those that are unfinished have begun
  pub few_left : counts_at p at.action ≡ true
      → left_in opens (address_of at) ≤ next_of (opens_in (λ d. d) (λ v. v) opens (address_of at))
  few_left t = go kind may.1.3 (sym counts_are ∙ t)
    where
      go : (kind : Kind) → IsThere d m s at.action at.at may.1.0 kind → counts_turns (shape_of kind) ≡ true
          → left_in opens (address_of at) ≤ next_of (opens_in (λ d. d) (λ v. v) opens (address_of at))
      go Leaf th h = absurd (true≢false (sym h))
      go (Scope g) th h = absurd (true≢false (sym h))
      go (Choice bs) th h = absurd (true≢false (sym h))
      go (Until most g) th h = absurd (true≢false (sym h))
      go (Foreach pace g) th h =
          let is : left_in opens (address_of at) ≡ unfinished g at.at s.rows w.next
          = kept.left at.action at.at may.1.0 pace g w th stands in
          let few = few_unfinished g at.at s.rows w.next in omega (arith, is, few, next_there)

  is_open : (o : Open) × (find_key instance_cmp at_of at opens ≡ Some o)
  is_open = go (find_key instance_cmp at_of at opens) refl
    where
      go : (o : Option Open) → find_key instance_cmp at_of at opens ≡ o → (o : Open) × (find_key instance_cmp at_of at opens ≡ Some o)
      go None e = absurd (none-some w (ap (option_map (open_tree decided told)) (sym e) ∙ stands))
      go (Some o) e = (o, e)

  abbrev found : Open
  found = is_open.0

  opening : w ≡ open_tree decided told found
  opening = the_same (sym stands ∙ ap (option_map (open_tree decided told)) is_open.1)
    where
      the_same : {A : Type 0} {u v : A} → Some u ≡ Some v → u ≡ v
      the_same e = cc (e)

  abbrev counts : Bool
  counts = counts_at p at.action

  abbrev then_opens : List Open
  then_opens = begun_in at counts opens

  then_is : then_opens ≡ put_key instance_cmp at_of (begun counts found) (without_key instance_cmp at_of at opens)
  then_is = ap (begun_by at counts opens) is_open.1

  module _ (order : IsInKeyOrder instance_cmp at_of opens) where
    abbrev s' : State Kept Started Decided Told
    s' = state_of see started decided told rows running then_opens

    changed : {Y : Type 0} (view : Open → Y) (x : Address)
        → table_of at_of view then_opens x ≡ cond (is_own at.action at.at x) (Some (view (begun counts found))) (table_of at_of view opens x)
    changed view x =
        ap (λ zs. table_of at_of view zs x) then_is
        ∙ table_changed at_of view at opens order (begun counts found) (found_at at_of at opens found is_open.1) x

    abbrev new : Opening Decided Told
    new = record { decision = w.decision; next = suc w.next; test = None }

    new_is : open_tree decided told (begun counts found) ≡ new
    new_is =
        ap (λ c. record { decision = decided found.decision; next = c; test = None }) more
        ∙ sym (ap (λ (z : Opening Decided Told). record { decision = z.decision; next = suc z.next; test = None }) opening)
      where
        more : found.next + 1 ≡ suc found.next
        more = omega (arith)

    opens_at : (x : Address) → opens_in decided told then_opens x ≡ opened at.action at.at (Some new) s.opens x
    opens_at x = changed (open_tree decided told) x ∙ ap (λ o. opened at.action at.at (Some o) s.opens x) new_is

    pub begin_goes : Goes d m s (machine.Begin at.action at.at) s'
    begin_goes = (
      may.1.0,
      kind,
      w,
      may.1.3,
      stands,
      may.1.5,
      ap (λ (t : Table (Opening Decided Told)). record { rows = rows_in see rows; running = running_in started running; opens = t })
          (λ k x. opens_at x k),
    )

    left_is : (ys : List Open) (x : Address) → left_in ys x ≡ or_zero (table_of at_of (λ (o : Open). o.unfinished) ys x)
    left_is ys x = go (find_key instance_cmp at_of (instance_of x) ys)
      where
        go : (o : Option Open) → count_or_none o ≡ or_zero (option_map (λ (z : Open). z.unfinished) o)
        go None = refl
        go (Some o) = refl

    abbrev now : ℕ
    now = cond counts (found.unfinished + 1) found.unfinished

    left_then : (x : Address) → left_in then_opens x ≡ cond (is_own at.action at.at x) now (left_in opens x)
    left_then x =
        left_is then_opens x ∙ ap or_zero (changed (λ (o : Open). o.unfinished) x) ∙ go (is_own at.action at.at x)
      where
        go : (b : Bool) → or_zero (cond b (Some now) (table_of at_of (λ (o : Open). o.unfinished) opens x)) ≡ cond b now (left_in opens x)
        go true = refl
        go false = sym (left_is opens x)

    now_is : is_foreach (kind_of d at.action) ≡ true
        → now ≡ cond (nat_eq (size_of (turned_graph kind)) 0) (left_in opens (address at.action at.at))
        (suc (left_in opens (address at.action at.at)))
    now_is t =
        ap (λ b. cond b (found.unfinished + 1) found.unfinished) counts_are
        ∙ go kind (sym (ap is_foreach is_kind) ∙ t)
        ∙ ap (λ u. cond (nat_eq (size_of (turned_graph kind)) 0) u (suc u)) (sym (ap count_or_none is_open.1))
      where
        go : (kind : Kind) → is_foreach (Some kind) ≡ true
            → cond (counts_turns (shape_of kind)) (found.unfinished + 1) found.unfinished
            ≡ cond (nat_eq (size_of (turned_graph kind)) 0) found.unfinished (suc found.unfinished)
        go Leaf h = absurd (true≢false (sym h))
        go (Scope g) h = absurd (true≢false (sym h))
        go (Choice bs) h = absurd (true≢false (sym h))
        go (Until most g) h = absurd (true≢false (sym h))
        go (Foreach pace g) h =
            ap (λ c. cond (nat_lt 0 c) (found.unfinished + 1) found.unfinished) (own_size g)
            ∙ one_unless_none (size g) found.unfinished

    module _ (next : ℕ) (next_same : next ≡ next_of (opens_in (λ d. d) (λ v. v) opens (address_of at))) (e : Entering)
        (made : IsMade p at (turned_at p at.action) (at.at ++ next ∷ []) next e) where
      pub begin_last : (ys : List Open) → ys ≡ then_opens
          → address_of e.last ≡ address e.container.action
          (e.container.at ++ (next_of (opens_in (λ d. d) (λ v. v) ys (address_of e.container)) - 1) ∷ [])
      begin_last ys is =
          ap address_of made.last
          ∙ sym (ap (λ (c : Instance). address c.action (c.at ++ (next_of (opens_in (λ d. d) (λ v. v) ys (address_of c)) - 1) ∷ []))
          made.container
          ∙ ap (λ c. address at.action (at.at ++ c ∷ [])) one_less)
        where
          begun_next : next_of (opens_in (λ d. d) (λ v. v) ys (address_of at)) ≡ found.next + 1
          begun_next =
              ap (λ zs. next_of (opens_in (λ d. d) (λ v. v) zs (address_of at))) is
              ∙ ap next_of (changed (open_tree (λ d. d) (λ v. v)) (address_of at)
              ∙ when (is_own at.action at.at (address at.action at.at)) (Some (open_tree (λ d. d) (λ v. v) (begun counts found)))
              (opens_in (λ d. d) (λ v. v) opens (address at.action at.at)) (own_self at.action at.at))

          was : next ≡ found.next
          was = next_same ∙ ap (λ o. next_of (option_map (open_tree (λ d. d) (λ v. v)) o)) is_open.1

          one_less : next_of (opens_in (λ d. d) (λ v. v) ys (address_of at)) - 1 ≡ next
          one_less = omega (arith, begun_next, was)

      pub begin_kept : (waits' lacks' : List CountAt) (ready' : List EventAt)
          → ((x : Address) → count_in waits' x ≡ set_all e.counts.items (count_in waits) x)
          → ((x : Address) → count_in lacks' x ≡ cond (is_at e.graph x) (nonzero (length e.counts.items)) (count_in lacks x))
          → ((x : Address) → events_in ready' x ≡ look_each (idle_at m (rows_in see rows) (count_in waits') p) e.places.items
          (λ y. cond (is_own e.container.action e.container.at y)
          (open_at m (opens_in decided told then_opens) (count_in lacks') (left_in then_opens) p (address_of e.container))
          (events_in ready y)) x)
          → IsKept d m depth writes s' then_opens store waits' lacks' ready'
      begin_kept waits' lacks' ready' waited lacked looked = record {
        reached = goes_on d depth m s kept.reached (machine.Begin at.action at.at) s' begin_goes;
        counts = all.0;
        left = all.1;
        enabled = all.2;
        stored = λ v. store_goes_on d depth m (writer writes v) s (store_in store v) (kept.stored v) (machine.Begin at.action at.at) s'
            begin_goes;
      }
        where
          made' : IsMade p at (turned_at p at.action) (at.at ++ w.next ∷ []) w.next e
          made' = subst (λ c. IsMade p at (turned_at p at.action) (at.at ++ c ∷ []) c e) (next_same ∙ next_there) made

          all : AreCounts d m s' (count_in waits') (count_in lacks') × AreLeft d m s' (left_in then_opens)
              × IsReady d m s' (events_in ready')
          all =
              iterations_are_counted d depth m s kept.reached at.action at.at s' begin_goes kind is_kind w stands now (count_in waits)
              (count_in waits') (count_in lacks) (count_in lacks') (left_in opens) (left_in then_opens) (events_in ready)
              (events_in ready') kept.counts kept.left kept.enabled now_is
              (iteration_is_entered d depth m s kept.reached at.action at.at s' begin_goes p planned.plan kind is_kind w stands now
              (count_in waits) (count_in waits') (count_in lacks) (count_in lacks') (left_in opens) (left_in then_opens)
              (events_in ready) (events_in ready')
              (made_is_entered m p at (turned_at p at.action) (at.at ++ w.next ∷ []) w.next e made' now s' (count_in waits)
              (count_in waits') (count_in lacks) (count_in lacks') (left_in opens) (left_in then_opens) (events_in ready)
              (events_in ready') waited lacked left_then looked))
