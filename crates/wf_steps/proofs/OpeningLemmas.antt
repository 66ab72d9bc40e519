-- What an Open makes of what a state keeps.
use Rattle.std.proofs.Common.{◌≡◌, ℕ, ◌-◌, Bool, true, false, cond, List, [], ◌∷◌, ◌++◌, Option, Some, None, option_map, length, map, refl, sym, ap, ◌∙◌, subst}
use Rattle.wf_lists.specs.KeyOrder.{find_key, put_key}
use Rattle.wf_layers.specs.Definition.{Kind, Graph, holds, kind_of}
use Rattle.wf_layers.specs.Address.{Address, Table, address, is_own}
use Rattle.wf_layers.specs.Changes.{next_of}
use Rattle.wf_layers.specs.Machine as machine
use Rattle.wf_layers.specs.Machine.{IsContainer, Opening, State, opened, passed_over, place}
use Rattle.wf_layers.specs.Meaning.{meaning}
use Rattle.wf_layers.specs.Source.{Source}
use Rattle.wf_layers.specs.Variables.{OneOrder}
use Rattle.wf_layers.proofs.Basics.{when}
use Rattle.wf_layers.proofs.Tables.{own_self}
use Rattle.wf_kept.specs.Counted.{AreCounts, nonzero}
use Rattle.wf_kept.specs.Event.{AreLeft}
use Rattle.wf_kept.specs.Ready.{IsReady}
use Rattle.wf_kept.proofs.Informed.{kinds_are_known}
use Rattle.wf_kept.proofs.Known.{goes_on}
use Rattle.wf_kept.proofs.Resumed.{decided_is_new, inside_is_new}
use Rattle.wf_kept.proofs.Stored.{store_goes_on}
use Rattle.wf_step_laws.proofs.Entered.{openings_are_counted}
use Rattle.wf_events.specs.Instances.{address_of, instance_cmp, instance_of, rows_in, table_of}
use Rattle.wf_events.specs.Known.{HoldsLast, IsInformed, is_among, open_tree, opens_in, store_in, writer}
use Rattle.wf_events.specs.Instance.{Instance}
use Rattle.wf_events.specs.OpenAt.{OpenAt}
use Rattle.wf_events.specs.RowAt.{RowAt}
use Rattle.wf_events.specs.WriterAt.{WriterAt}
use Rattle.wf_events.specs.Plan.{EntryTree, PlanTree}
use Rattle.wf_events.specs.PlanOf.{IsEntryOf, passes}
use Rattle.wf_events.specs.PlanSeen.{at_place}
use Rattle.wf_events.specs.Blocks.{put_rows, skipped_at}
use Rattle.wf_events.specs.Counts.{or_zero, set_all}
use Rattle.wf_events.specs.Tables.{count_in, count_or_none, events_in, left_in, running_in, state_of}
use Rattle.wf_events.specs.CountAt.{CountAt}
use Rattle.wf_events.specs.EventAt.{EventAt}
use Rattle.wf_events.specs.LeafAt.{LeafAt}
use Rattle.wf_events.proofs.BlockLemmas.{block_placed, passed_is}
use Rattle.wf_events.specs.Looked.{idle_at, look_each, open_at}
use Rattle.wf_events.proofs.TableLemmas.{put_entry}
use Rattle.wf_resting.specs.Entered.{IsMade, is_at}
use Rattle.wf_resting.specs.Graphs.{opened_at, passed_at, passed_by}
use Rattle.wf_resting.specs.Entering.{Entering}
use Rattle.wf_resting.proofs.EnteredLemmas.{opening_is_entered}
use Rattle.wf_resting.proofs.MadeLemmas.{made_is_entered}
use Rattle.wf_steps.specs.Kept.{Goes, IsEnabled, IsKept, IsPlanned}
use Rattle.wf_steps.proofs.InformedLemmas.{decided_holds_last, decided_is_informed}

the_same : {A : Type 0} {u v : A} → Some u ≡ Some v → u ≡ v
the_same e = cc (e)

module _ {Decision Verdict : Type 0} where
  abbrev at_of : OpenAt Decision Verdict → Instance
  at_of o = o.instance

  left_is : (ys : List (OpenAt Decision Verdict)) (x : Address)
      → left_in ys x ≡ or_zero (table_of at_of (λ (o : OpenAt Decision Verdict). o.unfinished) ys x)
  left_is ys x = go (find_key instance_cmp at_of (instance_of x) ys)
    where
      go : (o : Option (OpenAt Decision Verdict))
          → count_or_none o ≡ or_zero (option_map (λ (z : OpenAt Decision Verdict). z.unfinished) o)
      go None = refl
      go (Some o) = refl

  -- what is unfinished after a put
  left_put : (o : OpenAt Decision Verdict) (xs : List (OpenAt Decision Verdict)) (x : Address)
      → left_in (put_key instance_cmp at_of o xs) x ≡ cond (is_own o.instance.action o.instance.at x) o.unfinished (left_in xs x)
  left_put o xs x =
      left_is (put_key instance_cmp at_of o xs) x
      ∙ ap or_zero (put_entry at_of (λ (z : OpenAt Decision Verdict). z.unfinished) o xs x)
      ∙ go (is_own o.instance.action o.instance.at x)
    where
      go : (b : Bool) → or_zero (cond b (Some o.unfinished) (table_of at_of (λ (z : OpenAt Decision Verdict). z.unfinished) xs x))
          ≡ cond b o.unfinished (left_in xs x)
      go true = refl
      go false = sym (left_is xs x)

module _ {Row Begun Decision Verdict Kept Started Decided Told : Type 0} (see : Row → Kept) (started : Begun → Started)
    (decided : Decision → Decided) (told : Verdict → Told) (d : Graph) (m : Source Kept Started Decided Told) (depth : ℕ → ℕ)
    (writes : ℕ → Address → Kept → Bool) (rows : List (RowAt Row)) (running : List (LeafAt Begun)) (opens : List (OpenAt Decision Verdict))
    (store : List WriterAt) (waits lacks : List CountAt) (ready : List EventAt)
    (kept : IsKept d m depth writes (state_of see started decided told rows running opens) opens store waits lacks ready)
    (at : Instance) (may : IsEnabled d m (state_of see started decided told rows running opens) (machine.Open at.action at.at)) where
  abbrev s : State Kept Started Decided Told
  s = state_of see started decided told rows running opens

  abbrev kind : Kind
  kind = may.1.1

  is_kind : kind_of d at.action ≡ Some kind
  is_kind = (kinds_are_known d depth m s kept.reached at.action at.at may.1.0 kind may.1.3.is_there).0

  pub decide_is_informed : ((v : ℕ) → OneOrder d m (writer writes v) (meaning m depth d)) → (k : Kind) → kind_of d at.action ≡ Some k
      → IsContainer k × IsInformed d depth m s.rows s.opens at.action at.at k
      × HoldsLast d depth m writes s.rows (store_in store) at.action k at.at
  decide_is_informed order k e =
      subst (λ (x : Kind). IsContainer x × IsInformed d depth m s.rows s.opens at.action at.at x
      × HoldsLast d depth m writes s.rows (store_in store) at.action x at.at) (the_same (sym is_kind ∙ e)) (
        may.1.2,
        decided_is_informed d depth m s kept.reached at.action at.at may.1.0 kind may.1.3,
        decided_holds_last d depth m s kept.reached writes order (store_in store) kept.stored at.action at.at may.1.0 kind may.1.3,
      )

  -- it is asked anew, and nothing inside it is kept from an old record
  pub decide_is_anew : m.reclosed at.action ≡ false
  decide_is_anew = (decided_is_new d depth m s kept.reached at.action at.at may.1.0 kind may.1.3).1

  inside_new : (q : ℕ) → holds kind q ≡ true → m.pinned q ≡ false
  inside_new q h = (inside_is_new d depth m s kept.reached at.action at.at may.1.0 kind may.1.3 q h).0

  module _ (p : PlanTree) (planned : IsPlanned d p) (decision : Decision)
      (gives : decided decision ≡ m.decide (address_of at) (rows_in see rows)) (taken : ℕ) (takes : taken ≡ m.taken (decided decision))
      (block : List (RowAt Row))
      (blocks : map (λ (r : RowAt Row). (r.instance, see r.row)) block ≡ skipped_at m.skipped at.at (passed_at p at.action taken)) where
    entry : (e : EntryTree) × (at_place p.entries at.action ≡ Some e) × IsEntryOf d at.action kind e
    entry = planned.plan.entry at.action kind is_kind

    abbrev item : OpenAt Decision Verdict
    item = record { instance = at; decision = decision; next = 0; test = None; unfinished = 0 }

    abbrev then_rows : List (RowAt Row)
    then_rows = put_rows block rows

    abbrev then_opens : List (OpenAt Decision Verdict)
    then_opens = put_key instance_cmp (λ (o : OpenAt Decision Verdict). o.instance) item opens

    abbrev s' : State Kept Started Decided Told
    s' = state_of see started decided told then_rows running then_opens

    abbrev w : Opening Decided Told
    w = record { decision = decided decision; next = 0; test = None }

    passes_are : (x : ℕ) → is_among x (passed_at p at.action taken) ≡ passes kind taken x
    passes_are x = ap (λ o. is_among x (passed_by o taken)) entry.1 ∙ entry.2.passed taken x

    rows_then : rows_in see then_rows
        ≡ place (passed_over m kind (m.taken (m.decide (address at.action at.at) s.rows)) at.at) s.rows
    rows_then =
        block_placed see m.skipped at.at block (passed_at p at.action taken) rows blocks
        ∙ ap (λ (t : Table Kept). place t s.rows) (passed_is m kind taken at.at (passed_at p at.action taken) inside_new passes_are)
        ∙ ap (λ c. place (passed_over m kind c at.at) s.rows) (takes ∙ ap m.taken gives)

    opens_at : (x : Address) → opens_in decided told then_opens x ≡ opened at.action at.at (Some w) s.opens x
    opens_at x = put_entry (λ (o : OpenAt Decision Verdict). o.instance) (open_tree decided told) item opens x

    pub open_goes : Goes d m s (machine.Open at.action at.at) s'
    open_goes = (
      may.1.0,
      kind,
      may.1.2,
      may.1.3,
      may.1.4,
      ap (λ (t : Table Kept). record { rows = t; running = running_in started running; opens = opens_in decided told then_opens })
          rows_then
          ∙ ap (λ (t : Table (Opening Decided Told)). record {
            rows = place (passed_over m kind (m.taken (m.decide (address at.action at.at) s.rows)) at.at) s.rows;
            running = running_in started running;
            opens = t;
          })
          ((λ k x. opens_at x k)
          ∙ ap (λ c. opened at.action at.at (Some (record { decision = c; next = 0; test = None })) s.opens) gives),
    )

    own_open : s'.opens (address at.action at.at) ≡ Some w
    own_open =
        opens_at (address at.action at.at)
        ∙ when (is_own at.action at.at (address at.action at.at)) (Some w) (s.opens (address at.action at.at)) (own_self at.action at.at)

    module _ (e : Entering) (made : IsMade p at (opened_at p at.action taken) at.at 0 e) where
      -- none of its iterations has begun
      pub open_last : (ys : List (OpenAt Decision Verdict)) → ys ≡ then_opens
          → address_of e.last ≡ address e.container.action
          (e.container.at ++ (next_of (opens_in (λ d. d) (λ v. v) ys (address_of e.container)) - 1) ∷ [])
      open_last ys is =
          ap address_of made.last
          ∙ sym (ap (λ (c : Instance). address c.action (c.at ++ (next_of (opens_in (λ d. d) (λ v. v) ys (address_of c)) - 1) ∷ []))
          made.container
          ∙ ap (λ c. address at.action (at.at ++ (c - 1) ∷ [])) none_begun)
        where
          seen : Opening Decision Verdict
          seen = record { decision = decision; next = 0; test = None }

          none_begun : next_of (opens_in (λ d. d) (λ v. v) ys (address_of at)) ≡ 0
          none_begun =
              ap (λ zs. next_of (opens_in (λ d. d) (λ v. v) zs (address_of at))) is
              ∙ ap next_of (put_entry (λ (o : OpenAt Decision Verdict). o.instance) (open_tree (λ d. d) (λ v. v)) item opens (address_of at)
              ∙ when (is_own at.action at.at (address at.action at.at)) (Some (record { decision = decision; next = 0; test = None }))
              (opens_in (λ d. d) (λ v. v) opens (address at.action at.at)) (own_self at.action at.at))

      pub open_kept : (waits' lacks' : List CountAt) (ready' : List EventAt)
          → ((x : Address) → count_in waits' x ≡ set_all e.counts.items (count_in waits) x)
          → ((x : Address) → count_in lacks' x ≡ cond (is_at e.graph x) (nonzero (length e.counts.items)) (count_in lacks x))
          → ((x : Address) → events_in ready' x ≡ look_each (idle_at m (rows_in see then_rows) (count_in waits') p) e.places.items
          (λ y. cond (is_own e.container.action e.container.at y)
          (open_at m (opens_in decided told then_opens) (count_in lacks') (left_in then_opens) p (address_of e.container))
          (events_in ready y)) x)
          → IsKept d m depth writes s' then_opens store waits' lacks' ready'
      open_kept waits' lacks' ready' waited lacked looked = record {
        reached = goes_on d depth m s kept.reached (machine.Open at.action at.at) s' open_goes;
        counts = all.0;
        left = all.1;
        enabled = all.2;
        stored = λ v. store_goes_on d depth m (writer writes v) s (store_in store v) (kept.stored v) (machine.Open at.action at.at) s'
            open_goes;
      }
        where
          made' : IsMade p at (opened_at p at.action (m.taken w.decision)) at.at 0 e
          made' = subst (λ c. IsMade p at (opened_at p at.action c) at.at 0 e) takes made

          all : AreCounts d m s' (count_in waits') (count_in lacks') × AreLeft d m s' (left_in then_opens)
              × IsReady d m s' (events_in ready')
          all =
              openings_are_counted d depth m s kept.reached at.action at.at s' open_goes kind is_kind w own_open (count_in waits)
              (count_in waits') (count_in lacks) (count_in lacks') (left_in opens) (left_in then_opens) (events_in ready)
              (events_in ready') kept.counts kept.left kept.enabled
              (opening_is_entered d depth m s kept.reached at.action at.at s' open_goes p planned.plan kind is_kind w own_open
              (count_in waits) (count_in waits') (count_in lacks) (count_in lacks') (left_in opens) (left_in then_opens)
              (events_in ready) (events_in ready')
              (made_is_entered m p at (opened_at p at.action (m.taken w.decision)) at.at 0 e made' 0 s' (count_in waits)
              (count_in waits') (count_in lacks) (count_in lacks') (left_in opens) (left_in then_opens) (events_in ready)
              (events_in ready') waited lacked (left_put item opens) looked))
