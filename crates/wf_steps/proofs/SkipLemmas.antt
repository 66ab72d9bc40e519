-- What a Skip makes of the tables, and of what a state keeps.
use Rattle.std.proofs.Common.{◌≡◌, ℕ, Bool, true, ◌||◌, List, Some, None, map, nat_eq, refl, ap, ◌∙◌}
use Rattle.wf_layers.specs.Address.{Address, Table, address}
use Rattle.wf_layers.specs.Changes.{is_named}
use Rattle.wf_layers.specs.Definition.{Graph, kind_of, needs_of, shows}
use Rattle.wf_layers.specs.Machine as machine
use Rattle.wf_layers.specs.Machine.{Event, Opening, State, place}
use Rattle.wf_layers.specs.Meaning.{skip}
use Rattle.wf_layers.specs.Source.{Source}
use Rattle.wf_kept.proofs.Informed.{kinds_are_known}
use Rattle.wf_kept.proofs.Stored.{store_goes_on}
use Rattle.wf_step_laws.proofs.Idle.{no_row_then, not_open_then, not_running_then}
use Rattle.wf_events.specs.Instances.{rows_in}
use Rattle.wf_events.specs.Known.{is_among, opens_in, store_in, writer}
use Rattle.wf_events.specs.Instance.{Instance}
use Rattle.wf_events.specs.OpenAt.{OpenAt}
use Rattle.wf_events.specs.RowAt.{RowAt}
use Rattle.wf_events.specs.WriterAt.{WriterAt}
use Rattle.wf_events.specs.Plan.{PlanTree}
use Rattle.wf_events.specs.Blocks.{put_rows, skipped_at}
use Rattle.wf_events.specs.Tables.{count_in, events_in, left_in, running_in, state_of}
use Rattle.wf_events.specs.CountAt.{CountAt}
use Rattle.wf_events.specs.EventAt.{EventAt}
use Rattle.wf_events.specs.LeafAt.{LeafAt}
use Rattle.wf_events.proofs.BlockLemmas.{block_placed, skip_is}
use Rattle.wf_events.proofs.OpenLemmas.{opens_same}
use Rattle.wf_events.specs.RowEdits.{IsSettled}
use Rattle.wf_events.specs.Skipped.{block_of, block_or_none}
use Rattle.wf_steps.specs.Kept.{Goes, IsEnabled, IsKept, IsPlanned}
use Rattle.wf_steps.proofs.RowPlacedLemmas.{row_kept}

module _ {Row Begun Decision Verdict Kept Started Decided Told : Type 0} (see : Row → Kept) (started : Begun → Started)
    (decided : Decision → Decided) (told : Verdict → Told) (d : Graph) (m : Source Kept Started Decided Told) (depth : ℕ → ℕ)
    (writes : ℕ → Address → Kept → Bool) (rows : List (RowAt Row)) (running : List (LeafAt Begun)) (opens : List (OpenAt Decision Verdict))
    (store : List WriterAt) (waits lacks : List CountAt) (ready : List EventAt)
    (kept : IsKept d m depth writes (state_of see started decided told rows running opens) opens store waits lacks ready)
    (at : Instance) (may : IsEnabled d m (state_of see started decided told rows running opens) (machine.Skip at.action at.at))
    (p : PlanTree) (planned : IsPlanned d p) where
  abbrev s : State Kept Started Decided Told
  s = state_of see started decided told rows running opens

  abbrev e : Event
  e = machine.Skip at.action at.at

  is_kind : kind_of d at.action ≡ Some may.1.1
  is_kind = (kinds_are_known d depth m s kept.reached at.action at.at may.1.0 may.1.1 may.1.2.is_there).0

  -- the plan has all that get rows with it
  block_is : (x : ℕ) → is_among x (block_of p at.action) ≡ (nat_eq at.action x || shows may.1.1 x)
  block_is x = let entry = planned.plan.entry at.action may.1.1 is_kind in
      ap (λ o. is_among x (block_or_none o)) entry.1 ∙ entry.2.block x

  module _ (block : List (RowAt Row))
      (are : map (λ (r : RowAt Row). (r.instance, see r.row)) block ≡ skipped_at m.skipped at.at (block_of p at.action))
      (rows' : List (RowAt Row)) (put : rows' ≡ put_rows block rows) (opens' : List (OpenAt Decision Verdict))
      (same : opens_in (λ d. d) (λ v. v) opens' ≡ opens_in (λ d. d) (λ v. v) opens) where
    abbrev s' : State Kept Started Decided Told
    s' = state_of see started decided told rows' running opens'

    rows_then : rows_in see rows' ≡ place (skip m at.action may.1.1 at.at) (rows_in see rows)
    rows_then =
        ap (rows_in see) put
        ∙ block_placed see m.skipped at.at block (block_of p at.action) rows are
        ∙ ap (λ (b : Table Kept). place b (rows_in see rows)) (skip_is m at.action may.1.1 at.at (block_of p at.action) block_is)

    pub skip_goes : Goes d m s (machine.Skip at.action at.at) s'
    skip_goes = (
      may.1.0,
      may.1.1,
      may.1.2,
      may.1.3,
      ap (λ (t : Table Kept). record { rows = t; running = running_in started running; opens = opens_in decided told opens' }) rows_then
          ∙ ap (λ (t : Table (Opening Decided Told)). record {
            rows = place (skip m at.action may.1.1 at.at) (rows_in see rows);
            running = running_in started running;
            opens = t;
          }) (opens_same decided told opens' opens same),
    )

    idles : (q : ℕ) → is_named (needs_of d q) at.action ≡ true → (s'.rows (address q at.at) ≡ None)
        × (s'.running (address q at.at) ≡ None) × (s'.opens (address q at.at) ≡ None)
    idles q named = (
      no_row_then d depth m s kept.reached e s' skip_goes refl q named,
      not_running_then d depth m s kept.reached e s' skip_goes refl q named,
      not_open_then d depth m s kept.reached e s' skip_goes refl q named,
    )

    -- a Skipped row gives no variable a value
    pub skip_kept : (waits' lacks' : List CountAt) (ready' : List EventAt)
        → IsSettled m p at s'.rows s'.opens (count_in waits) (count_in waits') (count_in lacks) (count_in lacks') (left_in opens)
        (left_in opens') (events_in ready) (events_in ready')
        → IsKept d m depth writes s' opens' store waits' lacks' ready'
    skip_kept waits' lacks' ready' settled =
        row_kept d m depth writes s opens store waits lacks ready kept p planned e s' skip_goes refl idles (left_in opens) kept.left
        opens' store waits' lacks' ready' settled.named settled.owned settled.finished settled.looked
        (λ v. store_goes_on d depth m (writer writes v) s (store_in store v) (kept.stored v) e s' skip_goes)
