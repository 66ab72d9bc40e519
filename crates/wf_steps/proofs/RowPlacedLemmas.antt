-- What a state keeps as an action gets its row, by whatever event.
use Rattle.std.proofs.Common.{◌≡◌, ℕ, ◌-◌, Bool, true, ◌&&◌, cond, List, None}
use Rattle.wf_layers.specs.Address.{Address, address, is_own, same_at}
use Rattle.wf_layers.specs.Changes.{is_named, places}
use Rattle.wf_layers.specs.Definition.{Graph, needs_of}
use Rattle.wf_layers.specs.Machine.{Event, State, Step, place_of}
use Rattle.wf_layers.specs.Source.{Source}
use Rattle.wf_kept.specs.Counted.{less}
use Rattle.wf_kept.specs.Event.{AreLeft}
use Rattle.wf_kept.specs.Stored.{IsStored}
use Rattle.wf_kept.proofs.Known.{goes_on}
use Rattle.wf_step_laws.proofs.Placed.{rows_are_counted}
use Rattle.wf_events.specs.Instances.{instance_of}
use Rattle.wf_events.specs.Known.{is_among, store_in, writer}
use Rattle.wf_events.specs.OpenAt.{OpenAt}
use Rattle.wf_events.specs.WriterAt.{WriterAt}
use Rattle.wf_events.specs.Plan.{PlanTree}
use Rattle.wf_events.specs.PlanSeen.{list_at}
use Rattle.wf_events.specs.Tables.{count_in, events_in, left_in}
use Rattle.wf_events.specs.CountAt.{CountAt}
use Rattle.wf_events.specs.EventAt.{EventAt}
use Rattle.wf_events.specs.Looked.{idle_at, open_at}
use Rattle.wf_events.specs.Round.{is_finished, is_graph, look_out, round_at}
use Rattle.wf_events.proofs.PlacedLemmas.{placed_by, there}
use Rattle.wf_events.proofs.RoundLemmas.{one_holder}
use Rattle.wf_steps.specs.Kept.{IsKept, IsPlanned}

-- The event places a row; those that name the action are idle afterwards. What is unfinished before may differ from the list of open
-- containers where nothing is said of it: so a container that closes may be taken out before.
module _ {Row Begun Decision Verdict Decided Told : Type 0} (d : Graph) (m : Source Row Begun Decision Verdict) (depth : ℕ → ℕ)
    (writes : ℕ → Address → Row → Bool) (s : State Row Begun Decision Verdict) (opens : List (OpenAt Decided Told)) (store : List WriterAt)
    (waits lacks : List CountAt) (ready : List EventAt) (kept : IsKept d m depth writes s opens store waits lacks ready)
    (p : PlanTree) (planned : IsPlanned d p) (e : Event) (s' : State Row Begun Decision Verdict) (st : Step d m s e s')
    (pl : places e ≡ true)
    (idles : (q : ℕ) → is_named (needs_of d q) (place_of e).name ≡ true → (s'.rows (address q (place_of e).at) ≡ None)
    × (s'.running (address q (place_of e).at) ≡ None) × (s'.opens (address q (place_of e).at) ≡ None))
    (left : Address → ℕ) (lefts : AreLeft d m s left) where
  abbrev follows : Address → Bool
  follows x = is_among x.name (list_at p.followers (place_of e).name) && same_at (place_of e).at x.at

  pub row_kept : (opens' : List (OpenAt Decided Told)) (store' : List WriterAt) (waits' lacks' : List CountAt) (ready' : List EventAt)
      → ((x : Address) → count_in waits' x ≡ cond (follows x) (less 1 (count_in waits x)) (count_in waits x))
      → ((x : Address) → count_in lacks' x
      ≡ cond (is_graph (round_at p (instance_of (place_of e))) x) (less 1 (count_in lacks x)) (count_in lacks x))
      → ((x : Address) → left_in opens' x
      ≡ cond (is_finished (round_at p (instance_of (place_of e))) (count_in lacks') x) (left x - 1) (left x))
      → ((x : Address) → events_in ready' x
      ≡ cond (follows x) (idle_at m s'.rows (count_in waits') p x)
      (look_out (open_at m s'.opens (count_in lacks') (left_in opens') p) (round_at p (instance_of (place_of e)))
      (λ y. cond (is_own (place_of e).name (place_of e).at y) None (events_in ready y)) x))
      → ((v : ℕ) → IsStored d depth m (writer writes v) s' (store_in store' v))
      → IsKept d m depth writes s' opens' store' waits' lacks' ready'
  row_kept opens' store' waits' lacks' ready' named owned finished looks stored =
      let edits = placed_by d depth m s kept.reached e s' st pl p planned.plan (count_in waits) (count_in waits') (count_in lacks)
      (count_in lacks') left (left_in opens') (events_in ready) (events_in ready') idles named owned finished looks in
      let counted = rows_are_counted d depth m s kept.reached e s' st pl (λ q. planned.names_once q (place_of e).name)
      (one_holder d p planned.plan (place_of e).name (there d depth m s kept.reached e s' st pl p planned.plan))
      (count_in waits) (count_in waits') (count_in lacks) (count_in lacks') left (left_in opens') (events_in ready) (events_in ready')
      kept.counts lefts kept.enabled edits in record {
        reached = goes_on d depth m s kept.reached e s' st;
        counts = counted.0;
        left = counted.1;
        enabled = counted.2;
        stored = stored;
      }
