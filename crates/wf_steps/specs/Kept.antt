-- What a state's type keeps.
use Rattle.std.specs.Prelude.{◌≡◌, ℕ, ◌%◌, ◌≤◌, Bool, List, Some, length, slice_get}
use Rattle.wf_lists.specs.KeyOrder.{IsInKeyOrder}
use Rattle.wf_layers.specs.Address.{Address}
use Rattle.wf_layers.specs.Definition.{Graph, needs_of}
use Rattle.wf_layers.specs.Machine.{State, Event, Step}
use Rattle.wf_layers.specs.Source.{Source}
use Rattle.wf_layers.specs.Waiting.{times}
use Rattle.wf_kept.specs.Counted.{AreCounts}
use Rattle.wf_kept.specs.Event.{AreLeft}
use Rattle.wf_kept.specs.Reached.{IsReached}
use Rattle.wf_kept.specs.Ready.{IsReady}
use Rattle.wf_kept.specs.Stored.{IsStored}
use Rattle.wf_events.specs.Instances.{instance_cmp}
use Rattle.wf_events.specs.Tables.{count_in, events_in, left_in}
use Rattle.wf_events.specs.CountAt.{CountAt}
use Rattle.wf_events.specs.EventAt.{EventAt}
use Rattle.wf_events.specs.Known.{store_in, writer}
use Rattle.wf_events.specs.Plan.{PlanTree}
use Rattle.wf_events.specs.PlanOf.{IsPlanOf}
use Rattle.wf_events.specs.OpenAt.{OpenAt}
use Rattle.wf_events.specs.WriterAt.{WriterAt}

-- The plan is one of the graph, in which each action names another once at most.
pub record IsPlanned (d : Graph) (p : PlanTree) : Type 0 where
  pub plan : IsPlanOf d p
  pub names_once : (q n : ℕ) → times (needs_of d q) n ≤ 1

module _ {Row Begun Decision Verdict : Type 0} (d : Graph) (m : Source Row Begun Decision Verdict) where
  -- the event leads from a state to another
  abbrev pub Goes : State Row Begun Decision Verdict → Event → State Row Begun Decision Verdict → Type 0
  Goes = Step d m

  -- it may happen
  abbrev pub IsEnabled : State Row Begun Decision Verdict → Event → Type 0
  IsEnabled s e = (s' : State Row Begun Decision Verdict) × Goes s e s'

  -- nothing may
  abbrev pub IsOver : State Row Begun Decision Verdict → Type 0
  IsOver s = (e : Event) (s' : State Row Begun Decision Verdict) → Goes s e s' → ⊥

  -- The list has exactly the events that may happen, at most one at an instance, in the order of instances. So there is one such list.
  pub record AreEnabled (s : State Row Begun Decision Verdict) (listed : List EventAt) : Type 0 where
    pub in_order : IsInKeyOrder instance_cmp (λ (e : EventAt). e.instance) listed
    pub each : IsReady d m s (events_in listed)

  -- The event at this place of it, counted around.
  pub record Picked (s : State Row Begun Decision Verdict) (place : ℕ) (event : EventAt) : Type 0 where
    pub listed : List EventAt
    pub enabled : AreEnabled s listed
    pub picked : slice_get listed (place % length listed) ≡ Some event

  -- A run leads to the state; the counts are its own, the ready set has the events that may happen, and the store has of each variable the
  -- last that wrote it.
  pub record IsKept {Decided Told : Type 0} (depth : ℕ → ℕ) (writes : ℕ → Address → Row → Bool) (s : State Row Begun Decision Verdict)
      (opens : List (OpenAt Decided Told)) (store : List WriterAt) (waits lacks : List CountAt) (ready : List EventAt) : Type 0 where
    pub reached : IsReached d depth m s
    pub counts : AreCounts d m s (count_in waits) (count_in lacks)
    pub left : AreLeft d m s (left_in opens)
    pub enabled : IsReady d m s (events_in ready)
    pub stored : (v : ℕ) → IsStored d depth m (writer writes v) s (store_in store v)
