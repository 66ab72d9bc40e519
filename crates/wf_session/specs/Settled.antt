-- How the events that may happen are looked through.
use Rattle.std.specs.Prelude.{◌≡◌, ◌<◌, ℕ, true, List, Some, slice_get}
use Rattle.wf_layers.specs.Machine.{Event}
use Rattle.wf_asks.specs.Instances.{address_of}
use Rattle.wf_answers.specs.AnswerTree.{Key}
use Rattle.wf_quiet.specs.Quiet.{HasAnswer}
use Rattle.wf_stands.specs.Moment.{Moment}
use Rattle.wf_planned.specs.Kept.{IsEnabled}
use Rattle.wf_tables.specs.declared.entries.EventAt.{EventAt}
use Rattle.wf_talk.specs.Keys.{is_among}
use Rattle.wf_waits.specs.Kept.{AreNew, Kept, keys_of}
use Rattle.wf_waits.specs.declared.waiting.Waiting.{Waiting}
use Rattle.wf_session.specs.Begun.{Going, answered_in, graph, has_answer}
use Rattle.wf_session.specs.Waiting.{AreWaiting, Wants, key_at}

module _ (g : Going) (s : Moment) where
  -- The event may happen, and if it is an attempt, it has its answer.
  pub record WillHappen (e : Event) : Type 0 where
    pub enabled : IsEnabled (graph g) g.by s e
    pub answered : HasAnswer (answered_in g) s e

  -- The event at a place is an attempt that waits, and it is kept.
  pub record IsHeld (ready : List EventAt) (waits : List Waiting) (place : ℕ) : Type 0 where
    pub event : EventAt
    pub event_is : slice_get ready place ≡ Some event
    pub attempt : ℕ
    pub waits_still : Wants g s (address_of event.instance) attempt
    pub kept : is_among (key_at g (address_of event.instance) attempt) (keys_of waits) ≡ true

  -- The events at the first so many places are.
  abbrev pub AreHeld : List EventAt → List Waiting → ℕ → Type 0
  AreHeld ready waits count = (place : ℕ) → place < count → IsHeld ready waits place

  -- What waits has been looked for at this moment: those that are kept wait, none was lost, and which of them are new is told still.
  pub record HasLooked (old new : Kept) : Type 0 where
    pub waiting : AreWaiting g s new.0
    pub keeps : (k : Key) → is_among k (keys_of old.0) ≡ true → is_among k (keys_of new.0) ≡ true
    pub marked : (earlier : List Key) → AreNew (has_answer g) earlier old → AreNew (has_answer g) earlier new
