-- Attempts that wait beside the events that may happen, by their instances.
use Rattle.std.specs.Prelude.{◌≡◌, ◌<◌, ◌≤◌, ℕ, List, Some, slice_get}
use Rattle.std.specs.List.{AllByRecursion}
use Rattle.wf_layers.specs.Listed.{Among}
use Rattle.wf_asks.specs.declared.instance.Instance.{Instance}
use Rattle.wf_tables.specs.declared.entries.EventAt.{EventAt}
use Rattle.wf_waits.specs.declared.waiting.Waiting.{Waiting}

-- One of them waits at this instance.
pub record WaitsAt (waits : List Waiting) (place : Instance) : Type 0 where
  pub one : Waiting
  pub among : Among waits one
  pub here : one.instance ≡ place

-- These events are at instances of theirs.
abbrev pub AreTheirs : List Waiting → List EventAt → Type 0
AreTheirs waits events = AllByRecursion (λ (e : EventAt). WaitsAt waits e.instance) events

-- One of the events may happen at this instance.
pub record HappensAt (ready : List EventAt) (place : Instance) : Type 0 where
  pub event : EventAt
  pub among : Among ready event
  pub here : event.instance ≡ place

-- Each of them may happen.
abbrev pub MayHappen : List EventAt → List Waiting → Type 0
MayHappen ready waits = AllByRecursion (λ (w : Waiting). HappensAt ready w.instance) waits

-- The event at this place is at an instance of theirs.
pub record IsTheirs (ready : List EventAt) (waits : List Waiting) (place : ℕ) : Type 0 where
  pub event : EventAt
  pub event_is : slice_get ready place ≡ Some event
  pub theirs : WaitsAt waits event.instance

-- Those from one place on up to another are.
abbrev pub AreTheirsFrom : List EventAt → List Waiting → ℕ → ℕ → Type 0
AreTheirsFrom ready waits from to = (place : ℕ) → from ≤ place → place < to → IsTheirs ready waits place
