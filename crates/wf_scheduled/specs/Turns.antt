-- THE RUN UNDER A SCHEDULE, of any definition and any source of answers: which of the events that may happen comes next, again and again,
-- until none may.
use Rattle.std.specs.Prelude.{◌≡◌, ℕ, suc, ◌%◌, List, [], ◌∷◌, Some, length, slice_get, slice_index_or}
use Rattle.std.specs.Cmp.Lexicographic.{slice_cmp}
use Rattle.std.specs.Ordering.{nat_cmp}
use Rattle.std.specs.declared.cmp.Ordering.{Ordering}
use Rattle.wf_lists.specs.KeyOrder.{IsInKeyOrder}
use Rattle.wf_layers.specs.Address.{Address}
use Rattle.wf_layers.specs.Definition.{Graph}
use Rattle.wf_layers.specs.Listed.{Among}
use Rattle.wf_layers.specs.Machine.{State, Event, Step, IsOver, place_of}
use Rattle.wf_layers.specs.Record.{key}
use Rattle.wf_layers.specs.Source.{Source}

-- Addresses go by the number of the action, which follows the byte order of names, and then by indexes, outermost first.
abbrev pub address_cmp : Address → Address → Ordering
address_cmp x y = slice_cmp nat_cmp (key x) (key y)

module _ {Row Begun Decision Verdict : Type 0} (d : Graph) (m : Source Row Begun Decision Verdict) where
  -- the event may happen
  abbrev pub IsEnabled : State Row Begun Decision Verdict → Event → Type 0
  IsEnabled s e = (s' : State Row Begun Decision Verdict) × Step d m s e s'

  -- The list has exactly the events that may happen, in the order of their addresses.
  pub record AreEnabled (s : State Row Begun Decision Verdict) (listed : List Event) : Type 0 where
    pub in_order : IsInKeyOrder address_cmp place_of listed
    pub each : (e : Event) → Among listed e → IsEnabled s e
    pub all : (e : Event) → IsEnabled s e → Among listed e

  -- The event stands at this place of it, counted around.
  pub record IsPicked (s : State Row Begun Decision Verdict) (place : ℕ) (e : Event) : Type 0 where
    pub listed : List Event
    pub enabled : AreEnabled s listed
    pub picked : slice_get listed (place % length listed) ≡ Some e

  module _ (schedule : List ℕ) where
    -- TURN k takes the event at the place that the schedule has for it; after the schedule's end the first.
    pub record Turn (k : ℕ) (s : State Row Begun Decision Verdict) (e : Event) (s' : State Row Begun Decision Verdict) : Type 0 where
      pub picked : IsPicked s (slice_index_or schedule k 0) e
      pub goes : Step d m s e s'

    -- The turns from number k on take these events, and lead from s to s'.
    abbrev pub Turns : ℕ → State Row Begun Decision Verdict → List Event → State Row Begun Decision Verdict → Type 0
    Turns k s [] s' = s' ≡ s
    Turns k s (e ∷ es) s' = (mid : State Row Begun Decision Verdict) × Turn k s e mid × Turns (suc k) mid es s'

    -- THE RUN that begins with the state: its turns take these events, and then nothing may happen any more.
    pub record IsRun (first : State Row Begun Decision Verdict) (es : List Event) : Type 0 where
      pub last : State Row Begun Decision Verdict
      pub turns : Turns 0 first es last
      pub over : IsOver d m last
