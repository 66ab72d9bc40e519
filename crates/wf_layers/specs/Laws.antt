-- The laws of order independence, as facts of a definition, a source and its meaning.
use Rattle.std.specs.Prelude.{◌≡◌, ℕ, Bool, true, false, List, [], Some, ◌+◌, ◌*◌, ◌≤◌, length, Option, None, ◌++◌, ◌∷◌}
use Rattle.wf_layers.specs.Definition.{Graph, has, IsDepth, Closed, Turns}
use Rattle.wf_layers.specs.Address.{Address, SeenIn, is_within}
use Rattle.wf_layers.specs.Source.{Source, Sound}
use Rattle.wf_layers.specs.Meaning.{meaning}
use Rattle.wf_layers.specs.Address.{Table}
use Rattle.wf_layers.specs.Rule.{look, Obeys}
use Rattle.wf_layers.specs.Part.{IsPart}
use Rattle.wf_layers.specs.Called.{IsCalled}
use Rattle.wf_layers.specs.Instances.{loop_count}
use Rattle.wf_layers.specs.Variables.{SeesFinished, SeenAreThere, TestSees, Stores, OneOrder, IsLastWritten, StoreHolds, StoreHoldsAtTests, StoreHoldsAtEnds}
use Rattle.wf_layers.specs.Bound.{total, left, TellsTurns, Costs}
use Rattle.wf_layers.specs.Facts.{Facts}
use Rattle.wf_layers.specs.Listed.{Lists, sum_of}
use Rattle.wf_layers.specs.Enabled.{events}
use Rattle.wf_layers.specs.Changes.{may_change}
use Rattle.wf_layers.specs.Machine.{Running, Opening, State, fresh, has_ended, Event, place_of, Step, Run, IsOver}

module _ {Row Begun Decision Verdict : Type 0} where
  -- A source of an environment of its own: no row is kept from an old table, and no container is closed again.
  abbrev pub IsFresh : Source Row Begun Decision Verdict → Type 0
  IsFresh m = (n : ℕ) → (m.pinned n ≡ false) × (m.reclosed n ≡ false)

  -- What an instance of the laws has to show of a definition and its source.
  pub record IsInstance (d : Graph) (m : Source Row Begun Decision Verdict) (depth : ℕ → ℕ) : Type 0 where
    -- names stand once, and each answer looks only at what is earlier
    pub local : Sound m (SeenIn d) d 0
    -- an action waits only for actions of its own graph
    pub closed : Closed d d
    -- no action is its own ancestor
    pub falls : IsDepth d depth
    -- loops can go
    pub turns : Turns d
    -- nothing is kept from an old table
    pub own : IsFresh m

  -- The meaning obeys the local rule at every address.
  abbrev pub MeaningObeysTheRule : Graph → Source Row Begun Decision Verdict → (ℕ → ℕ) → Type 0
  MeaningObeysTheRule d m depth = Obeys m d (meaning m depth d)

  -- And it has rows exactly at the addresses that its own decisions call for.
  abbrev pub RowsWhereCalledFor : Graph → Source Row Begun Decision Verdict → (ℕ → ℕ) → Type 0
  RowsWhereCalledFor d m depth =
      (x : Address) → is_within d [] x ≡ true
      → (IsCalled m d (meaning m depth d) x → has_ended (meaning m depth d x) ≡ true)
      × (has_ended (meaning m depth d x) ≡ true → IsCalled m d (meaning m depth d) x)

  -- Each row stands at an instance: its action is in the definition, and its address has one index for every loop round the action.
  abbrev pub RowsStandAtInstances : Graph → Source Row Begun Decision Verdict → (ℕ → ℕ) → Type 0
  RowsStandAtInstances d m depth =
      (x : Address) (r : Row) → meaning m depth d x ≡ Some r → (has d x.name ≡ true) × (loop_count d x.name ≡ length x.at)

  -- Two tables that obey the rule are the same.
  abbrev pub RowsAreUnique : Graph → Source Row Begun Decision Verdict → Type 0
  RowsAreUnique d m = (t u : Table Row) → Obeys m d t → Obeys m d u → (x : Address) → is_within d [] x ≡ true → t x ≡ u x

  -- And on a part of the definition those that obey it there.
  abbrev pub ObeysIn : Graph → Source Row Begun Decision Verdict → (ℕ → Bool) → Table Row → Type 0
  ObeysIn d m part t = (x : Address) → is_within d [] x ≡ true → part x.name ≡ true → t x ≡ look m d [] t x

  abbrev pub PartIsUnique : Graph → Source Row Begun Decision Verdict → Type 0
  PartIsUnique d m =
      (part near : ℕ → Bool) → IsPart d part near → (t u : Table Row) → ObeysIn d m part t → ObeysIn d m part u → (x : Address)
      → is_within d [] x ≡ true → part x.name ≡ true → t x ≡ u x

  -- Whatever order the events of a run were taken in, each row is the meaning's.
  abbrev pub RowsAreTheMeanings : Graph → Source Row Begun Decision Verdict → (ℕ → ℕ) → Type 0
  RowsAreTheMeanings d m depth =
      (es : List Event) (s : State Row Begun Decision Verdict) → Run d m fresh es s → (x : Address) (r : Row) → s.rows x ≡ Some r
      → meaning m depth d x ≡ Some r

  -- And where nothing is enabled any more, all rows of the meaning are there.
  abbrev pub AllRowsAtTheEnd : Graph → Source Row Begun Decision Verdict → (ℕ → ℕ) → Type 0
  AllRowsAtTheEnd d m depth =
      (es : List Event) (s : State Row Begun Decision Verdict) → Run d m fresh es s → IsOver d m s → (x : Address) → is_within d [] x ≡ true
      → s.rows x ≡ meaning m depth d x

  -- Each state that a run reaches has the facts, with the meaning's rows.
  abbrev pub FactsOfStates : Graph → Source Row Begun Decision Verdict → (ℕ → ℕ) → Type 0
  FactsOfStates d m depth = (es : List Event) (s : State Row Begun Decision Verdict) → Run d m fresh es s → Facts d m (meaning m depth d) s

  -- In each state that a run reaches: as an action is decided, the finished accesses that it is ordered with, or exclusive, are those that
  -- it sees, and all that it sees is there.
  abbrev pub VariablesInOrder : Graph → Source Row Begun Decision Verdict → (ℕ → ℕ) → Type 0
  VariablesInOrder d m depth =
      (es : List Event) (s : State Row Begun Decision Verdict) → Run d m fresh es s
      → SeesFinished d m s × SeenAreThere d m (meaning m depth d) s

  -- And the same as an Until is tested.
  abbrev pub TestsInOrder : Graph → Source Row Begun Decision Verdict → (ℕ → ℕ) → Type 0
  TestsInOrder d m depth =
      (es : List Event) (s : State Row Begun Decision Verdict) → Run d m fresh es s → TestSees d m (meaning m depth d) s

  -- A store that each finished writer overwrites holds at each moment the value of the last finished writer; as an action is decided, or an
  -- Until tested, that of the last writer that it sees.
  abbrev pub StoreHoldsTheLast : {Value : Type 0} → Graph → Source Row Begun Decision Verdict → (ℕ → ℕ) → (Address → Row → Option Value)
      → Type 0
  StoreHoldsTheLast {Value} d m depth writes =
      OneOrder d m writes (meaning m depth d) → (es : List Event) (s : State Row Begun Decision Verdict) (v : Option Value)
      → Stores d m writes fresh es s None v
      → IsLastWritten d m writes s.rows v × StoreHolds d m writes (meaning m depth d) s v × StoreHoldsAtTests d m writes
      (meaning m depth d) s v
      × StoreHoldsAtEnds d m writes (meaning m depth d) s v

  -- At each moment the events so far and those that are left are all that the meaning's rows give the definition.
  abbrev pub EventsAreCounted : Graph → Source Row Begun Decision Verdict → (ℕ → ℕ) → Type 0
  EventsAreCounted d m depth =
      (es : List Event) (s : State Row Begun Decision Verdict) → Run d m fresh es s
      → length es + left m (meaning m depth d) s d [] ≡ total m (meaning m depth d) d []

  -- So each run that is over has exactly that many, in whatever order.
  abbrev pub EventsAtTheEnd : Graph → Source Row Begun Decision Verdict → (ℕ → ℕ) → Type 0
  EventsAtTheEnd d m depth =
      (es : List Event) (s : State Row Begun Decision Verdict) → Run d m fresh es s → IsOver d m s
      → length es ≡ total m (meaning m depth d) d []

  -- And at each moment the events so far are at most two for each row, running leaf, open container, attempt and begun iteration. So 32
  -- times their number is at most the cost of the entries of the state, however it is kept.
  abbrev pub EventsAreFew : (RowAt LeafAt OpenAt : Type 0) → Graph → Source Row Begun Decision Verdict → Table Row
      → State Row Begun Decision Verdict → List Event → Type 0
  EventsAreFew RowAt LeafAt OpenAt d m f s es =
      (turns : Row → ℕ) → TellsTurns d m f turns
      → (row_at : RowAt → Address) (row : RowAt → Row) (leaf_at : LeafAt → Address) (leaf : LeafAt → Running Begun)
      (open_at : OpenAt → Address) (opening : OpenAt → Opening Decision Verdict)
      → (of_row : RowAt → ℕ) (of_leaf : LeafAt → ℕ) (of_open : OpenAt → ℕ) → Costs turns row leaf opening of_row of_leaf of_open
      → (rows : List RowAt) (leaves : List LeafAt) (opens : List OpenAt) → Lists row_at row s.rows rows
      → Lists leaf_at leaf s.running leaves → Lists open_at opening s.opens opens
      → 32 * length es ≤ sum_of of_row rows + sum_of of_leaf leaves + sum_of of_open opens

  abbrev pub EventsOfRunsAreFew : (RowAt LeafAt OpenAt : Type 0) → Graph → Source Row Begun Decision Verdict → (ℕ → ℕ) → Type 0
  EventsOfRunsAreFew RowAt LeafAt OpenAt d m depth =
      (es : List Event) (s : State Row Begun Decision Verdict) → Run d m fresh es s
      → EventsAreFew RowAt LeafAt OpenAt d m (meaning m depth d) s es

  -- In a state that a run reaches, at most one event is enabled at an address.
  abbrev pub OneEventAtAnAddress : Graph → Source Row Begun Decision Verdict → (ℕ → ℕ) → Type 0
  OneEventAtAnAddress d m depth =
      (es : List Event) (s : State Row Begun Decision Verdict) → Run d m fresh es s
      → (e e' : Event) (s1 s2 : State Row Begun Decision Verdict) → Step d m s e s1 → Step d m s e' s2 → place_of e ≡ place_of e'
      → e ≡ e'

  -- The table of events has at an address exactly the event that is enabled there.
  pub record Exact (d : Graph) (m : Source Row Begun Decision Verdict) (s : State Row Begun Decision Verdict) : Type 0 where
    pub each : (e : Event) (s' : State Row Begun Decision Verdict) → Step d m s e s' → events m s d [] (place_of e) ≡ Some e
    pub only : (x : Address) (e : Event) → events m s d [] x ≡ Some e
        → (x ≡ place_of e) × ((s' : State Row Begun Decision Verdict) × Step d m s e s')

  abbrev pub EventsAreExact : Graph → Source Row Begun Decision Verdict → Type 0
  EventsAreExact d m = (es : List Event) (s : State Row Begun Decision Verdict) → Run d m fresh es s → Exact d m s

  -- As an event is taken, no other address changes what is enabled there.
  abbrev pub ChangesOnlyThere : Graph → Source Row Begun Decision Verdict → State Row Begun Decision Verdict → Type 0
  ChangesOnlyThere d m s =
      (e : Event) (s' : State Row Begun Decision Verdict) → Step d m s e s' → (x : Address) → may_change d s e x ≡ false
      → events m s' d [] x ≡ events m s d [] x

  abbrev pub EventsChangeOnlyThere : Graph → Source Row Begun Decision Verdict → Type 0
  EventsChangeOnlyThere d m = (es : List Event) (s : State Row Begun Decision Verdict) → Run d m fresh es s → ChangesOnlyThere d m s

  -- A run goes on by one event at its end.
  abbrev pub RunsGrow : Graph → Source Row Begun Decision Verdict → Type 0
  RunsGrow d m =
      (s mid s' : State Row Begun Decision Verdict) (es : List Event) (e : Event) → Run d m s es mid → Step d m mid e s'
      → Run d m s (es ++ e ∷ []) s'
