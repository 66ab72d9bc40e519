-- The lists of a state as the tables of the machine.
use Rattle.std.specs.Prelude.{ℕ, List, Option, None, Some}
use Rattle.wf_lists.specs.KeyOrder.{find_key}
use Rattle.wf_plan.specs.Address.{Address, Table}
use Rattle.wf_plan.specs.Machine as machine
use Rattle.wf_plan.specs.Instances.{instance_cmp, instance_of, rows_in, table_of}
use Rattle.wf_plan.specs.Known.{opens_in}
use Rattle.wf_plan.specs.OpenAt.{OpenAt}
use Rattle.wf_plan.specs.RowAt.{RowAt}
use Rattle.wf_tables.specs.declared.entries.CountAt.{CountAt}
use Rattle.wf_tables.specs.declared.entries.EventAt.{EventAt}
use Rattle.wf_tables.specs.declared.entries.EventKind.{EventKind}
use Rattle.wf_tables.specs.declared.entries.EventKind.TheVariants.{Start, Try, End, Skip, Open, Begin, Test, Close}
use Rattle.wf_tables.specs.declared.entries.LeafAt.{LeafAt}

abbrev pub leaf_tree : {Begun Seen : Type 0} → (Begun → Seen) → LeafAt Begun → machine.Running Seen
leaf_tree see l = record { begun = see l.begun; tries = l.tries }

abbrev pub event_at : EventKind → ℕ → List ℕ → machine.Event
event_at Start n i = machine.Start n i
event_at Try n i = machine.Try n i
event_at End n i = machine.End n i
event_at Skip n i = machine.Skip n i
event_at Open n i = machine.Open n i
event_at Begin n i = machine.Begin n i
event_at Test n i = machine.Test n i
event_at Close n i = machine.Close n i

abbrev pub event_tree : EventAt → machine.Event
event_tree e = event_at e.kind e.instance.action e.instance.at

abbrev pub running_in : {Begun Seen : Type 0} → (Begun → Seen) → List (LeafAt Begun) → Table (machine.Running Seen)
running_in {Begun} see = table_of (λ (l : LeafAt Begun). l.instance) (leaf_tree see)

abbrev pub events_in : List EventAt → Table machine.Event
events_in = table_of (λ (e : EventAt). e.instance) event_tree

abbrev pub count_in : List CountAt → Table ℕ
count_in = table_of (λ (c : CountAt). c.instance) (λ (c : CountAt). c.count)

-- of what isn't open none are unfinished
abbrev pub count_or_none : {Decision Verdict : Type 0} → Option (OpenAt Decision Verdict) → ℕ
count_or_none None = 0
count_or_none (Some o) = o.unfinished

abbrev pub left_in : {Decision Verdict : Type 0} → List (OpenAt Decision Verdict) → Address → ℕ
left_in {Decision} {Verdict} opens x =
    count_or_none (find_key instance_cmp (λ (o : OpenAt Decision Verdict). o.instance) (instance_of x) opens)

-- THE STATE of the machine
abbrev pub state_of : {Row Begun Decision Verdict Kept Started Decided Told : Type 0} → (Row → Kept) → (Begun → Started)
    → (Decision → Decided) → (Verdict → Told) → List (RowAt Row) → List (LeafAt Begun) → List (OpenAt Decision Verdict)
    → machine.State Kept Started Decided Told
state_of kept started decided told rows running opens = record {
  rows = rows_in kept rows;
  running = running_in started running;
  opens = opens_in decided told opens;
}
