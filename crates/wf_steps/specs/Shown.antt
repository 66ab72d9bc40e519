-- What is shown of the lists of a state.
use Rattle.std.specs.Prelude.{List}
use Rattle.wf_layers.specs.Machine as machine
use Rattle.wf_events.specs.OpenAt.{OpenAt}
use Rattle.wf_events.specs.RowAt.{RowAt}
use Rattle.wf_events.specs.WriterAt.{WriterAt}
use Rattle.wf_events.specs.Tables.{state_of}
use Rattle.wf_events.specs.LeafAt.{LeafAt}

-- Rows, running leaves, open containers, and the store; without the store they are the state of the machine.
abbrev pub shown : {Row Begun Decision Verdict Kept Started Decided Told : Type 0} → (Row → Kept) → (Begun → Started)
    → (Decision → Decided) → (Verdict → Told)
    → List (RowAt Row) × (List (LeafAt Begun) × (List (OpenAt Decision Verdict) × List WriterAt)) → machine.State Kept Started Decided Told
shown kept started decided told h = state_of kept started decided told h.0 h.1.0 h.1.1.0
