-- What is kept of a state that is put aside.
use Rattle.std.specs.Prelude.{ℕ, Bool, List}
use Rattle.wf_layers.specs.Address.{Address}
use Rattle.wf_layers.specs.Definition.{Graph}
use Rattle.wf_layers.specs.Source.{Source}
use Rattle.wf_events.specs.OpenAt.{OpenAt}
use Rattle.wf_events.specs.RowAt.{RowAt}
use Rattle.wf_events.specs.WriterAt.{WriterAt}
use Rattle.wf_events.specs.CountAt.{CountAt}
use Rattle.wf_events.specs.EventAt.{EventAt}
use Rattle.wf_events.specs.LeafAt.{LeafAt}
use Rattle.wf_steps.specs.Kept.{IsKept}
use Rattle.wf_steps.specs.Shown.{shown}

module _ {Row Begun Decision Verdict Kept Started Decided Told : Type 0} (see : Row → Kept) (started : Begun → Started)
    (decided : Decision → Decided) (told : Verdict → Told) where
  -- THE LISTS OF A STATE, and its counts and ready set behind them, are those of a state with these actions: a run leads there.
  abbrev pub IsRest : Graph → Source Kept Started Decided Told → (ℕ → ℕ) → (ℕ → Address → Kept → Bool)
      → (List (RowAt Row) × (List (LeafAt Begun) × (List (OpenAt Decision Verdict) × List WriterAt)))
      × (List CountAt × (List CountAt × List EventAt)) → Type 0
  IsRest d m depth writes rest =
      IsKept d m depth writes (shown see started decided told rest.0) rest.0.1.1.0 rest.0.1.1.1 rest.1.0 rest.1.1.0 rest.1.1.1
