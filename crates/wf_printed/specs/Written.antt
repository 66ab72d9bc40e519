-- What is written of runs, or why nothing is, by what the calls are given.
use Rattle.std.specs.Prelude.{◌≡◌, ◌<◌, ℕ, Bool, List, Err}
use Rattle.wf_answers.specs.InputsSeen.{inputs_tree}
use Rattle.wf_answers.specs.declared.inputs.Inputs.{Inputs}
use Rattle.wf_reading.specs.ReadSeen.{def_tree}
use Rattle.wf_run.specs.Checked.{Checked}
use Rattle.wf_told.specs.Records.{records_of, records_within, runs_records}
use Rattle.wf_told.specs.Runs.{TellsRuns}
use Rattle.wf_told.specs.Text.{total_cost}
use Rattle.wf_told.specs.Written.{AreWritten, TellsStarts}
use Rattle.wf_told.specs.declared.fault.RunsFault.{RunsFault}
use Rattle.wf_trigger.specs.StartsSeen.{starts_seen}
use Rattle.wf_trigger.specs.declared.starts.Starts.{Starts}

-- the text of the runs that the inputs start, or the fault for which there is none
abbrev pub RunsAreTold : Checked → Inputs → List ℕ → Bool → List ℕ → Type 0
RunsAreTold checked inputs schedule traced text = TellsRuns (def_tree checked.def) (inputs_tree inputs) schedule traced text

abbrev pub NoRunsAreTold : Checked → Inputs → RunsFault → Type 0
NoRunsAreTold checked inputs f = runs_records (def_tree checked.def) (inputs_tree inputs) ≡ Err f

-- and of the runs that start so
abbrev pub StartsAreTold : Checked → Inputs → List ℕ → Bool → Starts → List ℕ → Type 0
StartsAreTold checked inputs schedule traced starts text =
    TellsStarts (def_tree checked.def) (inputs_tree inputs) schedule traced (starts_seen starts) text

abbrev pub NoStartsAreTold : Checked → Inputs → Starts → RunsFault → Type 0
NoStartsAreTold checked inputs starts f =
    records_within (records_of (def_tree checked.def) (inputs_tree inputs) (starts_seen starts)) ≡ Err f

-- the text is that of their runs, one after the other, and they cost this much
abbrev pub StartsAreWritten : Checked → Inputs → List ℕ → Bool → Starts → List ℕ → ℕ → Type 0
StartsAreWritten checked inputs schedule traced starts text cost =
    AreWritten (def_tree checked.def) (inputs_tree inputs) schedule traced (starts_seen starts) text cost

-- they cost too much together
abbrev pub CostTooMuch : Checked → Inputs → Starts → Type 0
CostTooMuch checked inputs starts =
    67108864 < total_cost (records_of (def_tree checked.def) (inputs_tree inputs) (starts_seen starts))
