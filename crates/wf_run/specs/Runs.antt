-- What a run under a schedule is, and a resubmission, by what the calls are given.
use Rattle.std.specs.Prelude.{◌≡◌, ◌≤◌, ◌+◌, ℕ, Bool, List}
use Rattle.wf_answers.specs.InputsSeen.{inputs_tree}
use Rattle.wf_answers.specs.declared.inputs.Inputs.{Inputs}
use Rattle.wf_environment.specs.Start.{Start}
use Rattle.wf_environment.specs.StartsSeen.{start_tree}
use Rattle.wf_record.specs.Cost.{cost}
use Rattle.wf_record.specs.Record.{RecordTree}
use Rattle.wf_record.specs.Seen.{record_tree}
use Rattle.wf_record.specs.declared.record.Record.{Record}
use Rattle.wf_resubmit.specs.Refused.{numbers_of}
use Rattle.wf_runnable.specs.Checked.{Checked}
use Rattle.wf_runnable.specs.Over.{Moment}
use Rattle.wf_runnable.specs.Resubmitted.{pinned, resubmitted}
use Rattle.wf_runnable.specs.Runnable.{begun_with, definition, meant_record}
use Rattle.wf_told.specs.Prepared.{MayBeResubmitted}
use Rattle.wf_told.specs.Resubmissions.{IsResubmittedUnder, resumed_state}
use Rattle.wf_told.specs.Under.{IsRunUnder, Told}

-- ---- a run that isn't made from another

-- what the record costs that the definition means
abbrev pub meant_cost : Checked → Start → Inputs → ℕ
meant_cost checked start inputs = cost (meant_record checked start inputs)

-- the run under the schedule
abbrev pub IsTheRun : Checked → Start → Inputs → List ℕ → Bool → Told → Type 0
IsTheRun checked start inputs schedule traced t = IsRunUnder (definition checked) (begun_with start inputs) schedule traced t

-- ---- and one that is made from an older one

-- The record may be resubmitted from the actions of these numbers.
pub record MayBeResumed (checked : Checked) (log : Record) (from : List ℕ) : Type 0 where
  pub names : List (List ℕ)
  pub may : MayBeResubmitted (definition checked) (record_tree log) names
  pub from_is : from ≡ numbers_of (definition checked).top names

-- it starts as the resubmission does: with the name and the seed of the new inputs, and with the old trigger and parameters
abbrev pub StartsAgain : Record → Inputs → Start → Type 0
StartsAgain log inputs start = start_tree start ≡ (resubmitted (record_tree log) (inputs_tree inputs)).start

-- the state with which it begins
abbrev pub first_moment : Checked → Record → List ℕ → Moment
first_moment checked log from = resumed_state (definition checked) (record_tree log) from

abbrev pub resumed_record : Checked → Record → Inputs → List ℕ → RecordTree
resumed_record checked log inputs from = pinned (definition checked) (record_tree log) (inputs_tree inputs) from

abbrev pub resumed_cost : Checked → Record → Inputs → List ℕ → ℕ
resumed_cost checked log inputs from = cost (resumed_record checked log inputs from)

abbrev pub IsTheResubmission : Checked → Record → Inputs → List ℕ → List ℕ → Told → Type 0
IsTheResubmission checked log inputs from schedule t =
    IsResubmittedUnder (definition checked) (record_tree log) (inputs_tree inputs) from schedule t

-- ---- what each costs

-- the cost of a record that was made
abbrev pub cost_of : Record → ℕ
cost_of log = cost (record_tree log)

-- a run costs too little to be refused, beside what others cost
abbrev pub IsWithin : ℕ → ℕ → Type 0
IsWithin spent cost = spent + cost ≤ 67108864
