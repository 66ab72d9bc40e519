-- A RESUBMISSION UNDER A SCHEDULE, what is told of it, and why there is none.
use Rattle.std.specs.Prelude.{◌≡◌, ℕ, ◌<◌, ◌≤◌, List, [], length}
use Rattle.wf_layers.specs.Machine.{Event, State}
use Rattle.wf_layers.specs.Redo.{closed_again, redone}
use Rattle.wf_layers.specs.Resubmission as resubmission
use Rattle.wf_scheduled.specs.Counts.{peak}
use Rattle.wf_scheduled.specs.Turns.{IsRun}
use Rattle.wf_def.specs.DefTree.{DefTree}
use Rattle.wf_answers.specs.Inputs.{InputsTree}
use Rattle.wf_record.specs.Cost.{cost}
use Rattle.wf_record.specs.Record.{RecordTree, Row}
use Rattle.wf_trace.specs.Decisions.{DecisionTree}
use Rattle.wf_trace.specs.Verdicts.{VerdictTree}
use Rattle.wf_trace.specs.Leaf.{BegunTree}
use Rattle.wf_prepare.specs.Points.{graph_of}
use Rattle.wf_prepare.specs.Record.{depth_of}
use Rattle.wf_prepare.specs.Resubmitted.{is_chosen, pinned, pinned_source, recalled, rows_by}
use Rattle.wf_prepare.specs.Refused.{numbers_of}
use Rattle.wf_prepare.specs.ResubmitFault.{ResubmitFault}
use Rattle.wf_prepare.specs.Prepared.{IsRefused, MayBeResubmitted}
use Rattle.wf_told.specs.Text.{run_text}
use Rattle.wf_told.specs.Under.{Told}
use Rattle.wf_told.specs.declared.fault.ResubmissionFault.{ResubmissionFault}

-- The state with which a resubmission of a record from the actions of these numbers begins: the rows that are kept, and each container
-- that is closed again, open with what it had decided.
abbrev pub resumed_state : DefTree → RecordTree → List ℕ → State Row BegunTree DecisionTree VerdictTree
resumed_state d r from =
    resubmission.resumed (graph_of d) (redone (graph_of d) (depth_of d) (is_chosen from))
    (closed_again (graph_of d) (depth_of d) (is_chosen from)) (rows_by d r.rows) (recalled d r.rows)

-- THE RESUBMISSION of a record by new inputs: from that state, each turn takes the event that the schedule has for it, until none may
-- happen. Steps and peak are told by these events, which have no lines; the record is what the resubmission means, whatever they are.
pub record IsResubmittedUnder (d : DefTree) (r : RecordTree) (inputs : InputsTree) (from schedule : List ℕ) (t : Told) : Type 0 where
  pub events : List Event
  pub run : IsRun (graph_of d) (pinned_source d r inputs from) schedule (resumed_state d r from) events
  pub left_is : t.left ≡ pinned d r inputs from
  pub steps_are : t.steps ≡ length events
  pub peak_is : t.peak ≡ peak events
  pub lines_are : t.events ≡ []

module _ (d : DefTree) (r : RecordTree) (names : List (List ℕ)) (inputs : InputsTree) where
  -- THE TEXT of the resubmission of a record from the actions of these names: the new record and how it went. It may be resubmitted from
  -- them, and the new record doesn't cost too much.
  pub record TellsResubmission (schedule text : List ℕ) : Type 0 where
    pub may : MayBeResubmitted d r names
    pub run : Told
    pub told : IsResubmittedUnder d r inputs (numbers_of d.top names) schedule run
    pub small : cost run.left ≤ 67108864
    pub text_is : text ≡ run_text run

  -- WHY THERE IS NONE: the record can't be resubmitted from these names, for this fault; or it can, and the new record costs too much. It
  -- rests on no schedule.
  pub data IsNotResubmitted : ResubmissionFault → Type 0 where
    refused : {f : ResubmitFault} → IsRefused d r names f → IsNotResubmitted (ResubmissionFault.Refused f)
    too_large : MayBeResubmitted d r names → 67108864 < cost (pinned d r inputs (numbers_of d.top names))
        → IsNotResubmitted ResubmissionFault.TooLarge
