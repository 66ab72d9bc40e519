-- How a run ends, and what it gives out.
use Rattle.std.specs.Prelude.{ℕ, List, [], ◌∷◌, Result, Ok, Err, map, codes}
use Rattle.wf_val.specs.ValueTree.{ValueTree, Member, null, text, object, members}
use Rattle.wf_val.specs.declared.fault.EvalFault.{EvalFault}
use Rattle.wf_trigger.specs.DefTree.{OutputTree}
use Rattle.wf_trigger.specs.Outcomes.{Run}
use Rattle.wf_trigger.specs.Told.{Told}
use Rattle.wf_trigger.specs.TreeValue.{members_after, tree_value}
use Rattle.wf_record.specs.FaultText.{fault_text}
use Rattle.wf_record.specs.declared.status.Status as row_status
use Rattle.wf_record.specs.declared.status.RunStatus.{RunStatus}

abbrev pub output_runs : Told → List OutputTree → List (List ℕ × Run)
output_runs l outputs = map (λ (o : OutputTree). (o.name, tree_value l o.value)) outputs

-- The values of the section `outputs`, each under its name, or the first fault in the order of names. Words are counted over the
-- whole section; the values together aren't tested for their size, since each was.
abbrev pub section : Told → List OutputTree → Result (List Member) EvalFault
section l outputs = (members_after (output_runs l outputs) [] 0).0

-- A run ends as its graph does, which Failed or Succeeded.
abbrev pub run_status : row_status.Status → RunStatus
run_status row_status.Status.Failed = RunStatus.Failed
run_status s = RunStatus.Succeeded

-- the error of a run one of whose outputs has no value
abbrev pub outputs_error : EvalFault → ValueTree
outputs_error f = object (members ((codes "code", text (codes "InvalidTemplate")) ∷ (codes "message", text (fault_text f)) ∷ []))

pub record Ending : Type 0 where
  pub status : RunStatus
  pub error : ValueTree
  pub outputs : ValueTree

-- The graph ended so, and the section `outputs` came to this. Where an output has no value, the run Failed, however the graph ended.
abbrev pub ending : row_status.Status → Result (List Member) EvalFault → Ending
ending status (Ok ms) = record { status = run_status status; error = null; outputs = object (members ms) }
ending status (Err f) = record { status = RunStatus.Failed; error = outputs_error f; outputs = null }
