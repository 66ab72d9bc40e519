-- The record of a definition's rows is one of the form, and so is that of a resubmission.
use Rattle.std.proofs.Common.{◌≡◌, ◌^◌, true, List, [], length, Option, Some, None, Result, Ok, Err}
use Rattle.hex.specs.Hex.{IsBytes}
use Rattle.wf_asked.specs.Asked.{is_name}
use Rattle.wf_val.specs.ValueTree.{ValueTree, Member, members, text}
use Rattle.wf_val.specs.declared.fault.EvalFault.{EvalFault}
use Rattle.wf_layers.specs.Address.{Address, Table, address}
use Rattle.wf_def.specs.ActionTree.{ActionTree, action_number}
use Rattle.wf_def.specs.DefTree.{DefTree}
use Rattle.wf_record.specs.Record.{Row}
use Rattle.wf_record.specs.declared.status.RunStatus.{RunStatus}
use Rattle.wf_record.specs.declared.status.Status as row_status
use Rattle.wf_record_form.specs.Fitting.{AllFit, IsFittingRecord, IsMeasured, IsTriggerValue}
use Rattle.wf_data.specs.Simple.{run_status_of}
use Rattle.wf_environment.specs.Ending.{ending, section}
use Rattle.wf_environment.specs.Environment.{Environment, last_facts}
use Rattle.wf_pinned.specs.Containers.{is_terminate}
use Rattle.wf_pinned.specs.Look.{told_to_outputs}
use Rattle.wf_pinned.specs.Record.{ended_by, ending_by, first_succeeded, record_of_table, responded, row_found}
use Rattle.wf_formed.specs.Formed.{IsFormedRow}
use Rattle.wf_formed.specs.Known.{TreesFit}
use Rattle.wf_formed.proofs.FitLemmas.{null_fits}
use Rattle.wf_formed.proofs.MeaningLemmas.{OfRow, OfTable}
use Rattle.wf_formed.proofs.OrderLemmas.{AreKnown, rows_ascend, rows_fit}
use Rattle.wf_formed.proofs.SectionLemmas.{AllFitIf, section_fits}

-- what a run goes by
pub record IsFormedAround (e : Environment) : Type 0 where
  pub run : is_name 80 (text (last_facts e).run) ≡ true
  pub trigger : IsTriggerValue e.start.trigger
  pub parameters : AllFit (members e.start.parameters)

-- ---- how it ends, and what it responds

ended_measured : (o : Option RunStatus) (v : ValueTree) → IsMeasured (ended_by o v).outputs
ended_measured None v = tt
ended_measured (Some status) v = tt

section_measured : (s : row_status.Status) (r : Result (List Member) EvalFault) → AllFitIf r → IsMeasured (ending s r).outputs
section_measured s (Ok ms) all = all
section_measured s (Err f) all = null_fits

module _ (fit : TreesFit) (d : DefTree) (e : Environment) (known : Table Row) where
  ending_measured : (o : Option Row) → IsMeasured (ending_by d e known o).outputs
  ending_measured None =
      section_measured _ (section (told_to_outputs d e known) d.outputs) (section_fits fit (told_to_outputs d e known) d.outputs)
  ending_measured (Some row) = ended_measured (run_status_of row.inputs) row.inputs

outside_formed : (known : Table Row) → OfTable (2 ^ 63) IsFormedRow known → (x : Address) → IsMeasured (responded (known x))
outside_formed known all x = by (known x) (all x)
  where
    by : (o : Option Row) → OfRow (2 ^ 63) IsFormedRow x o → IsMeasured (responded o)
    by None formed = null_fits
    by (Some row) formed = formed.1.outputs

found_measured : (known : Table Row) → OfTable (2 ^ 63) IsFormedRow known → (o : Option ActionTree)
    → IsMeasured (responded (row_found known o))
found_measured known all None = null_fits
found_measured known all (Some a) = outside_formed known all (address (action_number a) [])

-- ---- all

-- THE LAW
pub record_fits : TreesFit → (d : DefTree) (e : Environment) (known : Table Row) → AreKnown d known → IsFormedAround e
    → length d.digest ≡ 32 → IsBytes d.digest → IsFittingRecord (record_of_table d e known)
record_fits fit d e known facts around long bytes = record {
  digest_length = long;
  digest_bytes = bytes;
  outputs = ending_measured fit d e known (first_succeeded d is_terminate known);
  parameters = around.parameters;
  response = found_measured known facts.formed _;
  run = around.run;
  trigger = around.trigger;
  rows = rows_fit d known facts;
  in_order = rows_ascend d known facts;
}
