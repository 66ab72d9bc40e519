-- What the commands say that resubmit a run, behind DEF: their plan, in the order of their tests.
use Rattle.std.specs.Prelude.{ℕ, List, [], Option, None, Some, Result, Ok, Err, codes}
use Rattle.wf_answers.specs.Inputs.{InputsTree}
use Rattle.wf_def.specs.DefTree.{DefTree}
use Rattle.wf_files.specs.Fault.{fault_line}
use Rattle.wf_files.specs.Form.{history_form, inputs_form, schedule_form}
use Rattle.wf_files.specs.declared.fault.FindFault.{FindFault}
use Rattle.wf_files.specs.declared.fault.FormFault.{FormFault}
use Rattle.wf_record.specs.Record.{RecordTree}
use Rattle.wf_top.specs.Limits.{history_bytes, inputs_bytes, schedule_bytes}
use Rattle.wf_top.specs.Plan.{Plan, Says, Reads, Remakes}
use Rattle.wf_top.specs.Refusal.{find_line}
use Rattle.wf_top.specs.Words.{AskedTree}
use Rattle.wf_top.specs.declared.said.Verdict.{Verdict}
use Rattle.wf_top.specs.declared.said.Verdict.TheVariants.{History, Inputs}

-- What a file was judged to be: the plan goes on with what was found in it, or its fault is said.
abbrev pub judged : {T : Type 0} → Verdict → List ℕ → (T → Plan) → Result T FormFault → Plan
judged verdict part next (Ok found) = next found
judged verdict part next (Err fault) = Says verdict (fault_line part fault)

module _ (asked : AskedTree) (d : DefTree) where
  -- the record of the run is resubmitted, if there is one alone: that is asked once all files have been judged
  abbrev pub remade : InputsTree → List ℕ → Result RecordTree FindFault → Plan
  remade inputs schedule (Ok r) = Remakes d r asked.names inputs schedule
  remade inputs schedule (Err fault) = Says History (find_line fault)

  -- under the schedule of a file, or under the empty one where no file is named
  abbrev pub remade_under : Option (List ℕ) → Result RecordTree FindFault → InputsTree → Plan
  remade_under None found inputs = remade inputs [] found
  remade_under (Some schedule) found inputs =
      Reads schedule schedule_bytes
      (λ file. judged Inputs (codes "schedule ") (λ numbers. remade inputs numbers found) (schedule_form file))

  -- with the inputs of a file
  abbrev pub remade_with : Result RecordTree FindFault → Plan
  remade_with found =
      Reads asked.inputs inputs_bytes
      (λ file. judged Inputs (codes "inputs ") (remade_under asked.schedule found) (inputs_form file))

  -- by what a history holds of the run
  abbrev pub resubmit : Plan
  resubmit =
      Reads asked.history history_bytes
      (λ file. judged History (codes "history ") remade_with (history_form asked.run file))
