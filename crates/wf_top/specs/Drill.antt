-- What `drill` says: its plan. It reads no file.
use Rattle.std.specs.Prelude.{ℕ, Result, Ok, Err, codes}
use Rattle.wf_answers.specs.Inputs.{InputsTree}
use Rattle.wf_def.specs.DefTree.{DefTree}
use Rattle.wf_drill.specs.Drill.{drill_definition, drill_inputs}
use Rattle.wf_files.specs.Fault.{fault_line}
use Rattle.wf_files.specs.Form.{definition_of, inputs_of}
use Rattle.wf_files.specs.declared.fault.FormFault.{FormFault}
use Rattle.wf_top.specs.Plan.{Plan, Says, Drills}
use Rattle.wf_top.specs.declared.said.Verdict.TheVariants.{Definition, Inputs}

-- its inputs are judged, as those of a file are
abbrev pub drilled_with : ℕ → DefTree → Result InputsTree FormFault → Plan
drilled_with n d (Ok inputs) = Drills n d inputs
drilled_with n d (Err fault) = Says Inputs (fault_line (codes "inputs ") fault)

-- and its definition before them
abbrev pub drilled_by : ℕ → Result DefTree FormFault → Plan
drilled_by n (Ok d) = drilled_with n d (inputs_of (drill_inputs n))
drilled_by n (Err fault) = Says Definition (fault_line (codes "definition ") fault)

-- the drill of a size
abbrev pub drilled : ℕ → Plan
drilled n = drilled_by n (definition_of (drill_definition n))
