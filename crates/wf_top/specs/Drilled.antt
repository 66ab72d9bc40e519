-- How `drill` ends.
use Rattle.std.specs.Prelude.{◌≡◌, ◌⊎◌, ℕ, List, Option, Some, Ok, Err, codes}
use Rattle.std.specs.Io.KnownBytes.{Appends}
use Rattle.wf_answers.specs.Inputs.{InputsTree}
use Rattle.wf_def.specs.DefTree.{DefTree}
use Rattle.wf_drill.specs.Drill.{drill_definition, drill_inputs}
use Rattle.wf_files.specs.Fault.{fault_line}
use Rattle.wf_files.specs.Form.{definition_of, inputs_of}
use Rattle.wf_files.specs.declared.fault.FormFault.{FormFault}
use Rattle.wf_record.specs.Record.{RecordTree}
use Rattle.wf_told.specs.Records.{runs_records}
use Rattle.wf_told.specs.declared.fault.RunsFault.{RunsFault}
use Rattle.wf_top.specs.Drilling.{TellsDrill}
use Rattle.wf_top.specs.Served.{out_of_memory}
use Rattle.wf_top.specs.Told.{too_large}
use Rattle.wf_top.specs.Trigger.{trigger_line}
use Rattle.wf_top.specs.Words.{command_of}
use Rattle.wf_top.specs.declared.words.Command.TheVariants.{Drill}
use Rattle.wf_trigger.specs.declared.fault.TriggerFault.{TriggerFault}

-- The words are `drill` with this size, of which the definition is accepted, and the inputs are of their form.
pub record IsDrilled (words : List (List ℕ)) (n : ℕ) (d : DefTree) (inputs : InputsTree) : Type 0 where
  pub names : command_of words ≡ Some (Drill n)
  pub accepted : definition_of (drill_definition n) ≡ Ok d
  pub read : inputs_of (drill_inputs n) ≡ Ok inputs

module _ (words : List (List ℕ)) where
  -- The runs were made, and the line that tells of them was taken, and nothing else.
  pub record Drilled (n : ℕ) (before after : Option (List ℕ)) : Type 0 where
    pub definition : DefTree
    pub inputs : InputsTree
    pub text : List ℕ
    pub given : IsDrilled words n definition inputs
    pub made : TellsDrill n definition inputs text
    pub written : Appends before after text

  -- Its definition isn't accepted, and the fault was taken. No size is known of which that is so.
  pub record RefusedDrill (before after : Option (List ℕ)) : Type 0 where
    pub size : ℕ
    pub fault : FormFault
    pub names : command_of words ≡ Some (Drill size)
    pub refused : definition_of (drill_definition size) ≡ Err fault
    pub written : Appends before after (fault_line (codes "definition ") fault)

  -- Its inputs aren't of their form, and the fault was taken. Nor is one known of this.
  pub record RefusedDrillInputs (before after : Option (List ℕ)) : Type 0 where
    pub size : ℕ
    pub definition : DefTree
    pub fault : FormFault
    pub names : command_of words ≡ Some (Drill size)
    pub accepted : definition_of (drill_definition size) ≡ Ok definition
    pub refused : inputs_of (drill_inputs size) ≡ Err fault
    pub written : Appends before after (fault_line (codes "inputs ") fault)

  -- Its run wasn't made, for this fault, and this line was taken.
  pub record RefusedDrillRun (before after : Option (List ℕ)) (fault : RunsFault) (line : List ℕ) : Type 0 where
    pub size : ℕ
    pub definition : DefTree
    pub inputs : InputsTree
    pub given : IsDrilled words size definition inputs
    pub refused : runs_records definition inputs ≡ Err fault
    pub written : Appends before after line

  -- Its run couldn't start. Nor is one known of this.
  abbrev pub RefusedDrillTrigger : Option (List ℕ) → Option (List ℕ) → Type 0
  RefusedDrillTrigger before after =
      (fault : TriggerFault) × RefusedDrillRun before after (RunsFault.Trigger fault) (trigger_line fault)

  -- Its run costs too much. Nor is one known of this.
  abbrev pub RefusedDrillCost : Option (List ℕ) → Option (List ℕ) → Type 0
  RefusedDrillCost before after = RefusedDrillRun before after RunsFault.TooLarge too_large

-- All tests of `drill` pass: its run leaves a record.
pub record PassesDrill (words : List (List ℕ)) (n : ℕ) (d : DefTree) (inputs : InputsTree) : Type 0 where
  pub records : List RecordTree
  pub given : IsDrilled words n d inputs
  pub runs_made : runs_records d inputs ≡ Ok records

-- The line was taken as a whole, with its status; or memory ran out.
abbrev pub IsToldDrill : ℕ → DefTree → InputsTree → Option (List ℕ) → Option (List ℕ) → ℕ → Type 0
IsToldDrill n d inputs before after result =
    ((text : List ℕ) × (result ≡ 0) × TellsDrill n d inputs text × Appends before after text)
    ⊎ ((result ≡ 5) × Appends before after out_of_memory)
