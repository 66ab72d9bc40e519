-- What the outcome of `drill` says.
use Rattle.std.proofs.Common.{◌≡◌, ◌⊎◌, ℕ, List, Bool, true, false, Option, Some, Result, Ok, Err, inl, inr, refl, ap, arith}
use Rattle.std.specs.Prelude.{codes}
use Rattle.std.specs.Io.KnownBytes.{Appends}
use Rattle.wf_answers.specs.Inputs.{InputsTree}
use Rattle.wf_def.specs.DefTree.{DefTree}
use Rattle.wf_drill.specs.Drill.{drill_definition, drill_inputs}
use Rattle.wf_files.specs.Fault.{fault_line}
use Rattle.wf_files.specs.Form.{definition_of, inputs_of}
use Rattle.wf_files.specs.declared.fault.FormFault.{FormFault}
use Rattle.wf_outside.specs.Outside.{Held}
use Rattle.wf_told.specs.Records.{runs_records}
use Rattle.wf_told.specs.declared.fault.RunsFault.{RunsFault}
use Rattle.wf_top.specs.Drill.{drilled, drilled_by, drilled_with}
use Rattle.wf_top.specs.Drilled.{Drilled, IsDrilled, RefusedDrill, RefusedDrillCost, RefusedDrillInputs, RefusedDrillTrigger}
use Rattle.wf_top.specs.Drilling.{MayTellDrill, TellsDrill}
use Rattle.wf_top.specs.Plan.{MaySay}
use Rattle.wf_top.specs.Served.{number}
use Rattle.wf_top.specs.Told.{SaysFault, too_large}
use Rattle.wf_top.specs.Trigger.{trigger_line}
use Rattle.wf_top.specs.Words.{command_of}
use Rattle.wf_top.specs.declared.said.Verdict.{Verdict}
use Rattle.wf_top.specs.declared.words.Command.{Command}
use Rattle.wf_top.specs.declared.words.Command.TheVariants.{Check, Run, Trace, Resubmit, ResubmitSet, Drill, Fires, Session}
use Rattle.wf_trigger.specs.declared.fault.TriggerFault.{TriggerFault}

-- What it may say: what its definition and its inputs were, the status and the text.
pub data DrillOutcome (words : List (List ℕ)) (status : ℕ) (text : List ℕ) : Type 0 where
  refused : (n : ℕ) (fault : FormFault) → command_of words ≡ Some (Drill n) → definition_of (drill_definition n) ≡ Err fault → status ≡ 1 →
      text ≡ fault_line (codes "definition ") fault → DrillOutcome words status text
  no_inputs : (n : ℕ) (d : DefTree) (fault : FormFault) → command_of words ≡ Some (Drill n) → definition_of (drill_definition n) ≡ Ok d →
      inputs_of (drill_inputs n) ≡ Err fault → status ≡ 6 → text ≡ fault_line (codes "inputs ") fault → DrillOutcome words status text
  no_start : (n : ℕ) (d : DefTree) (inputs : InputsTree) (fault : TriggerFault) → IsDrilled words n d inputs → status ≡ 6 →
      runs_records d inputs ≡ Err (RunsFault.Trigger fault) → text ≡ trigger_line fault → DrillOutcome words status text
  costs : (n : ℕ) (d : DefTree) (inputs : InputsTree) → IsDrilled words n d inputs → status ≡ 8 →
      runs_records d inputs ≡ Err RunsFault.TooLarge → text ≡ too_large → DrillOutcome words status text
  drills : (n : ℕ) (d : DefTree) (inputs : InputsTree) → IsDrilled words n d inputs → status ≡ 0 → TellsDrill n d inputs text →
      DrillOutcome words status text

abbrev pub is_drill : Command → Bool
is_drill Check = false
is_drill Run = false
is_drill Trace = false
is_drill Command.List = false
is_drill Resubmit = false
is_drill ResubmitSet = false
is_drill (Fires from count) = false
is_drill (Drill n) = true
is_drill Session = false

-- ---- what the plan comes to

module _ (held : Held) (words : List (List ℕ)) (verdict : Verdict) (text : List ℕ) (n : ℕ) (names : command_of words ≡ Some (Drill n)) where
  abbrev Ends : Type 0
  Ends = DrillOutcome words (number verdict) text

  after_fault : (d : DefTree) (inputs : InputsTree) → IsDrilled words n d inputs → (fault : RunsFault) → runs_records d inputs ≡ Err fault →
      SaysFault fault verdict text → Ends
  after_fault d inputs given (RunsFault.Trigger fault) is saying = no_start n d inputs fault given (ap number saying.0) is saying.1
  after_fault d inputs given RunsFault.TooLarge is saying = costs n d inputs given (ap number saying.0) is saying.1
  after_fault d inputs given RunsFault.Memory is saying = absurd saying

  after_told : (d : DefTree) (inputs : InputsTree) → IsDrilled words n d inputs → MayTellDrill n d inputs verdict text → Ends
  after_told d inputs given saying = elim saying [
    | inl told ↦ drills n d inputs given (ap number told.0) told.1
    | inr none ↦ after_fault d inputs given none.0 none.1 none.2
  ]

  after_inputs : (d : DefTree) → definition_of (drill_definition n) ≡ Ok d → (form : Result InputsTree FormFault) →
      inputs_of (drill_inputs n) ≡ form → MaySay held (drilled_with n d form) verdict text → Ends
  after_inputs d accepted (Ok inputs) read saying =
      after_told d inputs (record { names = names; accepted = accepted; read = read }) saying
  after_inputs d accepted (Err fault) read saying = no_inputs n d fault names accepted read (ap number saying.0) saying.1

  after_definition : (form : Result DefTree FormFault) → definition_of (drill_definition n) ≡ form →
      MaySay held (drilled_by n form) verdict text → Ends
  after_definition (Ok d) accepted saying = after_inputs d accepted (inputs_of (drill_inputs n)) refl saying
  after_definition (Err fault) accepted saying = refused n fault names accepted (ap number saying.0) saying.1

  pub after_drill : MaySay held (drilled n) verdict text → Ends
  after_drill saying = after_definition (definition_of (drill_definition n)) refl saying

-- ---- what it says of its status

module _ (words : List (List ℕ)) (before after : Option (List ℕ)) (text : List ℕ) (status : ℕ) where
  -- it is `drill` of some size
  pub drill_names : DrillOutcome words status text → (n : ℕ) × (command_of words ≡ Some (Drill n))
  drill_names (refused n fault names bad is said) = (n, names)
  drill_names (no_inputs n d fault names accepted bad is said) = (n, names)
  drill_names (no_start n d inputs fault given is bad said) = (n, given.names)
  drill_names (costs n d inputs given is bad said) = (n, given.names)
  drill_names (drills n d inputs given is made) = (n, given.names)

  module _ (written : Appends before after text) where
    pub drill_done : status ≡ 0 → DrillOutcome words status text →
        (n : ℕ) × (command_of words ≡ Some (Drill n)) × Drilled words n before after
    drill_done zero (refused n fault names bad is said) = absurd (omega (arith, zero, is))
    drill_done zero (no_inputs n d fault names accepted bad is said) = absurd (omega (arith, zero, is))
    drill_done zero (no_start n d inputs fault given is bad said) = absurd (omega (arith, zero, is))
    drill_done zero (costs n d inputs given is bad said) = absurd (omega (arith, zero, is))
    drill_done zero (drills n d inputs given is made) = (
      n,
      given.names,
      record { definition = d; inputs = inputs; text = text; given = given; made = made; written = written },
    )

    pub drill_one : status ≡ 1 → DrillOutcome words status text → RefusedDrill words before after
    drill_one one (refused n fault names bad is said) =
        record { size = n; fault = fault; names = names; refused = bad; written = rw said at written }
    drill_one one (no_inputs n d fault names accepted bad is said) = absurd (omega (arith, one, is))
    drill_one one (no_start n d inputs fault given is bad said) = absurd (omega (arith, one, is))
    drill_one one (costs n d inputs given is bad said) = absurd (omega (arith, one, is))
    drill_one one (drills n d inputs given is made) = absurd (omega (arith, one, is))

    pub drill_six : status ≡ 6 → DrillOutcome words status text →
        RefusedDrillInputs words before after ⊎ RefusedDrillTrigger words before after
    drill_six six (refused n fault names bad is said) = absurd (omega (arith, six, is))
    drill_six six (no_inputs n d fault names accepted bad is said) = inl (record {
      size = n;
      definition = d;
      fault = fault;
      names = names;
      accepted = accepted;
      refused = bad;
      written = rw said at written;
    })
    drill_six six (no_start n d inputs fault given is bad said) = inr (
      fault,
      record { size = n; definition = d; inputs = inputs; given = given; refused = bad; written = rw said at written },
    )
    drill_six six (costs n d inputs given is bad said) = absurd (omega (arith, six, is))
    drill_six six (drills n d inputs given is made) = absurd (omega (arith, six, is))

    pub drill_eight : status ≡ 8 → DrillOutcome words status text → RefusedDrillCost words before after
    drill_eight eight (refused n fault names bad is said) = absurd (omega (arith, eight, is))
    drill_eight eight (no_inputs n d fault names accepted bad is said) = absurd (omega (arith, eight, is))
    drill_eight eight (no_start n d inputs fault given is bad said) = absurd (omega (arith, eight, is))
    drill_eight eight (costs n d inputs given is bad said) =
        record { size = n; definition = d; inputs = inputs; given = given; refused = bad; written = rw said at written }
    drill_eight eight (drills n d inputs given is made) = absurd (omega (arith, eight, is))

  pub drill_not_seven : status ≡ 7 → DrillOutcome words status text → ⊥
  drill_not_seven seven (refused n fault names bad is said) = omega (arith, seven, is)
  drill_not_seven seven (no_inputs n d fault names accepted bad is said) = omega (arith, seven, is)
  drill_not_seven seven (no_start n d inputs fault given is bad said) = omega (arith, seven, is)
  drill_not_seven seven (costs n d inputs given is bad said) = omega (arith, seven, is)
  drill_not_seven seven (drills n d inputs given is made) = omega (arith, seven, is)
