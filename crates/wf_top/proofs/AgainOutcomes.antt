-- What the outcome of a command that resubmits says of its files.
use Rattle.std.proofs.Common.{◌≡◌, ◌⊎◌, ℕ, List, [], true, Option, None, Some, Result, Ok, Err, inl, inr, refl, ap, subst, sym}
use Rattle.std.proofs.Common.{arith}
use Rattle.std.specs.Prelude.{codes}
use Rattle.std.specs.Io.KnownBytes.{Appends}
use Rattle.wf_answers.specs.Inputs.{InputsTree}
use Rattle.wf_def.specs.DefTree.{DefTree}
use Rattle.wf_files.specs.Fault.{fault_line}
use Rattle.wf_files.specs.Form.{history_form, inputs_form, schedule_form}
use Rattle.wf_files.specs.declared.fault.FindFault.{FindFault}
use Rattle.wf_files.specs.declared.fault.FormFault.{FormFault}
use Rattle.wf_outside.specs.Outside.{Held}
use Rattle.wf_record.specs.Record.{RecordTree}
use Rattle.wf_resubmit.specs.declared.fault.ResubmitFault.{ResubmitFault}
use Rattle.wf_told.specs.Resubmissions.{IsNotResubmitted, TellsResubmission}
use Rattle.wf_told.specs.declared.fault.ResubmissionFault.{ResubmissionFault}
use Rattle.wf_top.specs.Limits.{history_bytes, inputs_bytes}
use Rattle.wf_top.specs.Plan.{MayGive, MaySay}
use Rattle.wf_top.specs.Ran.{GivesDefinition, GivesNumbers}
use Rattle.wf_top.specs.Refusal.{find_line, refusal_line}
use Rattle.wf_top.specs.Resubmit.{judged, remade, remade_under, remade_with, resubmit}
use Rattle.wf_top.specs.Resubmitted.{GivesAnswers, GivesLog, GivesTimes, HasAnswers, HasLog, HasTimes, RefusedAnswers, RefusedLog}
use Rattle.wf_top.specs.Resubmitted.{RefusedNames, RefusedNewCost, RefusedRun, RefusedTimes, Resubmitted}
use Rattle.wf_top.specs.Served.{number}
use Rattle.wf_top.specs.Told.{SaysRefusal, too_large}
use Rattle.wf_top.specs.Words.{AskedTree, asked_of, command_of, resubmits}
use Rattle.wf_top.specs.declared.said.Verdict.{Verdict}
use Rattle.wf_top.specs.declared.said.Verdict.TheVariants.{History, Inputs}
use Rattle.wf_top.specs.declared.words.Command.{Command}

-- What such a command may say: what was found in its files, the status and the text.
pub data AgainOutcome (held : Held) (words : List (List ℕ)) (status : ℕ) (text : List ℕ) : Type 0 where
  no_log : (command : Command) (d : DefTree) (fault : FormFault) → resubmits command ≡ true → GivesDefinition held words command (Ok d) →
      GivesLog held (asked_of command words) (Err fault) → status ≡ 7 → text ≡ fault_line (codes "history ") fault →
      AgainOutcome held words status text
  no_answers : (command : Command) (d : DefTree) (found : Result RecordTree FindFault) (fault : FormFault) →
      HasLog held words command d found → GivesAnswers held (asked_of command words) (Err fault) → status ≡ 6 →
      text ≡ fault_line (codes "inputs ") fault → AgainOutcome held words status text
  no_times : (command : Command) (d : DefTree) (found : Result RecordTree FindFault) (inputs : InputsTree) (fault : FormFault) →
      HasAnswers held words command d found inputs → GivesTimes held (asked_of command words) (Err fault) → status ≡ 6 →
      text ≡ fault_line (codes "schedule ") fault → AgainOutcome held words status text
  no_run : (command : Command) (d : DefTree) (fault : FindFault) (inputs : InputsTree) (schedule : List ℕ) →
      HasTimes held words command d (Err fault) inputs schedule → status ≡ 7 → text ≡ find_line fault →
      AgainOutcome held words status text
  not_again : (command : Command) (d : DefTree) (log : RecordTree) (inputs : InputsTree) (schedule : List ℕ) (fault : ResubmitFault) →
      HasTimes held words command d (Ok log) inputs schedule → status ≡ 7 →
      IsNotResubmitted d log (asked_of command words).names inputs (ResubmissionFault.Refused fault) → text ≡ refusal_line fault →
      AgainOutcome held words status text
  costs_again : (command : Command) (d : DefTree) (log : RecordTree) (inputs : InputsTree) (schedule : List ℕ) →
      HasTimes held words command d (Ok log) inputs schedule → status ≡ 8 →
      IsNotResubmitted d log (asked_of command words).names inputs ResubmissionFault.TooLarge → text ≡ too_large →
      AgainOutcome held words status text
  remakes : (command : Command) (d : DefTree) (log : RecordTree) (inputs : InputsTree) (schedule : List ℕ) →
      HasTimes held words command d (Ok log) inputs schedule → status ≡ 0 →
      TellsResubmission d log (asked_of command words).names inputs schedule text → AgainOutcome held words status text

-- ---- what the plan comes to

module _ (held : Held) (words : List (List ℕ)) (verdict : Verdict) (text : List ℕ) where
  abbrev Ends : Type 0
  Ends = AgainOutcome held words (number verdict) text

  module _ (command : Command) (again : resubmits command ≡ true) (d : DefTree) (given : GivesDefinition held words command (Ok d)) where
    abbrev asked : AskedTree
    asked = asked_of command words

    after_refusal : (log : RecordTree) (inputs : InputsTree) (schedule : List ℕ) → HasTimes held words command d (Ok log) inputs schedule →
        (fault : ResubmissionFault) → IsNotResubmitted d log asked.names inputs fault → SaysRefusal fault verdict text → Ends
    after_refusal log inputs schedule timed (ResubmissionFault.Refused fault) is saying =
        not_again command d log inputs schedule fault timed (ap number saying.0) is saying.1
    after_refusal log inputs schedule timed ResubmissionFault.TooLarge is saying =
        costs_again command d log inputs schedule timed (ap number saying.0) is saying.1
    after_refusal log inputs schedule timed ResubmissionFault.Memory is saying = absurd saying

    after_remade : (found : Result RecordTree FindFault) (inputs : InputsTree) (schedule : List ℕ) →
        HasTimes held words command d found inputs schedule → MaySay held (remade asked d inputs schedule found) verdict text → Ends
    after_remade (Ok log) inputs schedule timed saying = elim saying [
      | inl told ↦ remakes command d log inputs schedule timed (ap number told.0) told.1
      | inr none ↦ after_refusal log inputs schedule timed none.0 none.1 none.2
    ]
    after_remade (Err fault) inputs schedule timed saying =
        no_run command d fault inputs schedule timed (ap number saying.0) saying.1

    module _ (found : Result RecordTree FindFault) where
      after_times : (inputs : InputsTree) → HasAnswers held words command d found inputs → (form : Result (List ℕ) FormFault) →
          GivesTimes held asked form →
          MaySay held (judged Inputs (codes "schedule ") (λ numbers. remade asked d inputs numbers found) form) verdict text → Ends
      after_times inputs answered (Ok schedule) times saying =
          after_remade found inputs schedule (record { answers = answered; times_given = times }) saying
      after_times inputs answered (Err fault) times saying =
          no_times command d found inputs fault answered times (ap number saying.0) saying.1

      after_under : (inputs : InputsTree) → HasAnswers held words command d found inputs → (named : Option (List ℕ)) →
          asked.schedule ≡ named → MaySay held (remade_under asked d named found inputs) verdict text → Ends
      after_under inputs answered None is saying =
          after_times inputs answered (Ok []) (subst (λ named. GivesNumbers held named (Ok [])) (sym is) refl) saying
      after_under inputs answered (Some name) is (file, may, saying) =
          after_times inputs answered (schedule_form file)
          (subst (λ named. GivesNumbers held named (schedule_form file)) (sym is) (file, may, refl)) saying

      after_answers : HasLog held words command d found → (file : Option (List ℕ)) → MayGive held asked.inputs inputs_bytes file →
          (form : Result InputsTree FormFault) → inputs_form file ≡ form →
          MaySay held (judged Inputs (codes "inputs ") (remade_under asked d asked.schedule found) form) verdict text → Ends
      after_answers logged file may (Ok inputs) is saying =
          after_under inputs (record { log = logged; answers_given = (file, may, is) }) asked.schedule refl saying
      after_answers logged file may (Err fault) is saying =
          no_answers command d found fault logged (file, may, is) (ap number saying.0) saying.1

    after_log : (file : Option (List ℕ)) → MayGive held asked.history history_bytes file →
        (form : Result (Result RecordTree FindFault) FormFault) → history_form asked.run file ≡ form →
        MaySay held (judged History (codes "history ") (remade_with asked d) form) verdict text → Ends
    after_log file may (Ok found) is (inputs, handed, saying) =
        after_answers found (record { again = again; definition_given = given; log_given = (file, may, is) }) inputs handed
        (inputs_form inputs) refl saying
    after_log file may (Err fault) is saying =
        no_log command d fault again given (file, may, is) (ap number saying.0) saying.1

    pub after_resubmit : MaySay held (resubmit asked d) verdict text → Ends
    after_resubmit saying = after_log saying.0 saying.1 (history_form asked.run saying.0) refl saying.2

-- ---- what the status says

module _ (held : Held) (words : List (List ℕ)) (before after : Option (List ℕ)) where
  log_command : (status : ℕ) (text : List ℕ) → AgainOutcome held words status text →
      (command : Command) × (d : DefTree) × (resubmits command ≡ true) × GivesDefinition held words command (Ok d)
  log_command status text (no_log command d fault again given logged is said) = (command, d, again, given)
  log_command status text (no_answers command d found fault log answered is said) = (command, d, log.again, log.definition_given)
  log_command status text (no_times command d found inputs fault answers timed is said) =
      (command, d, answers.log.again, answers.log.definition_given)
  log_command status text (no_run command d fault inputs schedule given is said) =
      (command, d, given.answers.log.again, given.answers.log.definition_given)
  log_command status text (not_again command d log inputs schedule fault given is made said) =
      (command, d, given.answers.log.again, given.answers.log.definition_given)
  log_command status text (costs_again command d log inputs schedule given is made said) =
      (command, d, given.answers.log.again, given.answers.log.definition_given)
  log_command status text (remakes command d log inputs schedule given is made) =
      (command, d, given.answers.log.again, given.answers.log.definition_given)

  -- the words are a command that resubmits
  pub again_names : (status : ℕ) (text : List ℕ) → AgainOutcome held words status text →
      (command : Command) × (resubmits command ≡ true) × (command_of words ≡ Some command)
  again_names status text outcome = let f = log_command status text outcome in (f.0, f.2, f.3.0)

  pub again_not_one : (text : List ℕ) → (status : ℕ) → AgainOutcome held words status text → status ≡ 1 → ⊥
  again_not_one text status (no_log command d fault again given logged is said) one = omega (arith, one, is)
  again_not_one text status (no_answers command d found fault log answered is said) one = omega (arith, one, is)
  again_not_one text status (no_times command d found inputs fault answers timed is said) one = omega (arith, one, is)
  again_not_one text status (no_run command d fault inputs schedule given is said) one = omega (arith, one, is)
  again_not_one text status (not_again command d log inputs schedule fault given is made said) one = omega (arith, one, is)
  again_not_one text status (costs_again command d log inputs schedule given is made said) one = omega (arith, one, is)
  again_not_one text status (remakes command d log inputs schedule given is made) one = omega (arith, one, is)

  pub again_done : (text : List ℕ) → Appends before after text → (status : ℕ) → AgainOutcome held words status text → status ≡ 0 →
      (command : Command) × (command_of words ≡ Some command) × Resubmitted held words command before after
  again_done text written status (no_log command d fault again given logged is said) zero = absurd (omega (arith, zero, is))
  again_done text written status (no_answers command d found fault log answered is said) zero = absurd (omega (arith, zero, is))
  again_done text written status (no_times command d found inputs fault answers timed is said) zero = absurd (omega (arith, zero, is))
  again_done text written status (no_run command d fault inputs schedule given is said) zero = absurd (omega (arith, zero, is))
  again_done text written status (not_again command d log inputs schedule fault given is made said) zero = absurd (omega (arith, zero, is))
  again_done text written status (costs_again command d log inputs schedule given is made said) zero = absurd (omega (arith, zero, is))
  again_done text written status (remakes command d log inputs schedule given is made) zero = (
    command,
    given.answers.log.definition_given.0,
    record {
      definition = d;
      log = log;
      inputs = inputs;
      schedule = schedule;
      text = text;
      given = given;
      made = made;
      written = written;
    },
  )

  abbrev pub AgainSix : Type 0
  AgainSix = RefusedAnswers held words before after ⊎ RefusedTimes held words before after

  pub again_six : (text : List ℕ) → Appends before after text → (status : ℕ) → AgainOutcome held words status text → status ≡ 6 → AgainSix
  again_six text written status (no_log command d fault again given logged is said) six = absurd (omega (arith, six, is))
  again_six text written status (no_answers command d found fault log answered is said) six = inl (record {
    command = command;
    definition = d;
    found = found;
    fault = fault;
    log = log;
    answers_given = answered;
    written = rw said at written;
  })
  again_six text written status (no_times command d found inputs fault answers timed is said) six = inr (record {
    command = command;
    definition = d;
    found = found;
    inputs = inputs;
    fault = fault;
    answers = answers;
    times_given = timed;
    written = rw said at written;
  })
  again_six text written status (no_run command d fault inputs schedule given is said) six = absurd (omega (arith, six, is))
  again_six text written status (not_again command d log inputs schedule fault given is made said) six = absurd (omega (arith, six, is))
  again_six text written status (costs_again command d log inputs schedule given is made said) six = absurd (omega (arith, six, is))
  again_six text written status (remakes command d log inputs schedule given is made) six = absurd (omega (arith, six, is))

  abbrev pub AgainSeven : Type 0
  AgainSeven =
      RefusedLog held words before after ⊎ (RefusedRun held words before after ⊎ RefusedNames held words before after)

  pub again_seven : (text : List ℕ) → Appends before after text → (status : ℕ) → AgainOutcome held words status text → status ≡ 7 →
      AgainSeven
  again_seven text written status (no_log command d fault again given logged is said) seven = inl (record {
    command = command;
    definition = d;
    fault = fault;
    again = again;
    definition_given = given;
    log_given = logged;
    written = rw said at written;
  })
  again_seven text written status (no_answers command d found fault log answered is said) seven = absurd (omega (arith, seven, is))
  again_seven text written status (no_times command d found inputs fault answers timed is said) seven = absurd (omega (arith, seven, is))
  again_seven text written status (no_run command d fault inputs schedule given is said) seven = inr (inl (record {
    command = command;
    definition = d;
    fault = fault;
    inputs = inputs;
    schedule = schedule;
    given = given;
    written = rw said at written;
  }))
  again_seven text written status (not_again command d log inputs schedule fault given is made said) seven = inr (inr (
    fault,
    record {
      command = command;
      definition = d;
      log = log;
      inputs = inputs;
      schedule = schedule;
      given = given;
      not_made = made;
      written = rw said at written;
    },
  ))
  again_seven text written status (costs_again command d log inputs schedule given is made said) seven =
      absurd (omega (arith, seven, is))
  again_seven text written status (remakes command d log inputs schedule given is made) seven = absurd (omega (arith, seven, is))

  pub again_eight : (text : List ℕ) → Appends before after text → (status : ℕ) → AgainOutcome held words status text → status ≡ 8 →
      RefusedNewCost held words before after
  again_eight text written status (no_log command d fault again given logged is said) eight = absurd (omega (arith, eight, is))
  again_eight text written status (no_answers command d found fault log answered is said) eight = absurd (omega (arith, eight, is))
  again_eight text written status (no_times command d found inputs fault answers timed is said) eight = absurd (omega (arith, eight, is))
  again_eight text written status (no_run command d fault inputs schedule given is said) eight = absurd (omega (arith, eight, is))
  again_eight text written status (not_again command d log inputs schedule fault given is made said) eight =
      absurd (omega (arith, eight, is))
  again_eight text written status (costs_again command d log inputs schedule given is made said) eight = record {
    command = command;
    definition = d;
    log = log;
    inputs = inputs;
    schedule = schedule;
    given = given;
    not_made = made;
    written = rw said at written;
  }
  again_eight text written status (remakes command d log inputs schedule given is made) eight = absurd (omega (arith, eight, is))
