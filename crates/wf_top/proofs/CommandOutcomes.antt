-- What the outcome of a command says of its files.
use Rattle.std.proofs.Common.{◌≡◌, ℕ, List, [], true, Option, None, Some, Result, Ok, Err, inl, inr, refl, ap, subst, sym}
use Rattle.std.specs.Prelude.{codes}
use Rattle.wf_answers.specs.Inputs.{InputsTree}
use Rattle.wf_def.specs.DefTree.{DefTree}
use Rattle.wf_outside.specs.Outside.{Held}
use Rattle.wf_history.specs.History.{ListedTree}
use Rattle.wf_top.specs.Commands.{accepted, accepted_line, defined, judged_definition, judged_history, judged_inputs, judged_schedule}
use Rattle.wf_top.specs.Commands.{judged_value, listing_text, plan, recurs, scheduled, triggered}
use Rattle.wf_files.specs.Fault.{fault_line, json_fault}
use Rattle.wf_json.specs.Read.{read_value}
use Rattle.wf_json.specs.declared.fault.JsonFault.{JsonFault}
use Rattle.wf_recur.specs.Moments.{moments_due}
use Rattle.wf_recur.specs.Reading.{recurrence_of}
use Rattle.wf_recur.specs.declared.fault.RecurrenceFault.{RecurrenceFault}
use Rattle.wf_recur.specs.declared.recurrence.Recurrence.{Recurrence}
use Rattle.wf_val.specs.ValueTree.{ValueTree}
use Rattle.wf_top.specs.Fires.{moments_text, recurrence_line, recurrence_words, trigger_in}
use Rattle.wf_files.specs.Form.{definition_form, definition_of, found, inputs_form, kept, listing_form, schedule_form, value_form}
use Rattle.wf_told.specs.Records.{runs_records}
use Rattle.wf_told.specs.Runs.{TellsRuns}
use Rattle.wf_top.specs.Limits.{definition_bytes, history_bytes, inputs_bytes}
use Rattle.wf_top.specs.Plan.{MaySay, MayGive}
use Rattle.wf_top.specs.Ran.{GivesDefinition, GivesHistory, GivesInputs, GivesNumbers, GivesSchedule, GivesValue, IsGiven}
use Rattle.wf_top.proofs.AgainOutcomes.{AgainOutcome, after_resubmit}
use Rattle.wf_top.proofs.DrillOutcomes.{DrillOutcome, after_drill}
use Rattle.wf_top.specs.Served.{number}
use Rattle.wf_top.specs.Told.{MayTell, SaysFault, too_large}
use Rattle.wf_top.specs.Trigger.{trigger_line}
use Rattle.wf_top.specs.Words.{command_of, is_traced, makes_runs, schedule_word, word}
use Rattle.wf_files.specs.declared.fault.FormFault.{FormFault}
use Rattle.wf_told.specs.declared.fault.RunsFault.{RunsFault}
use Rattle.wf_top.specs.declared.said.Verdict.{Verdict}
use Rattle.wf_top.proofs.SessionOutcomes.{SessionOutcome, after_joined}
use Rattle.wf_top.specs.Resubmit.{judged}
use Rattle.wf_top.specs.Session.{joined}
use Rattle.wf_top.specs.declared.said.Verdict.TheVariants.{Definition}
use Rattle.wf_top.specs.declared.words.Command.{Command}
use Rattle.wf_top.specs.declared.words.Command.TheVariants.{Check, Run, Trace, Resubmit, ResubmitSet, Drill, Fires, Session}
use Rattle.wf_trigger.specs.declared.fault.TriggerFault.{TriggerFault}

-- What a command may say: what was found in its files, the status and the text.
pub data CommandOutcome (held : Held) (words : List (List ℕ)) (status : ℕ) (text : List ℕ) : Type 0 where
  no_definition : (command : Command) (fault : FormFault) → GivesDefinition held words command (Err fault) → status ≡ 1 →
      text ≡ fault_line (codes "definition ") fault → CommandOutcome held words status text
  checks : (d : DefTree) → GivesDefinition held words Check (Ok d) → status ≡ 0 → text ≡ accepted_line d →
      CommandOutcome held words status text
  no_inputs : (command : Command) (d : DefTree) (fault : FormFault) → makes_runs command ≡ true →
      GivesDefinition held words command (Ok d) → GivesInputs held words (Err fault) → status ≡ 6 →
      text ≡ fault_line (codes "inputs ") fault → CommandOutcome held words status text
  no_schedule : (command : Command) (d : DefTree) (inputs : InputsTree) (fault : FormFault) → IsGiven held words command d inputs →
      GivesSchedule held words (Err fault) → status ≡ 6 → text ≡ fault_line (codes "schedule ") fault →
      CommandOutcome held words status text
  runs : (command : Command) (d : DefTree) (inputs : InputsTree) (schedule : List ℕ) → IsGiven held words command d inputs →
      GivesSchedule held words (Ok schedule) → status ≡ 0 → TellsRuns d inputs schedule (is_traced command) text →
      CommandOutcome held words status text
  no_run : (command : Command) (d : DefTree) (inputs : InputsTree) (schedule : List ℕ) (fault : TriggerFault) →
      IsGiven held words command d inputs → GivesSchedule held words (Ok schedule) → status ≡ 6 →
      runs_records d inputs ≡ Err (RunsFault.Trigger fault) → text ≡ trigger_line fault →
      CommandOutcome held words status text
  costs : (command : Command) (d : DefTree) (inputs : InputsTree) (schedule : List ℕ) → IsGiven held words command d inputs →
      GivesSchedule held words (Ok schedule) → status ≡ 8 → runs_records d inputs ≡ Err RunsFault.TooLarge → text ≡ too_large →
      CommandOutcome held words status text
  no_history : (fault : FormFault) → GivesHistory held words (Err fault) → status ≡ 7 → text ≡ fault_line (codes "history ") fault →
      CommandOutcome held words status text
  lists : (listing : List ListedTree) → GivesHistory held words (Ok listing) → status ≡ 0 → text ≡ listing_text listing →
      CommandOutcome held words status text
  fires : (from count : ℕ) (file trigger : ValueTree) (r : Recurrence) → GivesValue held words from count (Ok file) →
      trigger_in (word words 2) file ≡ Some trigger → recurrence_of trigger ≡ Ok r → status ≡ 0 →
      text ≡ moments_text (moments_due r from count) → CommandOutcome held words status text
  no_name : (from count : ℕ) (file : ValueTree) → GivesValue held words from count (Ok file) → trigger_in (word words 2) file ≡ None →
      status ≡ 6 → text ≡ recurrence_line (codes "NoTrigger") → CommandOutcome held words status text
  no_recurrence : (from count : ℕ) (file trigger : ValueTree) (fault : RecurrenceFault) → GivesValue held words from count (Ok file) →
      trigger_in (word words 2) file ≡ Some trigger → recurrence_of trigger ≡ Err fault → status ≡ 6 →
      text ≡ recurrence_line (recurrence_words fault) → CommandOutcome held words status text
  again : AgainOutcome held words status text → CommandOutcome held words status text
  drilling : DrillOutcome words status text → CommandOutcome held words status text
  before_talk : SessionOutcome held words status text → CommandOutcome held words status text

-- what is no accepted definition has no value that is kept
kept_fault : (value : ValueTree) (d : Result DefTree FormFault) (fault : FormFault) → kept value d ≡ Err fault → d ≡ Err fault
kept_fault value (Ok d) fault is = absurd cc
kept_fault value (Err other) fault is = cc

read_fault : (read : Result ValueTree JsonFault) (fault : FormFault) →
    found (λ value. kept value (definition_of value)) read ≡ Err fault → found definition_of read ≡ Err fault
read_fault (Ok value) fault is = kept_fault value (definition_of value) fault is
read_fault (Err other) fault is = let same : json_fault other ≡ fault = cc in ap Err same

value_fault : (file : Option (List ℕ)) (fault : FormFault) → value_form file ≡ Err fault → definition_form file ≡ Err fault
value_fault None fault is = let same : FormFault.TooLong ≡ fault = cc in ap Err same
value_fault (Some bytes) fault is = read_fault (read_value bytes) fault is

module _ (held : Held) (words : List (List ℕ)) (verdict : Verdict) (text : List ℕ) where
  abbrev Ends : Type 0
  Ends = CommandOutcome held words (number verdict) text

  module _ (command : Command) (d : DefTree) where
    after_fault : (inputs : InputsTree) (schedule : List ℕ) → IsGiven held words command d inputs → GivesSchedule held words (Ok schedule) →
        (fault : RunsFault) → runs_records d inputs ≡ Err fault → SaysFault fault verdict text → Ends
    after_fault inputs schedule given timed (RunsFault.Trigger fault) is saying =
        no_run command d inputs schedule fault given timed (ap number saying.0) is saying.1
    after_fault inputs schedule given timed RunsFault.TooLarge is saying =
        costs command d inputs schedule given timed (ap number saying.0) is saying.1
    after_fault inputs schedule given timed RunsFault.Memory is saying = absurd saying

    after_runs : (inputs : InputsTree) (schedule : List ℕ) → IsGiven held words command d inputs → GivesSchedule held words (Ok schedule) →
        MayTell (is_traced command) d inputs schedule verdict text → Ends
    after_runs inputs schedule given timed saying = elim saying [
      | inl told ↦ runs command d inputs schedule given timed (ap number told.0) told.1
      | inr none ↦ after_fault inputs schedule given timed none.0 none.1 none.2
    ]

    after_schedule : (inputs : InputsTree) → IsGiven held words command d inputs → (form : Result (List ℕ) FormFault) →
        GivesSchedule held words form → MaySay held (judged_schedule (is_traced command) d inputs form) verdict text → Ends
    after_schedule inputs given (Ok schedule) timed saying = after_runs inputs schedule given timed saying
    after_schedule inputs given (Err fault) timed saying = no_schedule command d inputs fault given timed (ap number saying.0) saying.1

    -- the runs are made under the schedule of a file, or under the empty one
    after_under : (inputs : InputsTree) → IsGiven held words command d inputs → (named : Option (List ℕ)) → schedule_word words ≡ named →
        MaySay held (scheduled (is_traced command) named d inputs) verdict text → Ends
    after_under inputs given None is saying =
        after_schedule inputs given (Ok []) (subst (λ named. GivesNumbers held named (Ok [])) (sym is) refl) saying
    after_under inputs given (Some name) is (file, may, saying) =
        after_schedule inputs given (schedule_form file)
        (subst (λ named. GivesNumbers held named (schedule_form file)) (sym is) (file, may, refl)) saying

    after_inputs : makes_runs command ≡ true → GivesDefinition held words command (Ok d) → (file : Option (List ℕ)) →
        MayGive held (word words 2) inputs_bytes file → (form : Result InputsTree FormFault) → inputs_form file ≡ form →
        MaySay held (judged_inputs (is_traced command) (schedule_word words) d form) verdict text → Ends
    after_inputs makes given file may (Ok inputs) is saying =
        after_under inputs (record { makes = makes; definition_given = given; inputs_given = (file, may, is) })
        (schedule_word words) refl saying
    after_inputs makes given file may (Err fault) is saying =
        no_inputs command d fault makes given (file, may, is) (ap number saying.0) saying.1

  -- the commands that have a second file, or end with the definition
  abbrev IsDefined : Command → Type 0
  IsDefined (Fires from count) = ⊥
  IsDefined Command.List = ⊥
  IsDefined (Drill n) = ⊥
  IsDefined Session = ⊥
  IsDefined command = Unit {0}

  after_accepted : (command : Command) (d : DefTree) → IsDefined command → GivesDefinition held words command (Ok d) →
      MaySay held (accepted command words d) verdict text → Ends
  after_accepted Check d ends given saying = checks d given (ap number saying.0) saying.1
  after_accepted (Fires from count) d ends given saying = absurd ends
  after_accepted Command.List d ends given saying = absurd ends
  after_accepted (Drill n) d ends given saying = absurd ends
  after_accepted Session d ends given saying = absurd ends
  after_accepted Run d ends given saying = after_inputs Run d refl given saying.0 saying.1 (inputs_form saying.0) refl saying.2
  after_accepted Resubmit d ends given saying = again (after_resubmit held words verdict text Resubmit refl d given saying)
  after_accepted ResubmitSet d ends given saying = again (after_resubmit held words verdict text ResubmitSet refl d given saying)
  after_accepted Trace d ends given saying = after_inputs Trace d refl given saying.0 saying.1 (inputs_form saying.0) refl saying.2

  after_definition : (command : Command) → IsDefined command → command_of words ≡ Some command → (file : Option (List ℕ)) →
      MayGive held (word words 1) definition_bytes file → (form : Result DefTree FormFault) → definition_form file ≡ form →
      MaySay held (judged_definition command words form) verdict text → Ends
  after_definition command ends names file may (Ok d) is saying = after_accepted command d ends (names, (file, may, is)) saying
  after_definition command ends names file may (Err fault) is saying =
      no_definition command fault (names, (file, may, is)) (ap number saying.0) saying.1

  command_defined : (command : Command) → IsDefined command → command_of words ≡ Some command →
      MaySay held (defined (word words 1) command words) verdict text → Ends
  command_defined command ends names saying =
      after_definition command ends names saying.0 saying.1 (definition_form saying.0) refl saying.2

  module _ (from count : ℕ) (file : ValueTree) (given : GivesValue held words from count (Ok file)) where
    after_read : (trigger : ValueTree) → trigger_in (word words 2) file ≡ Some trigger → (read : Result Recurrence RecurrenceFault) →
        recurrence_of trigger ≡ read → MaySay held (recurs from count read) verdict text → Ends
    after_read trigger has (Ok r) is saying = fires from count file trigger r given has is (ap number saying.0) saying.1
    after_read trigger has (Err fault) is saying = no_recurrence from count file trigger fault given has is (ap number saying.0) saying.1

    after_trigger : (trigger : Option ValueTree) → trigger_in (word words 2) file ≡ trigger →
        MaySay held (triggered from count trigger) verdict text → Ends
    after_trigger (Some trigger) has saying = after_read trigger has (recurrence_of trigger) refl saying
    after_trigger None has saying = no_name from count file given has (ap number saying.0) saying.1

  after_value : (from count : ℕ) → command_of words ≡ Some (Fires from count) → (file : Option (List ℕ)) →
      MayGive held (word words 1) definition_bytes file → (form : Result ValueTree FormFault) → value_form file ≡ form →
      MaySay held (judged_value (word words 2) from count form) verdict text → Ends
  after_value from count names file may (Ok value) is saying =
      after_trigger from count value (names, (file, may, is)) (trigger_in (word words 2) value) refl saying
  after_value from count names file may (Err fault) is saying =
      no_definition (Fires from count) fault (names, (file, may, value_fault file fault is)) (ap number saying.0) saying.1

  after_history : command_of words ≡ Some Command.List → (file : Option (List ℕ)) → MayGive held (word words 1) history_bytes file →
      (form : Result (List ListedTree) FormFault) → listing_form file ≡ form → MaySay held (judged_history form) verdict text → Ends
  after_history names file may (Ok listing) is saying = lists listing (names, (file, may, is)) (ap number saying.0) saying.1
  after_history names file may (Err fault) is saying = no_history fault (names, (file, may, is)) (ap number saying.0) saying.1

  after_session : command_of words ≡ Some Session → (file : Option (List ℕ)) → MayGive held (word words 1) definition_bytes file →
      (form : Result DefTree FormFault) → definition_form file ≡ form →
      MaySay held (judged Definition (codes "definition ") (joined (word words 2)) form) verdict text → Ends
  after_session names file may (Ok d) is saying = before_talk (after_joined held words verdict text d (names, (file, may, is)) saying)
  after_session names file may (Err fault) is saying =
      no_definition Session fault (names, (file, may, is)) (ap number saying.0) saying.1

  pub command_comes : (command : Command) → command_of words ≡ Some command → MaySay held (plan command words) verdict text → Ends
  unfolding plan
  command_comes Check names saying = command_defined Check tt names saying
  command_comes Run names saying = command_defined Run tt names saying
  command_comes Trace names saying = command_defined Trace tt names saying
  command_comes Resubmit names saying = command_defined Resubmit tt names saying
  command_comes ResubmitSet names saying = command_defined ResubmitSet tt names saying
  command_comes (Drill n) names saying = drilling (after_drill held words verdict text n names saying)
  command_comes (Fires from count) names saying =
      after_value from count names saying.0 saying.1 (value_form saying.0) refl saying.2
  command_comes Session names saying = after_session names saying.0 saying.1 (definition_form saying.0) refl saying.2
  command_comes Command.List names saying = after_history names saying.0 saying.1 (listing_form saying.0) refl saying.2
