-- What words say over files that tell is one thing, where the definition that they hold was read.
use Rattle.std.proofs.Common.{◌≡◌, ◌≤◌, ℕ, List, [], ◌∷◌, Bool, Option, None, Some, Result, Ok, Err, inl, inr, refl, ap, subst, sym, ◌∙◌}
use Rattle.std.specs.Prelude.{codes}
use Rattle.std.specs.Option.{option_map}
use Rattle.wf_answers.specs.Inputs.{InputsTree}
use Rattle.wf_def.specs.DefTree.{DefTree}
use Rattle.wf_history.specs.History.{ListedTree}
use Rattle.wf_json.specs.Read.{read_value}
use Rattle.wf_json.specs.declared.fault.JsonFault.{JsonFault}
use Rattle.wf_told.specs.Resubmissions.{IsNotResubmitted, TellsResubmission}
use Rattle.wf_told.specs.Runs.{TellsRuns}
use Rattle.wf_told.specs.declared.fault.ResubmissionFault.{ResubmissionFault}
use Rattle.wf_told.specs.declared.fault.RunsFault.{RunsFault}
use Rattle.wf_reading.specs.Meant as read
use Rattle.wf_reading.specs.Read.{IsRead}
use Rattle.wf_reading.specs.ReadSeen.{fault_in}
use Rattle.wf_reading.specs.declared.definition.RuleFault.{RuleFault}
use Rattle.wf_recur.specs.Reading.{recurrence_of}
use Rattle.wf_recur.specs.declared.fault.RecurrenceFault.{RecurrenceFault}
use Rattle.wf_recur.specs.declared.recurrence.Recurrence.{Recurrence}
use Rattle.wf_files.specs.Broken.{broken_of}
use Rattle.wf_val.specs.ValueTree.{ValueTree}
use Rattle.wf_top.specs.Commands.{accepted, defined, judged_definition, judged_history, judged_inputs, judged_schedule, judged_value, plan}
use Rattle.wf_top.specs.Commands.{recurs, scheduled, triggered}
use Rattle.wf_drill.specs.Drill.{drill_definition, drill_inputs}
use Rattle.wf_told.specs.Measured.{IsMeasured}
use Rattle.wf_told.specs.Records.{runs_records, starts_of}
use Rattle.wf_told.specs.declared.measure.Measure.{Measure}
use Rattle.wf_val.specs.WellFormed.{IsWellFormed}
use Rattle.wf_top.proofs.DrillLemmas.{was_read}
use Rattle.wf_top.proofs.LengthLemmas.{drill_size}
use Rattle.wf_top.specs.Drill.{drilled_by, drilled_with}
use Rattle.wf_top.specs.Drilling.{MayTellDrill, TellsDrill, drill_line}
use Rattle.wf_top.specs.Fires.{trigger_in}
use Rattle.wf_files.specs.Form.{broken_in, checked, definition_form, definition_of, formed, found, inputs_form, inputs_of, listing_form}
use Rattle.wf_files.specs.Form.{history_form, schedule_form, value_form}
use Rattle.wf_files.specs.declared.fault.FindFault.{FindFault}
use Rattle.wf_record.specs.Record.{RecordTree}
use Rattle.wf_top.specs.Limits.{definition_bytes}
use Rattle.wf_top.specs.Plan.{Plan, Says, Reads, Makes, Remakes, Drills, Talks, MaySay, within}
use Rattle.wf_top.specs.Ran.{HoldsDefinition}
use Rattle.wf_top.specs.Resubmit.{judged, remade, remade_under, remade_with, resubmit}
use Rattle.wf_top.specs.Served.{PlanSays, Say, number}
use Rattle.wf_top.specs.Session.{joined, session, started}
use Rattle.wf_trigger.specs.Starts.{StartTree}
use Rattle.wf_trigger.specs.declared.fault.TriggerFault.{TriggerFault}
use Rattle.wf_top.specs.Told.{MayTell, MayTellAgain, SaysFault, SaysRefusal}
use Rattle.wf_top.specs.Words.{AskedTree, command_of, is_traced, one_asked, schedule_word, set_asked, word}
use Rattle.wf_top.proofs.Completeness.{read_on}
use Rattle.wf_files.specs.declared.fault.FormFault.{FormFault}
use Rattle.wf_top.specs.declared.said.Verdict.{Verdict}
use Rattle.wf_top.specs.declared.said.Verdict.TheVariants.{Definition, History, Inputs}
use Rattle.wf_top.specs.declared.words.Command.{Command}
use Rattle.wf_top.specs.declared.words.Command.TheVariants.{Check, Run, Trace, Resubmit, ResubmitSet, Drill, Fires, Session}

-- ---- an accepted definition breaks no rule

checked_unbroken : (d : DefTree) (fault : Option RuleFault) → broken_in d ≡ fault → (taken : DefTree) → checked d fault ≡ Ok taken →
    broken_in taken ≡ None
checked_unbroken d (Some fault) broken taken is = absurd cc
checked_unbroken d None broken taken is = let same : d ≡ taken = cc in subst (λ x. broken_in x ≡ None) same broken

formed_unbroken : (value : ValueTree) (fault : Option RuleFault) (d : DefTree) → formed value fault ≡ Ok d → broken_in d ≡ None
formed_unbroken value (Some fault) d is = absurd cc
formed_unbroken value None d is = checked_unbroken (read.definition_of value) (broken_in (read.definition_of value)) refl d is

found_unbroken : (json : Result ValueTree JsonFault) (d : DefTree) → found definition_of json ≡ Ok d → broken_in d ≡ None
found_unbroken (Ok value) d is = formed_unbroken value (fault_in value) d is
found_unbroken (Err fault) d is = absurd cc

form_unbroken : (file : Option (List ℕ)) (d : DefTree) → definition_form file ≡ Ok d → broken_in d ≡ None
form_unbroken None d is = absurd cc
form_unbroken (Some bytes) d is = found_unbroken (read_value bytes) d is

-- ---- what is said of runs

abbrev pub OneTextIsTold : Type 0
OneTextIsTold =
    (d : DefTree) → IsRead d → broken_of d ≡ None → (i : InputsTree) (schedule : List ℕ) (traced : Bool) (text other : List ℕ)
    → TellsRuns d i schedule traced text → TellsRuns d i schedule traced other → text ≡ other

fault_alike : (fault : RunsFault) (v w : Verdict) (text other : List ℕ) → SaysFault fault v text → SaysFault fault w other →
    (v ≡ w) × (text ≡ other)
fault_alike (RunsFault.Trigger fault) v w text other first second = (first.0 ∙ sym second.0, first.1 ∙ sym second.1)
fault_alike RunsFault.TooLarge v w text other first second = (first.0 ∙ sym second.0, first.1 ∙ sym second.1)
fault_alike RunsFault.Memory v w text other first second = absurd first

pub told_alike : OneTextIsTold → (d : DefTree) → IsRead d → broken_of d ≡ None → (traced : Bool) (i : InputsTree) (schedule : List ℕ)
    (v w : Verdict) (text other : List ℕ) → MayTell traced d i schedule v text → MayTell traced d i schedule w other →
    (v ≡ w) × (text ≡ other)
told_alike one d was unbroken traced i schedule v w text other first second = elim first [
  | inl told ↦ elim second [
    | inl again ↦ (told.0 ∙ sym again.0, one d was unbroken i schedule traced text other told.1 again.1)
    | inr none ↦ absurd (let e = sym told.1.records ∙ none.1 in cc)
  ]
  | inr none ↦ elim second [
    | inl told ↦ absurd (let e = sym told.1.records ∙ none.1 in cc)
    | inr again ↦
        let e : Err none.0 ≡ Err again.0 = sym none.1 ∙ again.1 in
        let same : none.0 ≡ again.0 = cc in
        fault_alike again.0 v w text other (subst (λ fault. SaysFault fault v text) same none.2) again.2
  ]
]

-- ---- what is said of a resubmission

abbrev pub OneResubmissionIsTold : Type 0
OneResubmissionIsTold =
    (d : DefTree) → IsRead d → broken_of d ≡ None → (r : RecordTree) (names : List (List ℕ)) (i : InputsTree) (schedule text other : List ℕ)
    → TellsResubmission d r names i schedule text → TellsResubmission d r names i schedule other → text ≡ other

abbrev pub OneReason : Type 0
OneReason =
    (d : DefTree) (r : RecordTree) (names : List (List ℕ)) (i : InputsTree) (f g : ResubmissionFault) → IsNotResubmitted d r names i f
    → IsNotResubmitted d r names i g → f ≡ g

abbrev pub NoReasonBeside : Type 0
NoReasonBeside =
    (d : DefTree) (r : RecordTree) (names : List (List ℕ)) (i : InputsTree) (schedule text : List ℕ) (f : ResubmissionFault)
    → TellsResubmission d r names i schedule text → IsNotResubmitted d r names i f → ⊥

-- what is known of resubmissions
pub record AreOneThing : Type 0 where
  pub text : OneResubmissionIsTold
  pub reason : OneReason
  pub beside : NoReasonBeside

refusal_alike : (fault : ResubmissionFault) (v w : Verdict) (text other : List ℕ) → SaysRefusal fault v text → SaysRefusal fault w other →
    (v ≡ w) × (text ≡ other)
refusal_alike (ResubmissionFault.Refused fault) v w text other first second = (first.0 ∙ sym second.0, first.1 ∙ sym second.1)
refusal_alike ResubmissionFault.TooLarge v w text other first second = (first.0 ∙ sym second.0, first.1 ∙ sym second.1)
refusal_alike ResubmissionFault.Memory v w text other first second = absurd first

pub told_again_alike : AreOneThing → (d : DefTree) → IsRead d → broken_of d ≡ None → (r : RecordTree) (names : List (List ℕ)) (i : InputsTree)
    (schedule : List ℕ) (v w : Verdict) (text other : List ℕ) → MayTellAgain d r names i schedule v text →
    MayTellAgain d r names i schedule w other → (v ≡ w) × (text ≡ other)
told_again_alike one d was unbroken r names i schedule v w text other first second = elim first [
  | inl told ↦ elim second [
    | inl again ↦ (told.0 ∙ sym again.0, one.text d was unbroken r names i schedule text other told.1 again.1)
    | inr none ↦ absurd (one.beside d r names i schedule text none.0 told.1 none.1)
  ]
  | inr none ↦ elim second [
    | inl told ↦ absurd (one.beside d r names i schedule other none.0 told.1 none.1)
    | inr again ↦
        let same : none.0 ≡ again.0 = one.reason d r names i none.0 again.0 none.1 again.1 in
        refusal_alike again.0 v w text other (subst (λ fault. SaysRefusal fault v text) same none.2) again.2
  ]
]

-- ---- what is said of a drill

abbrev pub OneMeasureIsTold : Type 0
OneMeasureIsTold =
    (d : DefTree) → IsRead d → broken_of d ≡ None → (i : InputsTree) (schedule : List ℕ) (m n : Measure) → IsMeasured d i schedule m
    → IsMeasured d i schedule n → m ≡ n

abbrev pub NoFaultBeside : Type 0
NoFaultBeside =
    (d : DefTree) (i : InputsTree) (schedule : List ℕ) (m : Measure) (f : RunsFault) → IsMeasured d i schedule m
    → runs_records d i ≡ Err f → ⊥

-- what is known of figures
pub record FiguresAreOne : Type 0 where
  pub one : OneMeasureIsTold
  pub beside : NoFaultBeside

one_line : FiguresAreOne → (n : ℕ) (d : DefTree) → IsRead d → broken_of d ≡ None → (i : InputsTree) (text other : List ℕ)
    → TellsDrill n d i text → TellsDrill n d i other → text ≡ other
one_line figures n d was unbroken i text other first second =
    let plain : first.plain ≡ second.plain = figures.one d was unbroken i _ _ _ first.plain_is second.plain_is in
    let middle : first.second ≡ second.second = figures.one d was unbroken i _ _ _ first.second_is second.second_is in
    let last : first.third ≡ second.third = figures.one d was unbroken i _ _ _ first.third_is second.third_is in
    first.text_is
    ∙ ap (λ m. drill_line n m first.second.peak first.third.peak) plain
    ∙ ap (λ m. drill_line n second.plain m.peak first.third.peak) middle
    ∙ ap (λ m. drill_line n second.plain second.second.peak m.peak) last
    ∙ sym second.text_is

pub drill_alike : FiguresAreOne → (n : ℕ) (d : DefTree) → IsRead d → broken_of d ≡ None → (i : InputsTree) (v w : Verdict)
    (text other : List ℕ) → MayTellDrill n d i v text → MayTellDrill n d i w other → (v ≡ w) × (text ≡ other)
drill_alike figures n d was unbroken i v w text other first second = elim first [
  | inl told ↦ elim second [
    | inl again ↦ (told.0 ∙ sym again.0, one_line figures n d was unbroken i text other told.1 again.1)
    | inr none ↦ absurd (figures.beside d i _ told.1.plain none.0 told.1.plain_is none.1)
  ]
  | inr none ↦ elim second [
    | inl told ↦ absurd (figures.beside d i _ told.1.plain none.0 told.1.plain_is none.1)
    | inr again ↦
        let e : Err none.0 ≡ Err again.0 = sym none.1 ∙ again.1 in
        let same : none.0 ≡ again.0 = cc in
        fault_alike again.0 v w text other (subst (λ fault. SaysFault fault v text) same none.2) again.2
  ]
]

-- the definition of each drill is in form
abbrev pub DrillsAreInForm : Type 0
DrillsAreInForm = (n : ℕ) → n ≤ 400 → IsWellFormed (drill_definition n)

-- what a read gave, where the files tell
given : (limit : ℕ) (held : Option (List ℕ)) (file : Option (List ℕ)) → option_map (within limit) held ≡ Some file →
    (bytes : List ℕ) × (held ≡ Some bytes)
given limit None file is = absurd cc
given limit (Some bytes) file is = (bytes, refl)

module _ (one : OneTextIsTold) (again : AreOneThing) (figures : FiguresAreOne) (forms : DrillsAreInForm)
    (bytes_of : List ℕ → Option (List ℕ)) (words : List (List ℕ)) where
  -- each definition whose runs are made was read, and breaks no rule
  abbrev AreOfRead : Plan → Type 0
  AreOfRead (Says verdict text) = Unit {0}
  AreOfRead (Reads name limit next) = (bytes : List ℕ) → bytes_of name ≡ Some bytes → AreOfRead (next (within limit bytes))
  AreOfRead (Makes traced d inputs schedule) = IsRead d × (broken_of d ≡ None)
  AreOfRead (Remakes d r names inputs schedule) = IsRead d × (broken_of d ≡ None)
  AreOfRead (Drills n d inputs) = IsRead d × (broken_of d ≡ None)
  AreOfRead (Talks d start inputs) = Unit {0}

  plan_alike : (plan : Plan) → AreOfRead plan → (v w : Verdict) (text other : List ℕ) → MaySay (Some bytes_of) plan v text →
      MaySay (Some bytes_of) plan w other → (v ≡ w) × (text ≡ other)
  plan_alike (Says verdict line) of_read v w text other first second = (first.0 ∙ sym second.0, first.1 ∙ sym second.1)
  plan_alike (Reads name limit next) of_read v w text other first second =
      let file = given limit (bytes_of name) first.0 first.1 in
      plan_alike (next (within limit file.0)) (of_read file.0 file.1) v w text other
      (read_on bytes_of words v text name limit next file.0 file.1 first)
      (read_on bytes_of words w other name limit next file.0 file.1 second)
  plan_alike (Makes traced d inputs schedule) of_read v w text other first second =
      told_alike one d of_read.0 of_read.1 traced inputs schedule v w text other first second
  plan_alike (Remakes d r names inputs schedule) of_read v w text other first second =
      told_again_alike again d of_read.0 of_read.1 r names inputs schedule v w text other first second
  plan_alike (Drills n d inputs) of_read v w text other first second =
      drill_alike figures n d of_read.0 of_read.1 inputs v w text other first second
  plan_alike (Talks d start inputs) of_read v w text other first second = absurd first

  module _ (traced : Bool) (d : DefTree) (was : IsRead d) (unbroken : broken_of d ≡ None) where
    schedule_read : (inputs : InputsTree) (form : Result (List ℕ) FormFault) → AreOfRead (judged_schedule traced d inputs form)
    schedule_read inputs (Ok schedule) = (was, unbroken)
    schedule_read inputs (Err fault) = tt

    under_read : (inputs : InputsTree) (named : Option (List ℕ)) → AreOfRead (scheduled traced named d inputs)
    under_read inputs None = (was, unbroken)
    under_read inputs (Some name) = λ bytes there. schedule_read inputs (schedule_form (within _ bytes))

    inputs_read : (named : Option (List ℕ)) (form : Result InputsTree FormFault) → AreOfRead (judged_inputs traced named d form)
    inputs_read named (Ok inputs) = under_read inputs named
    inputs_read named (Err fault) = tt

  judged_read : {T : Type 0} (verdict : Verdict) (part : List ℕ) (next : T → Plan) (form : Result T FormFault) →
      ((t : T) → AreOfRead (next t)) → AreOfRead (judged verdict part next form)
  judged_read verdict part next (Ok t) all = all t
  judged_read verdict part next (Err fault) all = tt

  module _ (asked : AskedTree) (d : DefTree) (was : IsRead d) (unbroken : broken_of d ≡ None) where
    remade_read : (inputs : InputsTree) (schedule : List ℕ) (found : Result RecordTree FindFault) →
        AreOfRead (remade asked d inputs schedule found)
    remade_read inputs schedule (Ok r) = (was, unbroken)
    remade_read inputs schedule (Err fault) = tt

    remade_under_read : (named : Option (List ℕ)) (found : Result RecordTree FindFault) (inputs : InputsTree) →
        AreOfRead (remade_under asked d named found inputs)
    remade_under_read None found inputs = remade_read inputs [] found
    remade_under_read (Some name) found inputs = λ bytes there.
        judged_read Inputs (codes "schedule ") (λ numbers. remade asked d inputs numbers found) (schedule_form (within _ bytes))
        (λ numbers. remade_read inputs numbers found)

    remade_with_read : (found : Result RecordTree FindFault) → AreOfRead (remade_with asked d found)
    remade_with_read found = λ bytes there.
        judged_read Inputs (codes "inputs ") (remade_under asked d asked.schedule found) (inputs_form (within _ bytes))
        (remade_under_read asked.schedule found)

    resubmit_read : AreOfRead (resubmit asked d)
    resubmit_read = λ bytes there.
        judged_read History (codes "history ") (remade_with asked d) (history_form asked.run (within _ bytes)) remade_with_read

  accepted_read : (command : Command) (d : DefTree) → IsRead d → broken_of d ≡ None → AreOfRead (accepted command words d)
  accepted_read Check d was unbroken = tt
  accepted_read Run d was unbroken = λ bytes there.
      inputs_read (is_traced Run) d was unbroken (schedule_word words) (inputs_form (within _ bytes))
  accepted_read Trace d was unbroken = λ bytes there.
      inputs_read (is_traced Trace) d was unbroken (schedule_word words) (inputs_form (within _ bytes))
  accepted_read Resubmit d was unbroken = resubmit_read (one_asked words) d was unbroken
  accepted_read ResubmitSet d was unbroken = resubmit_read (set_asked words) d was unbroken
  accepted_read Command.List d was unbroken = tt
  accepted_read (Fires from count) d was unbroken = tt
  accepted_read (Drill n) d was unbroken = tt
  accepted_read Session d was unbroken = tt

  started_read : (d : DefTree) (inputs : InputsTree) (found : Result (List StartTree) TriggerFault) → AreOfRead (started d inputs found)
  started_read d inputs (Err fault) = tt
  started_read d inputs (Ok []) = tt
  started_read d inputs (Ok (start ∷ [])) = tt
  started_read d inputs (Ok (start ∷ next ∷ starts)) = tt

  session_read : (definition inputs : List ℕ) → AreOfRead (session definition inputs)
  session_read definition inputs = λ bytes there.
      judged_read Definition (codes "definition ") (joined inputs) (definition_form (within _ bytes)) (λ d. λ more also.
      judged_read Inputs (codes "inputs ") (λ i. started d i (starts_of d i)) (inputs_form (within _ more))
      (λ i. started_read d i (starts_of d i)))

  recurs_read : (from count : ℕ) (found : Result Recurrence RecurrenceFault) → AreOfRead (recurs from count found)
  recurs_read from count (Ok r) = tt
  recurs_read from count (Err fault) = tt

  trigger_read : (from count : ℕ) (trigger : Option ValueTree) → AreOfRead (triggered from count trigger)
  trigger_read from count (Some t) = recurs_read from count (recurrence_of t)
  trigger_read from count None = tt

  value_read : (name : List ℕ) (from count : ℕ) (form : Result ValueTree FormFault) → AreOfRead (judged_value name from count form)
  value_read name from count (Ok file) = trigger_read from count (trigger_in name file)
  value_read name from count (Err fault) = tt

  history_read : (form : Result (List ListedTree) FormFault) → AreOfRead (judged_history form)
  history_read (Ok listing) = tt
  history_read (Err fault) = tt

  drill_inputs_read : (n : ℕ) (d : DefTree) → IsRead d → broken_of d ≡ None → (form : Result InputsTree FormFault) →
      AreOfRead (drilled_with n d form)
  drill_inputs_read n d was unbroken (Ok inputs) = (was, unbroken)
  drill_inputs_read n d was unbroken (Err fault) = tt

  drill_read : (n : ℕ) → n ≤ 400 → (form : Result DefTree FormFault) → definition_of (drill_definition n) ≡ form →
      AreOfRead (drilled_by n form)
  drill_read n le (Ok d) is =
      let known = was_read (drill_definition n) (forms n le) d is in
      drill_inputs_read n d known.0 known.1 (inputs_of (drill_inputs n))
  drill_read n le (Err fault) is = tt

  module _ (was : (command : Command) (d : DefTree) → HoldsDefinition bytes_of words command d → IsRead d) where
    definition_read : (command : Command) → command_of words ≡ Some command → (bytes : List ℕ) → bytes_of (word words 1) ≡ Some bytes →
        (form : Result DefTree FormFault) → definition_form (within definition_bytes bytes) ≡ form →
        AreOfRead (judged_definition command words form)
    unfolding broken_in
    definition_read command names bytes there (Ok d) is =
        accepted_read command d (was command d (record { names = names; held = (bytes, there, is) }))
        (form_unbroken (within definition_bytes bytes) d is)
    definition_read command names bytes there (Err fault) is = tt

    defined_read : (command : Command) → command_of words ≡ Some command → AreOfRead (defined (word words 1) command words)
    defined_read command names = λ bytes there.
        definition_read command names bytes there (definition_form (within definition_bytes bytes)) refl

    plan_read : (command : Command) → command_of words ≡ Some command → AreOfRead (plan command words)
    unfolding plan
    plan_read Check names = defined_read Check names
    plan_read Run names = defined_read Run names
    plan_read Trace names = defined_read Trace names
    plan_read Resubmit names = defined_read Resubmit names
    plan_read ResubmitSet names = defined_read ResubmitSet names
    plan_read (Fires from count) names = λ bytes there. value_read (word words 2) from count (value_form (within _ bytes))
    plan_read (Drill n) names = drill_read n (drill_size words n names) (definition_of (drill_definition n)) refl
    plan_read Session names = session_read (word words 1) (word words 2)
    plan_read Command.List names = λ bytes there. history_read (listing_form (within _ bytes))

    said_alike : (s u : ℕ) (text other : List ℕ) (command : Option Command) → command_of words ≡ command →
        PlanSays bytes_of (option_map (λ c. plan c words) command) s text →
        PlanSays bytes_of (option_map (λ c. plan c words) command) u other → (s ≡ u) × (text ≡ other)
    said_alike s u text other None names first second = (first.0 ∙ sym second.0, first.1 ∙ sym second.1)
    said_alike s u text other (Some command) names first second =
        let same = plan_alike (plan command words) (plan_read command names) first.0 second.0 text other first.2 second.2 in
        (first.1 ∙ ap number same.0 ∙ sym second.1, same.1)

    pub words_alike : (s u : ℕ) (text other : List ℕ) → Say bytes_of words s text → Say bytes_of words u other →
        (s ≡ u) × (text ≡ other)
    words_alike s u text other first second = said_alike s u text other (command_of words) refl first second
