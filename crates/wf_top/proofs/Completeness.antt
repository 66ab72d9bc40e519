-- Where all tests of a command pass and no count rose, the whole text was taken, or memory ran out.
use Rattle.std.proofs.Common.{◌≡◌, ℕ, List, Bool, true, Option, None, Some, Result, Ok, Err, inl, inr, ap, subst, sym, ◌∙◌}
use Rattle.std.specs.Option.{IfSome, option_map}
use Rattle.wf_answers.specs.Inputs.{InputsTree}
use Rattle.wf_def.specs.DefTree.{DefTree}
use Rattle.wf_outside.specs.Outside.{Held, IsCalm}
use Rattle.wf_history.specs.History.{ListedTree}
use Rattle.wf_top.specs.Commands.{accepted, accepted_line, defined, judged_definition, judged_history, judged_inputs, judged_schedule}
use Rattle.wf_top.specs.Commands.{judged_value, listing_text, plan, recurs, run, scheduled, triggered}
use Rattle.wf_recur.specs.Moments.{moments_due}
use Rattle.wf_recur.specs.declared.recurrence.Recurrence.{Recurrence}
use Rattle.wf_top.specs.Fires.{moments_text}
use Rattle.wf_files.specs.Form.{Form, definition_form, inputs_form, listing_form, schedule_form, value_form}
use Rattle.wf_told.specs.Records.{runs_records}
use Rattle.wf_told.specs.Runs.{TellsRuns}
use Rattle.wf_record.specs.Record.{RecordTree}
use Rattle.wf_top.specs.Limits.{definition_bytes, history_bytes, inputs_bytes, schedule_bytes}
use Rattle.wf_top.specs.Plan.{Plan, Reads, MaySay, within}
use Rattle.wf_top.specs.Ran.{Holds, HoldsDefinition, HoldsHistory, HoldsSchedule, IsToldWhole, IsWhole, PassesAll, PassesFires}
use Rattle.wf_top.specs.Served.{IsSaid, PlanSays, Say, number}
use Rattle.wf_top.specs.Told.{MayTell, SaysRuns}
use Rattle.wf_top.specs.Words.{command_of, is_traced, makes_runs, schedule_word, word}
use Rattle.wf_files.specs.declared.fault.FormFault.{FormFault}
use Rattle.wf_top.specs.declared.said.Verdict.{Verdict}
use Rattle.wf_top.proofs.Spoken.{makes_no_talk}
use Rattle.wf_top.specs.Conversed.{HoldsTalk}
use Rattle.wf_top.specs.declared.words.Command.{Command}
use Rattle.wf_top.specs.declared.words.Command.TheVariants.{Check, Run, Trace, Resubmit, ResubmitSet, Drill, Fires, Session}

module _ (bytes_of : List ℕ → Option (List ℕ)) (words : List (List ℕ)) (verdict : Verdict) (text : List ℕ) where
  abbrev pub MayBeSaid : Plan → Type 0
  MayBeSaid plan = MaySay (Some bytes_of) plan verdict text

  -- a read of a file that is there
  pub read_on : (name : List ℕ) (limit : ℕ) (next : Option (List ℕ) → Plan) (bytes : List ℕ) → bytes_of name ≡ Some bytes →
      MayBeSaid (Reads name limit next) → MayBeSaid (next (within limit bytes))
  read_on name limit next bytes there saying =
      let given : Some (within limit bytes) ≡ Some saying.0 = sym (ap (option_map (within limit)) there) ∙ saying.1 in
      let same : saying.0 ≡ within limit bytes = cc in
      subst (λ file. MayBeSaid (next file)) same saying.2

  -- and of one in which this is found
  pub held_on : {T : Type 0} (form : Form T) (name : List ℕ) (limit : ℕ) (t : T) (next : Result T FormFault → Plan) →
      Holds bytes_of name limit form t → MayBeSaid (Reads name limit (λ file. next (form file))) → MayBeSaid (next (Ok t))
  held_on form name limit t next holds saying =
      subst (λ found. MayBeSaid (next found)) holds.2 (read_on name limit (λ file. next (form file)) holds.0 holds.1 saying)

  -- a command goes on with the definition that DEF holds
  pub defined_on : (command : Command) (d : DefTree) → HoldsDefinition bytes_of words command d →
      MayBeSaid (defined (word words 1) command words) → MayBeSaid (accepted command words d)
  defined_on command d holds saying =
      held_on definition_form (word words 1) definition_bytes d (judged_definition command words) holds.held saying

  check_on : (d : DefTree) → HoldsDefinition bytes_of words Check d → MayBeSaid (plan Check words) → MayBeSaid (accepted Check words d)
  unfolding plan
  check_on d holds saying = defined_on Check d holds saying

  runs_on : (command : Command) (d : DefTree) → makes_runs command ≡ true → HoldsDefinition bytes_of words command d →
      MayBeSaid (plan command words) → MayBeSaid (run (is_traced command) (word words 2) (schedule_word words) d)
  unfolding plan
  runs_on Check d makes holds saying = absurd cc
  runs_on Run d makes holds saying = defined_on Run d holds saying
  runs_on Trace d makes holds saying = defined_on Trace d holds saying
  runs_on (Fires from count) d makes holds saying = absurd cc
  runs_on Command.List d makes holds saying = absurd cc
  runs_on Resubmit d makes holds saying = absurd cc
  runs_on ResubmitSet d makes holds saying = absurd cc
  runs_on (Drill n) d makes holds saying = absurd cc
  runs_on Session d makes holds saying = absurd cc

  -- `list` lists the records that HISTORY holds
  list_on : (listing : List ListedTree) → HoldsHistory bytes_of words listing → MayBeSaid (plan Command.List words) →
      MayBeSaid (judged_history (Ok listing))
  unfolding plan
  list_on listing holds saying = held_on listing_form (word words 1) history_bytes listing judged_history holds.held saying

  -- the inputs are those that INPUTS holds
  inputs_on : (traced : Bool) (d : DefTree) (inputs : InputsTree) → Holds bytes_of (word words 2) inputs_bytes inputs_form inputs →
      MayBeSaid (run traced (word words 2) (schedule_word words) d) → MayBeSaid (scheduled traced (schedule_word words) d inputs)
  inputs_on traced d inputs holds saying =
      held_on inputs_form (word words 2) inputs_bytes inputs (judged_inputs traced (schedule_word words) d) holds saying

  -- the runs are made under the schedule that SCHEDULE holds
  schedule_on : (traced : Bool) (d : DefTree) (inputs : InputsTree) (named : Option (List ℕ)) (schedule : List ℕ) →
      HoldsSchedule bytes_of named schedule → MayBeSaid (scheduled traced named d inputs) → MayTell traced d inputs schedule verdict text
  schedule_on traced d inputs None schedule is saying = subst (λ s. MayTell traced d inputs s verdict text) (sym is) saying
  schedule_on traced d inputs (Some name) schedule holds saying =
      held_on schedule_form name schedule_bytes schedule (judged_schedule traced d inputs) holds saying

  -- runs that leave records are told
  records_on : (traced : Bool) (d : DefTree) (inputs : InputsTree) (schedule : List ℕ) (records : List RecordTree) →
      runs_records d inputs ≡ Ok records → MayTell traced d inputs schedule verdict text → SaysRuns traced d inputs schedule verdict text
  records_on traced d inputs schedule records made saying = elim saying [
    | inl told ↦ told
    | inr none ↦ absurd (let e : Ok records ≡ Err none.0 = sym made ∙ none.1 in cc)
  ]

  passed_on : (command : Command) (d : DefTree) (inputs : InputsTree) (schedule : List ℕ) →
      PassesAll bytes_of words command d inputs schedule → MayBeSaid (plan command words) →
      SaysRuns (is_traced command) d inputs schedule verdict text
  passed_on command d inputs schedule passes saying =
      let traced = is_traced command in
      records_on traced d inputs schedule passes.records passes.runs_made
      (schedule_on traced d inputs (schedule_word words) schedule passes.schedule_held
      (inputs_on traced d inputs passes.inputs_held
      (runs_on command d passes.makes passes.definition_held saying)))

  -- `fires` goes on with the recurrence of the trigger that the definition has
  fires_on : (from count : ℕ) (r : Recurrence) → PassesFires bytes_of words from count r → MayBeSaid (plan (Fires from count) words) →
      MayBeSaid (recurs from count (Ok r))
  unfolding plan
  fires_on from count r passes saying =
      subst (λ read. MayBeSaid (recurs from count read)) passes.recurs
      (subst (λ trigger. MayBeSaid (triggered from count trigger)) passes.has_trigger
      (held_on value_form (word words 1) definition_bytes passes.file (judged_value (word words 2) from count) passes.held saying))

module _ (bytes_of : List ℕ → Option (List ℕ)) (words : List (List ℕ)) (status : ℕ) (text : List ℕ) where
  -- what the words say, by the plan of their command
  pub say_by : (command : Command) → command_of words ≡ Some command → Say bytes_of words status text →
      PlanSays bytes_of (Some (plan command words)) status text
  say_by command names saying =
      subst (λ found. PlanSays bytes_of (option_map (λ c. plan c words) found) status text) names saying

  says_accepted : (d : DefTree) → HoldsDefinition bytes_of words Check d → Say bytes_of words status text →
      (status ≡ 0) × (text ≡ accepted_line d)
  says_accepted d holds saying =
      let s = say_by Check holds.names saying in
      let said = check_on bytes_of words s.0 text d holds s.2 in (s.1 ∙ ap number said.0, said.1)

  says_listed : (listing : List ListedTree) → HoldsHistory bytes_of words listing → Say bytes_of words status text →
      (status ≡ 0) × (text ≡ listing_text listing)
  says_listed listing holds saying =
      let s = say_by Command.List holds.names saying in
      let said = list_on bytes_of words s.0 text listing holds s.2 in (s.1 ∙ ap number said.0, said.1)

  says_fires : (from count : ℕ) (r : Recurrence) → PassesFires bytes_of words from count r → Say bytes_of words status text →
      (status ≡ 0) × (text ≡ moments_text (moments_due r from count))
  says_fires from count r passes saying =
      let s = say_by (Fires from count) passes.names saying in
      let said = fires_on bytes_of words s.0 text from count r passes s.2 in (s.1 ∙ ap number said.0, said.1)

  says_runs : (command : Command) (d : DefTree) (inputs : InputsTree) (schedule : List ℕ) →
      PassesAll bytes_of words command d inputs schedule → Say bytes_of words status text →
      (status ≡ 0) × TellsRuns d inputs schedule (is_traced command) text
  says_runs command d inputs schedule passes saying =
      let s = say_by command passes.definition_held.names saying in
      let said = passed_on bytes_of words s.0 text command d inputs schedule passes s.2 in (s.1 ∙ ap number said.0, said.1)

-- where the words are another command no talk begins
pub no_talk : (bytes_of : List ℕ → Option (List ℕ)) (words : List (List ℕ)) (command : Command) → (command ≡ Session → ⊥) →
    command_of words ≡ Some command → HoldsTalk bytes_of words → ⊥
no_talk bytes_of words command other names talk =
    let same : Some command ≡ Some Session = sym names ∙ talk.3.definition_held.names in other (let e : command ≡ Session = cc in e)

pub whole_from : (said : ℕ → List ℕ → Type 0) (before after : Option (List ℕ)) (line : List ℕ) (result : ℕ) →
    ((text : List ℕ) → said result text → (result ≡ 0) × (text ≡ line)) → IsSaid said before after result →
    IsWhole before after line result
whole_from said before after line result only saying = elim saying [
  | inl all ↦ let is = only all.0 all.1 in inl (is.0, rw is.1 at all.2)
  | inr spent ↦ inr spent
]

module _ (held : Held) (words : List (List ℕ)) (old new : List (List ℕ)) (before after : Option (List ℕ)) (count later result : ℕ) where
  -- what is said where no count rose and no talk begins
  abbrev pub IsTold : Type 0
  IsTold =
      IfSome held (λ bytes_of. (HoldsTalk bytes_of words → ⊥) → new ≡ old → IsCalm count later →
      IsSaid (Say bytes_of words) before after result)

-- where all tests pass and no count rose, the whole text was taken, or memory ran out
pub serves_accepted : (held : Held) (words : List (List ℕ)) (old new : List (List ℕ)) (before after : Option (List ℕ))
    (count later result : ℕ) → IsTold held words old new before after count later result →
    IfSome held (λ bytes_of. (d : DefTree) → HoldsDefinition bytes_of words Check d → new ≡ old → IsCalm count later →
    IsWhole before after (accepted_line d) result)
serves_accepted None words old new before after count later result said = tt
serves_accepted (Some bytes_of) words old new before after count later result said = λ d held same calm.
    whole_from (Say bytes_of words) before after (accepted_line d) result
    (λ text saying. says_accepted bytes_of words result text d held saying)
    (said (no_talk bytes_of words Check (λ is. cc) held.names) same calm)

pub serves_list : (held : Held) (words : List (List ℕ)) (old new : List (List ℕ)) (before after : Option (List ℕ))
    (count later result : ℕ) → IsTold held words old new before after count later result →
    IfSome held (λ bytes_of. (listing : List ListedTree) → HoldsHistory bytes_of words listing → new ≡ old → IsCalm count later →
    IsWhole before after (listing_text listing) result)
serves_list None words old new before after count later result said = tt
serves_list (Some bytes_of) words old new before after count later result said = λ listing held same calm.
    whole_from (Say bytes_of words) before after (listing_text listing) result
    (λ text saying. says_listed bytes_of words result text listing held saying)
    (said (no_talk bytes_of words Command.List (λ is. cc) held.names) same calm)

pub serves_moments : (held : Held) (words : List (List ℕ)) (old new : List (List ℕ)) (before after : Option (List ℕ))
    (count later result : ℕ) → IsTold held words old new before after count later result →
    IfSome held (λ bytes_of. (from n : ℕ) → (r : Recurrence) → PassesFires bytes_of words from n r → new ≡ old → IsCalm count later →
    IsWhole before after (moments_text (moments_due r from n)) result)
serves_moments None words old new before after count later result said = tt
serves_moments (Some bytes_of) words old new before after count later result said = λ from n r passes same calm.
    whole_from (Say bytes_of words) before after (moments_text (moments_due r from n)) result
    (λ text saying. says_fires bytes_of words result text from n r passes saying)
    (said (no_talk bytes_of words (Fires from n) (λ is. cc) passes.names) same calm)

pub serves_whole : (held : Held) (words : List (List ℕ)) (old new : List (List ℕ)) (before after : Option (List ℕ))
    (count later result : ℕ) → IsTold held words old new before after count later result →
    IfSome held (λ bytes_of. (command : Command) (d : DefTree) (inputs : InputsTree) (schedule : List ℕ) →
    PassesAll bytes_of words command d inputs schedule → new ≡ old → IsCalm count later →
    IsToldWhole (is_traced command) d inputs schedule before after result)
serves_whole None words old new before after count later result said = tt
serves_whole (Some bytes_of) words old new before after count later result said = λ command d inputs schedule passes same calm.
    elim (said (no_talk bytes_of words command (makes_no_talk command passes.makes) passes.definition_held.names) same calm) [
      | inl all ↦
          let is = says_runs bytes_of words result all.0 command d inputs schedule passes all.1 in
          inl (all.0, is.0, is.1, all.2)
      | inr spent ↦ inr spent
    ]
