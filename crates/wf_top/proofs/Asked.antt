-- A command asks for no file but those that its words name.
use Rattle.std.proofs.Common.{◌≡◌, ◌⊎◌, ◌<◌, ℕ, List, [], ◌∷◌, length, Bool, true, Option, None, Some, Result, Ok, Err, inl, inr, refl}
use Rattle.std.proofs.Common.{subst, sym, arith}
use Rattle.std.specs.Prelude.{Contains, codes, slice_get}
use Rattle.std.specs.Option.{IfSome, option_map}
use Rattle.std.proofs.lemmas.Grind.{common_steps}
use Rattle.std.proofs.lemmas.List.Elements.{Contains-get_or}
use Rattle.std.proofs.lemmas.Option.{get_or_from_slice_get, slice_get_within}
use Rattle.wf_outside.specs.Outside.{Held}
use Rattle.wf_top.specs.Plan.{Plan, Says, Reads, Makes, Remakes, Drills, Talks, ComesTo, AsksAmong}
use Rattle.wf_answers.specs.Inputs.{InputsTree}
use Rattle.wf_def.specs.DefTree.{DefTree}
use Rattle.wf_history.specs.History.{ListedTree}
use Rattle.wf_recur.specs.Reading.{recurrence_of}
use Rattle.wf_recur.specs.declared.fault.RecurrenceFault.{RecurrenceFault}
use Rattle.wf_recur.specs.declared.recurrence.Recurrence.{Recurrence}
use Rattle.wf_val.specs.ValueTree.{ValueTree}
use Rattle.wf_drill.specs.Drill.{drill_definition, drill_inputs}
use Rattle.wf_top.specs.Drill.{drilled, drilled_by, drilled_with}
use Rattle.wf_top.specs.Fires.{trigger_in}
use Rattle.wf_files.specs.Form.{definition_form, definition_of, history_form, inputs_form, inputs_of, listing_form, schedule_form}
use Rattle.wf_files.specs.Form.{value_form}
use Rattle.wf_files.specs.declared.fault.FindFault.{FindFault}
use Rattle.wf_record.specs.Record.{RecordTree}
use Rattle.wf_top.specs.Commands.{plan, plan_of, accepted, defined, judged_definition, judged_history, judged_inputs, judged_schedule}
use Rattle.wf_top.specs.Commands.{judged_value, recurs, run, scheduled, triggered}
use Rattle.wf_top.specs.Resubmit.{judged, remade, remade_under, remade_with, resubmit}
use Rattle.wf_top.specs.Served.{FailedAt}
use Rattle.wf_top.specs.Session.{joined, session, started}
use Rattle.wf_told.specs.Records.{starts_of}
use Rattle.wf_trigger.specs.Starts.{StartTree}
use Rattle.wf_trigger.specs.declared.fault.TriggerFault.{TriggerFault}
use Rattle.wf_top.proofs.LengthLemmas.{drill_length, fires_length, resubmit_length, run_length, session_length, set_length, trace_length}
use Rattle.wf_top.specs.Words.{AskedTree, command_of, is_traced, makes_runs, one_asked, schedule_word, set_asked, word}
use Rattle.wf_top.specs.declared.said.Verdict.{Verdict}
use Rattle.wf_top.specs.declared.said.Verdict.TheVariants.{Definition, History, Inputs}
use Rattle.wf_top.specs.declared.words.Command.{Command}
use Rattle.wf_top.specs.declared.words.Command.TheVariants.{Check, Run, Trace, Resubmit, ResubmitSet, Drill, Fires, Session}
use Rattle.wf_files.specs.declared.fault.FormFault.{FormFault}

asked : (held : Held) (words : List (List ℕ)) (plan : Plan) (name : List ℕ) → AsksAmong words plan → ComesTo held plan name →
    Contains words name
asked held words (Says status text) name among comes = absurd comes
asked held words (Reads first limit next) name among comes =
    elim comes [
      | inl is ↦ subst (λ n. Contains words n) (sym is) among.0
      | inr later ↦ asked held words (next later.0) name (among.1 later.0) later.2
    ]
asked held words (Makes traced d inputs schedule) name among comes = absurd comes
asked held words (Remakes d r names inputs schedule) name among comes = absurd comes
asked held words (Drills n d inputs) name among comes = absurd comes
asked held words (Talks d start inputs) name among comes = absurd comes

schedule_asks : (words : List (List ℕ)) (traced : Bool) (d : DefTree) (inputs : InputsTree) (form : Result (List ℕ) FormFault) →
    AsksAmong words (judged_schedule traced d inputs form)
schedule_asks words traced d inputs (Ok schedule) = tt
schedule_asks words traced d inputs (Err fault) = tt

-- the word at a place, where there is one, is one of the words
word_among : (words : List (List ℕ)) (place : ℕ) → IfSome (slice_get words place) (λ name. Contains words name)
word_among words place = among (slice_get words place) refl
  where
    among : (found : Option (List ℕ)) → slice_get words place ≡ found → IfSome found (λ name. Contains words name)
    among None is = tt
    among (Some name) is =
        subst (λ n. Contains words n) (get_or_from_slice_get words place name [] is) (Contains-get_or words place []
        (slice_get_within words place name is))

module _ (words : List (List ℕ)) (traced : Bool) (d : DefTree) where
  under_asks : (schedule : Option (List ℕ)) → IfSome schedule (λ name. Contains words name) → (inputs : InputsTree) →
      AsksAmong words (scheduled traced schedule d inputs)
  under_asks None among inputs = tt
  under_asks (Some name) among inputs = (among, λ file. schedule_asks words traced d inputs (schedule_form file))

  inputs_ask : (schedule : Option (List ℕ)) → IfSome schedule (λ name. Contains words name) → (form : Result InputsTree FormFault) →
      AsksAmong words (judged_inputs traced schedule d form)
  inputs_ask schedule among (Ok inputs) = under_asks schedule among inputs
  inputs_ask schedule among (Err fault) = tt

check_length : (words : List (List ℕ)) → command_of words ≡ Some Check → 1 < length words
check_length words is = grind (arith, common_steps)

list_length : (words : List (List ℕ)) → command_of words ≡ Some Command.List → 1 < length words
list_length words is = grind (arith, common_steps)

-- each command that makes runs has a second file
pub second_length : (command : Command) (words : List (List ℕ)) → makes_runs command ≡ true → command_of words ≡ Some command
    → 2 < length words
second_length Check words makes is = absurd (cc)
second_length Run words makes is = run_length words is
second_length (Fires from count) words makes is = absurd (cc)
second_length Trace words makes is = let more : 3 < length words = trace_length words is in omega arith
second_length Command.List words makes is = absurd (cc)
second_length Resubmit words makes is = absurd (cc)
second_length ResubmitSet words makes is = absurd (cc)
second_length (Drill n) words makes is = absurd (cc)
second_length Session words makes is = absurd (cc)

run_asks : (words : List (List ℕ)) (traced : Bool) (d : DefTree) → 2 < length words →
    AsksAmong words (run traced (word words 2) (schedule_word words) d)
run_asks words traced d longer = (
  Contains-get_or words 2 [] longer,
  λ file. inputs_ask words traced d (schedule_word words) (word_among words 3) (inputs_form file),
)

-- what follows the judging of a file
judged_asks : {T : Type 0} (words : List (List ℕ)) (verdict : Verdict) (part : List ℕ) (next : T → Plan) (form : Result T FormFault) →
    ((t : T) → AsksAmong words (next t)) → AsksAmong words (judged verdict part next form)
judged_asks words verdict part next (Ok t) all = all t
judged_asks words verdict part next (Err fault) all = tt

-- the files that a resubmission asks for
record AreAmong (words : List (List ℕ)) (asked : AskedTree) : Type 0 where
  history : Contains words asked.history
  inputs : Contains words asked.inputs
  schedule : IfSome asked.schedule (λ name. Contains words name)

module _ (words : List (List ℕ)) (asked : AskedTree) (d : DefTree) where
  remade_asks : (inputs : InputsTree) (schedule : List ℕ) (found : Result RecordTree FindFault) →
      AsksAmong words (remade asked d inputs schedule found)
  remade_asks inputs schedule (Ok r) = tt
  remade_asks inputs schedule (Err fault) = tt

  remade_under_asks : (named : Option (List ℕ)) → IfSome named (λ name. Contains words name) → (found : Result RecordTree FindFault)
      (inputs : InputsTree) → AsksAmong words (remade_under asked d named found inputs)
  remade_under_asks None among found inputs = remade_asks inputs [] found
  remade_under_asks (Some name) among found inputs = (
    among,
    λ file. judged_asks words Inputs (codes "schedule ") (λ numbers. remade asked d inputs numbers found) (schedule_form file)
        (λ numbers. remade_asks inputs numbers found),
  )

  remade_with_asks : AreAmong words asked → (found : Result RecordTree FindFault) → AsksAmong words (remade_with asked d found)
  remade_with_asks among found = (
    among.inputs,
    λ file. judged_asks words Inputs (codes "inputs ") (remade_under asked d asked.schedule found) (inputs_form file)
        (remade_under_asks asked.schedule among.schedule found),
  )

  resubmit_asks : AreAmong words asked → AsksAmong words (resubmit asked d)
  resubmit_asks among = (
    among.history,
    λ file. judged_asks words History (codes "history ") (remade_with asked d) (history_form asked.run file) (remade_with_asks among),
  )

one_among : (words : List (List ℕ)) → command_of words ≡ Some Resubmit → AreAmong words (one_asked words)
one_among words is =
    let longer : 5 < length words = resubmit_length words is in record {
      history = Contains-get_or words 2 [] (omega (arith, longer));
      inputs = Contains-get_or words 5 [] longer;
      schedule = word_among words 6;
    }

set_among : (words : List (List ℕ)) → command_of words ≡ Some ResubmitSet → AreAmong words (set_asked words)
set_among words is =
    let longer : 6 < length words = set_length words is in record {
      history = Contains-get_or words 2 [] (omega (arith, longer));
      inputs = Contains-get_or words 4 [] (omega (arith, longer));
      schedule = Contains-get_or words 5 [] (omega (arith, longer));
    }

accepted_asks : (command : Command) (words : List (List ℕ)) (d : DefTree) → command_of words ≡ Some command →
    AsksAmong words (accepted command words d)
accepted_asks Check words d is = tt
accepted_asks Run words d is = run_asks words (is_traced Run) d (second_length Run words refl is)
accepted_asks (Fires from count) words d is = tt
accepted_asks Trace words d is = run_asks words (is_traced Trace) d (second_length Trace words refl is)
accepted_asks Command.List words d is = tt
accepted_asks Resubmit words d is = resubmit_asks words (one_asked words) d (one_among words is)
accepted_asks ResubmitSet words d is = resubmit_asks words (set_asked words) d (set_among words is)
accepted_asks (Drill n) words d is = tt
accepted_asks Session words d is = tt

definition_asks : (command : Command) (words : List (List ℕ)) (form : Result DefTree FormFault) → command_of words ≡ Some command →
    AsksAmong words (judged_definition command words form)
definition_asks command words (Ok d) is = accepted_asks command words d is
definition_asks command words (Err fault) is = tt

-- each command has a first file
pub some_length : (command : Command) (words : List (List ℕ)) → command_of words ≡ Some command → 1 < length words
some_length Check words is = check_length words is
some_length Run words is = let more : 2 < length words = second_length Run words refl is in omega arith
some_length (Fires from count) words is = let more : 4 < length words = fires_length words from count is in omega arith
some_length Trace words is = let more : 2 < length words = second_length Trace words refl is in omega arith
some_length Command.List words is = list_length words is
some_length Resubmit words is = let more : 5 < length words = resubmit_length words is in omega arith
some_length ResubmitSet words is = let more : 6 < length words = set_length words is in omega arith
some_length (Drill n) words is = drill_length words n is
some_length Session words is = let more : 2 < length words = session_length words is in omega arith

-- the commands that read a definition, and what they then say
abbrev pub IsDefining : Command → Type 0
IsDefining command =
    (command ≡ Check) ⊎ ((command ≡ Run) ⊎ ((command ≡ Trace) ⊎ ((command ≡ Resubmit) ⊎ (command ≡ ResubmitSet))))

-- none of these
other : (command : Command) → (command ≡ Check → ⊥) → (command ≡ Run → ⊥) → (command ≡ Trace → ⊥) → (command ≡ Resubmit → ⊥) →
    (command ≡ ResubmitSet → ⊥) → IsDefining command → ⊥
other command a b c d e is = elim is [
  | inl x ↦ a x
  | inr more ↦ elim more [
    | inl x ↦ b x
    | inr more ↦ elim more [ inl x ↦ c x | inr more ↦ elim more [ inl x ↦ d x | inr x ↦ e x ] ]
  ]
]

pub plan_defined : (command : Command) (words : List (List ℕ)) → IsDefining command → plan command words
    ≡ defined (word words 1) command words
unfolding plan
plan_defined Check words is = refl
plan_defined Run words is = refl
plan_defined Trace words is = refl
plan_defined Resubmit words is = refl
plan_defined ResubmitSet words is = refl
plan_defined Command.List words is = absurd (other Command.List (λ x. cc) (λ x. cc) (λ x. cc) (λ x. cc) (λ x. cc) is)
plan_defined (Fires from count) words is =
    absurd (other (Fires from count) (λ x. cc) (λ x. cc) (λ x. cc) (λ x. cc) (λ x. cc) is)
plan_defined (Drill n) words is = absurd (other (Drill n) (λ x. cc) (λ x. cc) (λ x. cc) (λ x. cc) (λ x. cc) is)
plan_defined Session words is = absurd (other Session (λ x. cc) (λ x. cc) (λ x. cc) (λ x. cc) (λ x. cc) is)

pub plan_drilled : (n : ℕ) (words : List (List ℕ)) → plan (Drill n) words ≡ drilled n
unfolding plan
plan_drilled n words = refl

history_asks : (words : List (List ℕ)) (form : Result (List ListedTree) FormFault) → AsksAmong words (judged_history form)
history_asks words (Ok listing) = tt
history_asks words (Err fault) = tt

defined_asks : (command : Command) (words : List (List ℕ)) → command_of words ≡ Some command →
    AsksAmong words (defined (word words 1) command words)
defined_asks command words is = (
  Contains-get_or words 1 [] (some_length command words is),
  λ file. definition_asks command words (definition_form file) is,
)

recurrence_asks : (words : List (List ℕ)) (from count : ℕ) (found : Result Recurrence RecurrenceFault) →
    AsksAmong words (recurs from count found)
recurrence_asks words from count (Ok r) = tt
recurrence_asks words from count (Err fault) = tt

trigger_asks : (words : List (List ℕ)) (from count : ℕ) (trigger : Option ValueTree) → AsksAmong words (triggered from count trigger)
trigger_asks words from count (Some t) = recurrence_asks words from count (recurrence_of t)
trigger_asks words from count None = tt

value_asks : (words : List (List ℕ)) (name : List ℕ) (from count : ℕ) (form : Result ValueTree FormFault) →
    AsksAmong words (judged_value name from count form)
value_asks words name from count (Ok file) = trigger_asks words from count (trigger_in name file)
value_asks words name from count (Err fault) = tt

-- `drill` asks for none
drill_inputs_ask : (words : List (List ℕ)) (n : ℕ) (d : DefTree) (form : Result InputsTree FormFault) →
    AsksAmong words (drilled_with n d form)
drill_inputs_ask words n d (Ok inputs) = tt
drill_inputs_ask words n d (Err fault) = tt

drill_asks : (words : List (List ℕ)) (n : ℕ) (form : Result DefTree FormFault) → AsksAmong words (drilled_by n form)
drill_asks words n (Ok d) = drill_inputs_ask words n d (inputs_of (drill_inputs n))
drill_asks words n (Err fault) = tt

started_asks : (words : List (List ℕ)) (d : DefTree) (inputs : InputsTree) (found : Result (List StartTree) TriggerFault) →
    AsksAmong words (started d inputs found)
started_asks words d inputs (Err fault) = tt
started_asks words d inputs (Ok []) = tt
started_asks words d inputs (Ok (start ∷ [])) = tt
started_asks words d inputs (Ok (start ∷ next ∷ starts)) = tt

-- `session` asks for two
session_asks : (words : List (List ℕ)) → command_of words ≡ Some Session → AsksAmong words (session (word words 1) (word words 2))
session_asks words is =
    let longer : 2 < length words = session_length words is in (
      Contains-get_or words 1 [] (omega (arith, longer)),
      λ file. judged_asks words Definition (codes "definition ") (joined (word words 2)) (definition_form file) (λ d. (
        Contains-get_or words 2 [] longer,
        λ other. judged_asks words Inputs (codes "inputs ") (λ i. started d i (starts_of d i)) (inputs_form other)
            (λ i. started_asks words d i (starts_of d i)),
      )),
    )

plan_asks : (command : Command) (words : List (List ℕ)) → command_of words ≡ Some command → AsksAmong words (plan command words)
unfolding plan
plan_asks Check words is = defined_asks Check words is
plan_asks Run words is = defined_asks Run words is
plan_asks Trace words is = defined_asks Trace words is
plan_asks Resubmit words is = defined_asks Resubmit words is
plan_asks ResubmitSet words is = defined_asks ResubmitSet words is
plan_asks (Fires from count) words is = (
  Contains-get_or words 1 [] (some_length (Fires from count) words is),
  λ file. value_asks words (word words 2) from count (value_form file),
)
plan_asks (Drill n) words is = drill_asks words n (definition_of (drill_definition n))
plan_asks Session words is = session_asks words is
plan_asks Command.List words is = (
  Contains-get_or words 1 [] (list_length words is),
  λ file. history_asks words (listing_form file),
)

by_command : (held : Held) (words : List (List ℕ)) (command : Option Command) (old new : List (List ℕ)) (name : List ℕ) →
    command_of words ≡ command →
    FailedAt held (option_map (λ c. plan c words) command) old new name → Contains words name
by_command held words None old new name is failed = absurd failed
by_command held words (Some command) old new name is failed =
    asked held words (plan command words) name (plan_asks command words is) failed.0

-- the name that couldn't be read is one of the words
pub failed_word : (held : Held) (words : List (List ℕ)) (old new : List (List ℕ)) (name : List ℕ) →
    FailedAt held (plan_of words) old new name → Contains words name
failed_word held words old new name failed = by_command held words (command_of words) old new name refl failed
