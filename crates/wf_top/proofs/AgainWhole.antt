-- Where all tests of a command that resubmits pass and no count rose, the whole text was taken, or memory ran out.
use Rattle.std.proofs.Common.{◌≡◌, ◌≤◌, ℕ, List, true, Option, None, Some, Result, Ok, inl, inr, ap, subst, sym, ◌∙◌}
use Rattle.std.specs.Prelude.{codes}
use Rattle.std.specs.Option.{IfSome}
use Rattle.wf_answers.specs.Inputs.{InputsTree}
use Rattle.wf_def.specs.DefTree.{DefTree}
use Rattle.wf_files.specs.Form.{history_form, inputs_form, schedule_form}
use Rattle.wf_files.specs.declared.fault.FindFault.{FindFault}
use Rattle.wf_stands.specs.Resubmitted.{pinned}
use Rattle.wf_outside.specs.Outside.{Held, IsCalm}
use Rattle.wf_told.specs.Prepared.{MayBeResubmitted}
use Rattle.wf_record.specs.Cost.{cost}
use Rattle.wf_record.specs.Record.{RecordTree}
use Rattle.wf_resubmit.specs.Refused.{numbers_of}
use Rattle.wf_told.specs.Resubmissions.{IsNotResubmitted, TellsResubmission}
use Rattle.wf_told.specs.declared.fault.ResubmissionFault.{ResubmissionFault}
use Rattle.wf_top.specs.Commands.{plan}
use Rattle.wf_top.specs.Limits.{history_bytes, inputs_bytes, schedule_bytes}
use Rattle.wf_top.specs.Ran.{Holds, HoldsDefinition, HoldsSchedule}
use Rattle.wf_top.specs.Resubmit.{judged, remade, remade_under, remade_with, resubmit}
use Rattle.wf_top.specs.Resubmitted.{IsToldAgain, PassesAgain}
use Rattle.wf_top.specs.Served.{Say, number}
use Rattle.wf_top.specs.Told.{MayTellAgain, SaysAgain}
use Rattle.wf_top.specs.Words.{AskedTree, asked_of, resubmits}
use Rattle.wf_top.specs.declared.said.Verdict.{Verdict}
use Rattle.wf_top.specs.declared.said.Verdict.TheVariants.{History, Inputs}
use Rattle.wf_top.specs.declared.words.Command.{Command}
use Rattle.wf_top.specs.declared.words.Command.TheVariants.{Check, Run, Trace, Resubmit, ResubmitSet, Drill, Fires, Session}
use Rattle.wf_top.proofs.Spoken.{again_no_talk}
use Rattle.wf_top.proofs.Completeness.{no_talk, IsTold, MayBeSaid, defined_on, held_on, say_by}

-- nothing stands against what may be resubmitted and doesn't cost too much
abbrev pub NothingAgainst : Type 0
NothingAgainst =
    (d : DefTree) (r : RecordTree) (names : List (List ℕ)) (i : InputsTree) (f : ResubmissionFault) → MayBeResubmitted d r names
    → cost (pinned d r i (numbers_of d.top names)) ≤ 67108864 → IsNotResubmitted d r names i f → ⊥

module _ (bytes_of : List ℕ → Option (List ℕ)) (words : List (List ℕ)) (verdict : Verdict) (text : List ℕ) where
  -- a command that resubmits goes on with the definition that DEF holds
  again_on : (command : Command) (d : DefTree) → resubmits command ≡ true → HoldsDefinition bytes_of words command d →
      MayBeSaid bytes_of words verdict text (plan command words) →
      MayBeSaid bytes_of words verdict text (resubmit (asked_of command words) d)
  unfolding plan
  again_on Check d anew holds saying = absurd cc
  again_on Run d anew holds saying = absurd cc
  again_on Trace d anew holds saying = absurd cc
  again_on (Fires from count) d anew holds saying = absurd cc
  again_on (Drill n) d anew holds saying = absurd cc
  again_on Session d anew holds saying = absurd cc
  again_on Command.List d anew holds saying = absurd cc
  again_on Resubmit d anew holds saying = defined_on bytes_of words verdict text Resubmit d holds saying
  again_on ResubmitSet d anew holds saying = defined_on bytes_of words verdict text ResubmitSet d holds saying

  module _ (asked : AskedTree) (d : DefTree) (log : RecordTree) where
    abbrev found : Result RecordTree FindFault
    found = Ok log

    -- the record is the only one of the run that HISTORY holds,
    log_on : Holds bytes_of asked.history history_bytes (history_form asked.run) found →
        MayBeSaid bytes_of words verdict text (resubmit asked d) → MayBeSaid bytes_of words verdict text (remade_with asked d found)
    log_on holds saying =
        held_on bytes_of words verdict text (history_form asked.run) asked.history history_bytes found
        (judged History (codes "history ") (remade_with asked d)) holds saying

    -- the inputs are those that INPUTS holds,
    answers_on : (inputs : InputsTree) → Holds bytes_of asked.inputs inputs_bytes inputs_form inputs →
        MayBeSaid bytes_of words verdict text (remade_with asked d found) →
        MayBeSaid bytes_of words verdict text (remade_under asked d asked.schedule found inputs)
    answers_on inputs holds saying =
        held_on bytes_of words verdict text inputs_form asked.inputs inputs_bytes inputs
        (judged Inputs (codes "inputs ") (remade_under asked d asked.schedule found)) holds saying

    -- and the schedule is the one that SCHEDULE holds
    times_on : (inputs : InputsTree) (named : Option (List ℕ)) (schedule : List ℕ) → HoldsSchedule bytes_of named schedule →
        MayBeSaid bytes_of words verdict text (remade_under asked d named found inputs) →
        MayTellAgain d log asked.names inputs schedule verdict text
    times_on inputs None schedule is saying = subst (λ s. MayTellAgain d log asked.names inputs s verdict text) (sym is) saying
    times_on inputs (Some name) schedule holds saying =
        held_on bytes_of words verdict text schedule_form name schedule_bytes schedule
        (judged Inputs (codes "schedule ") (λ numbers. remade asked d inputs numbers found)) holds saying

  passed_again : NothingAgainst → (command : Command) (d : DefTree) (log : RecordTree) (inputs : InputsTree) (schedule : List ℕ) →
      PassesAgain bytes_of words command d log inputs schedule → MayBeSaid bytes_of words verdict text (plan command words) →
      SaysAgain d log (asked_of command words).names inputs schedule verdict text
  passed_again nothing command d log inputs schedule passes saying =
      let asked = asked_of command words in
      let told : MayTellAgain d log asked.names inputs schedule verdict text =
      times_on asked d log inputs asked.schedule schedule passes.schedule_held
      (answers_on asked d log inputs passes.inputs_held
      (log_on asked d log passes.log_held
      (again_on command d passes.again passes.definition_held saying))) in
      elim told [
        | inl done ↦ done
        | inr none ↦ absurd (nothing d log asked.names inputs none.0 passes.may passes.small none.1)
      ]

module _ (bytes_of : List ℕ → Option (List ℕ)) (words : List (List ℕ)) (status : ℕ) (text : List ℕ) where
  says_again : NothingAgainst → (command : Command) (d : DefTree) (log : RecordTree) (inputs : InputsTree) (schedule : List ℕ) →
      PassesAgain bytes_of words command d log inputs schedule → Say bytes_of words status text →
      (status ≡ 0) × TellsResubmission d log (asked_of command words).names inputs schedule text
  says_again nothing command d log inputs schedule passes saying =
      let s = say_by bytes_of words status text command passes.definition_held.names saying in
      let said = passed_again bytes_of words s.0 text nothing command d log inputs schedule passes s.2 in (s.1 ∙ ap number said.0, said.1)

pub serves_remade : NothingAgainst → (held : Held) (words : List (List ℕ)) (old new : List (List ℕ)) (before after : Option (List ℕ))
    (count later result : ℕ) → IsTold held words old new before after count later result →
    IfSome held (λ bytes_of. (command : Command) (d : DefTree) (log : RecordTree) (inputs : InputsTree) (schedule : List ℕ) →
    PassesAgain bytes_of words command d log inputs schedule → new ≡ old → IsCalm count later →
    IsToldAgain d log (asked_of command words).names inputs schedule before after result)
serves_remade nothing None words old new before after count later result said = tt
serves_remade nothing (Some bytes_of) words old new before after count later result said =
    λ command d log inputs schedule passes same calm.
    elim (said (no_talk bytes_of words command (again_no_talk command passes.again) passes.definition_held.names) same calm) [
      | inl all ↦
          let is = says_again bytes_of words result all.0 nothing command d log inputs schedule passes all.1 in
          inl (all.0, is.0, is.1, all.2)
      | inr spent ↦ inr spent
    ]
