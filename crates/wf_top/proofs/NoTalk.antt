-- No plan but that of `session` leads to a talk.
use Rattle.std.proofs.Common.{◌≡◌, ℕ, List, [], Bool, Option, None, Some, Result, Ok, Err, refl}
use Rattle.std.specs.Prelude.{codes}
use Rattle.wf_answers.specs.Inputs.{InputsTree}
use Rattle.wf_def.specs.DefTree.{DefTree}
use Rattle.wf_drill.specs.Drill.{drill_definition, drill_inputs}
use Rattle.wf_files.specs.Form.{definition_form, definition_of, history_form, inputs_form, inputs_of, listing_form, schedule_form}
use Rattle.wf_files.specs.Form.{value_form}
use Rattle.wf_files.specs.declared.fault.FindFault.{FindFault}
use Rattle.wf_files.specs.declared.fault.FormFault.{FormFault}
use Rattle.wf_history.specs.History.{ListedTree}
use Rattle.wf_outside.specs.Outside.{Held}
use Rattle.wf_record.specs.Record.{RecordTree}
use Rattle.wf_recur.specs.Reading.{recurrence_of}
use Rattle.wf_recur.specs.declared.fault.RecurrenceFault.{RecurrenceFault}
use Rattle.wf_recur.specs.declared.recurrence.Recurrence.{Recurrence}
use Rattle.wf_top.specs.Commands.{accepted, judged_definition, judged_history, judged_inputs, judged_schedule, judged_value, plan, recurs}
use Rattle.wf_top.specs.Commands.{run, scheduled, triggered}
use Rattle.wf_top.specs.Drill.{drilled_by, drilled_with}
use Rattle.wf_top.specs.Fires.{trigger_in}
use Rattle.wf_top.specs.Plan.{Plan, LeadsTo}
use Rattle.wf_top.specs.Resubmit.{judged, remade, remade_under, remade_with, resubmit}
use Rattle.wf_top.specs.Words.{AskedTree, is_traced, one_asked, schedule_word, set_asked, word}
use Rattle.wf_top.specs.declared.said.Verdict.{Verdict}
use Rattle.wf_top.specs.declared.said.Verdict.TheVariants.{History, Inputs}
use Rattle.wf_top.specs.declared.words.Command.{Command}
use Rattle.wf_top.specs.declared.words.Command.TheVariants.{Check, Run, Trace, Resubmit, ResubmitSet, Drill, Fires, Session}
use Rattle.wf_trigger.specs.Starts.{StartTree}
use Rattle.wf_val.specs.ValueTree.{ValueTree}

module _ (held : Held) (words : List (List ℕ)) (talked : DefTree) (start : StartTree) (given : InputsTree) where
  abbrev Leads : Plan → Type 0
  Leads plan = LeadsTo held plan talked start given

  -- ---- the runs that inputs start

  module _ (traced : Bool) (d : DefTree) where
    no_schedule : (inputs : InputsTree) (form : Result (List ℕ) FormFault) → Leads (judged_schedule traced d inputs form) → ⊥
    no_schedule inputs (Ok schedule) leads = leads
    no_schedule inputs (Err fault) leads = leads

    no_scheduled : (inputs : InputsTree) (named : Option (List ℕ)) → Leads (scheduled traced named d inputs) → ⊥
    no_scheduled inputs None leads = leads
    no_scheduled inputs (Some name) leads = no_schedule inputs (schedule_form leads.0) leads.2

    no_inputs : (named : Option (List ℕ)) (form : Result InputsTree FormFault) → Leads (judged_inputs traced named d form) → ⊥
    no_inputs named (Ok inputs) leads = no_scheduled inputs named leads
    no_inputs named (Err fault) leads = leads

    no_run : (name : List ℕ) (named : Option (List ℕ)) → Leads (run traced name named d) → ⊥
    no_run name named leads = no_inputs named (inputs_form leads.0) leads.2

  -- ---- a resubmission

  no_judged : {T : Type 0} (verdict : Verdict) (part : List ℕ) (next : T → Plan) (form : Result T FormFault) →
      ((t : T) → Leads (next t) → ⊥) → Leads (judged verdict part next form) → ⊥
  no_judged verdict part next (Ok t) none leads = none t leads
  no_judged verdict part next (Err fault) none leads = leads

  module _ (asked : AskedTree) (d : DefTree) where
    no_remade : (inputs : InputsTree) (schedule : List ℕ) (found : Result RecordTree FindFault) →
        Leads (remade asked d inputs schedule found) → ⊥
    no_remade inputs schedule (Ok r) leads = leads
    no_remade inputs schedule (Err fault) leads = leads

    no_remade_under : (named : Option (List ℕ)) (found : Result RecordTree FindFault) (inputs : InputsTree) →
        Leads (remade_under asked d named found inputs) → ⊥
    no_remade_under None found inputs leads = no_remade inputs [] found leads
    no_remade_under (Some name) found inputs leads =
        no_judged Inputs (codes "schedule ") (λ numbers. remade asked d inputs numbers found) (schedule_form leads.0)
        (λ numbers. no_remade inputs numbers found) leads.2

    no_remade_with : (found : Result RecordTree FindFault) → Leads (remade_with asked d found) → ⊥
    no_remade_with found leads =
        no_judged Inputs (codes "inputs ") (remade_under asked d asked.schedule found) (inputs_form leads.0)
        (no_remade_under asked.schedule found) leads.2

    no_resubmit : Leads (resubmit asked d) → ⊥
    no_resubmit leads =
        no_judged History (codes "history ") (remade_with asked d) (history_form asked.run leads.0) no_remade_with leads.2

  -- ---- the other commands

  no_accepted : (command : Command) (d : DefTree) → Leads (accepted command words d) → ⊥
  no_accepted Check d leads = leads
  no_accepted Run d leads = no_run (is_traced Run) d (word words 2) (schedule_word words) leads
  no_accepted Trace d leads = no_run (is_traced Trace) d (word words 2) (schedule_word words) leads
  no_accepted Resubmit d leads = no_resubmit (one_asked words) d leads
  no_accepted ResubmitSet d leads = no_resubmit (set_asked words) d leads
  no_accepted Command.List d leads = leads
  no_accepted (Fires from count) d leads = leads
  no_accepted (Drill n) d leads = leads
  no_accepted Session d leads = leads

  no_definition : (command : Command) (form : Result DefTree FormFault) → Leads (judged_definition command words form) → ⊥
  no_definition command (Ok d) leads = no_accepted command d leads
  no_definition command (Err fault) leads = leads

  no_recurs : (from count : ℕ) (found : Result Recurrence RecurrenceFault) → Leads (recurs from count found) → ⊥
  no_recurs from count (Ok r) leads = leads
  no_recurs from count (Err fault) leads = leads

  no_triggered : (from count : ℕ) (trigger : Option ValueTree) → Leads (triggered from count trigger) → ⊥
  no_triggered from count (Some t) leads = no_recurs from count (recurrence_of t) leads
  no_triggered from count None leads = leads

  no_value : (name : List ℕ) (from count : ℕ) (form : Result ValueTree FormFault) → Leads (judged_value name from count form) → ⊥
  no_value name from count (Ok file) leads = no_triggered from count (trigger_in name file) leads
  no_value name from count (Err fault) leads = leads

  no_history : (form : Result (List ListedTree) FormFault) → Leads (judged_history form) → ⊥
  no_history (Ok listing) leads = leads
  no_history (Err fault) leads = leads

  no_drill_with : (n : ℕ) (d : DefTree) (form : Result InputsTree FormFault) → Leads (drilled_with n d form) → ⊥
  no_drill_with n d (Ok inputs) leads = leads
  no_drill_with n d (Err fault) leads = leads

  no_drill : (n : ℕ) (form : Result DefTree FormFault) → Leads (drilled_by n form) → ⊥
  no_drill n (Ok d) leads = no_drill_with n d (inputs_of (drill_inputs n)) leads
  no_drill n (Err fault) leads = leads

  pub only_session : (command : Command) → Leads (plan command words) → command ≡ Session
  unfolding plan
  only_session Check leads = absurd (no_definition Check (definition_form leads.0) leads.2)
  only_session Run leads = absurd (no_definition Run (definition_form leads.0) leads.2)
  only_session Trace leads = absurd (no_definition Trace (definition_form leads.0) leads.2)
  only_session Resubmit leads = absurd (no_definition Resubmit (definition_form leads.0) leads.2)
  only_session ResubmitSet leads = absurd (no_definition ResubmitSet (definition_form leads.0) leads.2)
  only_session Command.List leads = absurd (no_history (listing_form leads.0) leads.2)
  only_session (Fires from count) leads = absurd (no_value (word words 2) from count (value_form leads.0) leads.2)
  only_session (Drill n) leads = absurd (no_drill n (definition_of (drill_definition n)) leads)
  only_session Session leads = refl
