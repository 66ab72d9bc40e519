-- Worked rows of resubmissions: of a definition without actions, whose record is that of a fresh run but for what the old one has; and of
-- one with an action, where there is none to tell.
use Rattle.std.proofs.Common.{◌≡◌, ◌↔◌, ℕ, Bool, List, [], ◌∷◌, ◌++◌, None, length, refl, sym, ap, ◌∙◌, subst, lit≤}
use Rattle.std.specs.Fmt.{digits}
use Rattle.std.specs.Prelude.{codes}
use Rattle.wf_answers.specs.Inputs.{InputsTree}
use Rattle.wf_def.specs.ActionTree.{ActionTrees, action, action_then, compose, no_actions}
use Rattle.wf_def.specs.DefTree.{DefTree}
use Rattle.wf_layers.specs.Machine as machine
use Rattle.wf_scheduled.specs.Counts.{peak}
use Rattle.wf_prepare.specs.Resubmitted.{pinned, pinned_source}
use Rattle.wf_prepare.specs.Prepared.{MayBeResubmitted, named}
use Rattle.wf_record.specs.Cost.{cost}
use Rattle.wf_record.specs.Record.{Row, RecordTree, RowTree, record_line}
use Rattle.wf_record.specs.declared.status.RunStatus.{RunStatus}
use Rattle.wf_record.specs.declared.status.Status.{Status}
use Rattle.wf_prepare.specs.ResubmitFault.{ResubmitFault}
use Rattle.wf_template.specs.DataTree as data_
use Rattle.wf_val.specs.ValueTree.{ValueTree, members, null, object, text}
use Rattle.wf_told.specs.Resubmissions.{IsNotResubmitted, IsResubmittedUnder, TellsResubmission, refused, resumed_state}
use Rattle.wf_told.specs.Summary.{summary_line}
use Rattle.wf_told.specs.Text.{run_text}
use Rattle.wf_told.specs.Under.{Told}
use Rattle.wf_told.specs.declared.fault.ResubmissionFault.{ResubmissionFault}
use Rattle.wf_told.proofs.IdleLemmas.{idle, idle_turns, no_event, told_by}

abbrev definition : ActionTrees → List ℕ → DefTree
definition top digest = record { digest = digest; parameters = []; given = []; triggers = []; top = top; outputs = [] }

abbrev log : List RowTree → List ℕ → RecordTree
log rows digest = record {
  run = codes "r1";
  digest = digest;
  trigger = text (codes "by hand");
  parameters = [];
  status = RunStatus.Failed;
  error = null;
  response = null;
  outputs = null;
  rows = rows;
}

abbrev new_inputs : InputsTree
new_inputs = record { run = codes "r2"; seed = codes "s"; moment = 0; trigger = None; outputs = null; parameters = []; answers = [] }

-- ---- nothing to do

abbrev nothing : DefTree
nothing = definition no_actions []

-- The new record has the new run name, and the trigger of the old one; how it ends is asked anew.
abbrev left : RecordTree
left = record {
  run = codes "r2";
  digest = [];
  trigger = text (codes "by hand");
  parameters = [];
  status = RunStatus.Succeeded;
  error = null;
  response = null;
  outputs = object (members []);
  rows = [];
}

left_is : pinned nothing (log [] []) new_inputs [] ≡ left
unfolding pinned
left_is = refl

may-nothing : MayBeResubmitted nothing (log [] []) []
may-nothing = record { accepted = refl; shape = λ y. refl }

resubmitted-nothing : (schedule : List ℕ) → IsResubmittedUnder nothing (log [] []) new_inputs [] schedule (idle left)
unfolding pinned
resubmitted-nothing schedule = record {
  events = [];
  run = idle_turns (pinned_source nothing (log [] []) new_inputs []) (λ x. None) schedule;
  left_is = refl;
  steps_are = refl;
  peak_is = refl;
  lines_are = refl;
}

told-nothing : (schedule : List ℕ) → TellsResubmission nothing (log [] []) [] new_inputs schedule
    (record_line left ++ codes "# run r2 steps 0 peak 0\n")
unfolding summary_line digits
told-nothing schedule = record {
  may = may-nothing;
  run = idle left;
  told = resubmitted-nothing schedule;
  small = lit≤ tt;
  text_is = refl;
}

-- and nothing else is told
only-nothing : (schedule : List ℕ) (t : Told) → IsResubmittedUnder nothing (log [] []) new_inputs [] schedule t → t ≡ idle left
only-nothing schedule t run =
    let none : run.events ≡ [] = no_event (pinned_source nothing (log [] []) new_inputs []) (λ x. None) schedule run.events run.run in
    told_by t left run.lines_are (run.left_is ∙ left_is) (run.steps_are ∙ ap length none) (run.peak_is ∙ ap peak none)

-- ---- none to tell

-- the Compose A
abbrev one_action : List ℕ → DefTree
one_action digest = definition (action_then (action (codes "A") 0 [] [] (compose data_.null) []) no_actions) digest

-- and a row of it
abbrev row_of : Status → RowTree
row_of status = record {
  address = record { name = codes "A"; at = [] };
  row = record { status = status; code = codes "OK"; inputs = null; outputs = null; error = null; tracked = null; attempts = [] };
}

abbrev NotFor : DefTree → RecordTree → List (List ℕ) → ResubmitFault → Type 0
NotFor d r names fault = IsNotResubmitted d r names new_inputs (ResubmissionFault.Refused fault)

-- the least of the names that no action has
no_action : NotFor (one_action []) (log (row_of Status.Succeeded ∷ []) []) (codes "Z" ∷ codes "A" ∷ codes "B" ∷ [])
    (ResubmitFault.NoAction (codes "B"))
no_action = refused (named refl)

no_row : NotFor (one_action []) (log [] []) (codes "A" ∷ []) (ResubmitFault.NotRun (codes "A"))
no_row = refused (named refl)

skipped_row : NotFor (one_action []) (log (row_of Status.Skipped ∷ []) []) (codes "A" ∷ []) (ResubmitFault.NotRun (codes "A"))
skipped_row = refused (named refl)

-- one that failed has run; but the record is of another definition
other_definition : NotFor (one_action (2 ∷ [])) (log (row_of Status.Failed ∷ []) (1 ∷ [])) (codes "A" ∷ [])
    (ResubmitFault.OtherDefinition (record { bytes = 1 ∷ [] }) (record { bytes = 2 ∷ [] }))
other_definition = refused (named refl)
