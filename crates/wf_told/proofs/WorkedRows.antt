-- Worked values: what is written of runs, when they cost too much together, and which runs of a definition are made.
use Rattle.std.proofs.Common.{◌≡◌, ◌↔◌, ℕ, Bool, List, [], ◌∷◌, ◌++◌, Some, None, Option, Ok, Err, length, replicate, refl}
use Rattle.std.proofs.Common.{sym, subst}
use Rattle.std.proofs.lemmas.List.{length-replicate}
use Rattle.std.specs.Fmt.{digits}
use Rattle.std.specs.Prelude.{codes}
use Rattle.wf_answers.specs.Inputs.{InputsTree}
use Rattle.wf_def.specs.ActionTree.{ActionTree, action_trees, compose}
use Rattle.wf_def.specs.DefTree.{DefTree, OutputTree, TriggerTree}
use Rattle.wf_prepare.proofs.Terms.{act, nat, ran, success_of, value}
use Rattle.wf_prepare.specs.Record.{meaning}
use Rattle.wf_record.specs.Cost.{cost}
use Rattle.wf_record.specs.Record.{RecordTree, RowTree, record_line}
use Rattle.wf_record.specs.Worked.{at_rounds, empty, finished, object_of, number_of, list_of}
use Rattle.wf_record.specs.declared.attempt.Try.{Try}
use Rattle.wf_record.specs.declared.status.RunStatus.{RunStatus}
use Rattle.wf_record.specs.declared.status.Status.{Status}
use Rattle.wf_told.specs.Under.{Told}
use Rattle.wf_template.specs.DataTree as inputs
use Rattle.wf_template.specs.ExprTree.{ExprTree, literal, call, expr_trees}
use Rattle.wf_template.specs.TemplateTree.{TemplateTree, whole}
use Rattle.wf_prepare.specs.Starts.{StartTree}
use Rattle.wf_prepare.specs.TriggerFault.{TriggerFault}
use Rattle.wf_val.specs.ValueTree.{ValueTree, null, text}
use Rattle.wf_val.specs.declared.fault.EvalFault.{EvalFault}
use Rattle.wf_val.specs.declared.function.Fun.{Fun}
use Rattle.wf_told.specs.Records.{records_within, runs_records, starts_of}
use Rattle.wf_told.specs.Runs.{TellsRuns}
use Rattle.wf_told.specs.Summary.{summary_line}
use Rattle.wf_told.specs.Text.{records_left, text_of}
use Rattle.wf_told.specs.declared.fault.RunsFault.{RunsFault}
use Rattle.wf_told.proofs.IdleLemmas.{idle, idle_tells, only_idle_text}

-- ---- the summary line

summary-run : summary_line (codes "r-1") 7 2 ≡ codes "# run r-1 steps 7 peak 2\n"
unfolding summary_line digits
summary-run = refl

summary-idle : summary_line (codes "r") 0 0 ≡ codes "# run r steps 0 peak 0\n"
unfolding summary_line digits
summary-idle = refl

summary-many : summary_line (codes "r") 1000 500 ≡ codes "# run r steps 1000 peak 500\n"
unfolding summary_line digits
summary-many = refl

-- ---- the text

-- a run that left this record, of which these events are told, and so many steps and actions at a time
abbrev told : List ℕ → RecordTree → ℕ → ℕ → Told
told events r steps peak = record { events = events; left = r; steps = steps; peak = peak }

text-none : text_of [] ≡ codes "# no run\n"
text-none = refl

text-one : text_of (idle empty ∷ []) ≡ (record_line empty ++ codes "# run r steps 0 peak 0\n") ++ []
unfolding summary_line digits
text-one = refl

-- events above the record, and the summary below it
text-traced : text_of (told (codes "# 1 Skip A\n") empty 1 0 ∷ [])
    ≡ (codes "# 1 Skip A\n" ++ record_line empty ++ codes "# run r steps 1 peak 0\n") ++ []
unfolding summary_line digits
text-traced = refl

-- the events of each run above its own record, in the order of the runs
text-two : text_of (told (codes "# 1 Skip A\n") empty 1 0 ∷ told (codes "# 1 Start B 1\n") finished 2 1 ∷ [])
    ≡ (codes "# 1 Skip A\n" ++ record_line empty ++ codes "# run r steps 1 peak 0\n")
    ++ ((codes "# 1 Start B 1\n" ++ record_line finished ++ codes "# run r-1 steps 2 peak 1\n") ++ [])
unfolding summary_line digits
text-two = refl

-- ---- the cost

-- Attempts of which nothing is known but how many they are. The list isn't written out: of it the number alone counts.
calls : ℕ → List Try
calls count = replicate count Try.Unknown

counted : (count : ℕ) → length (calls count) ≡ count
unfolding calls
counted count = length-replicate count Try.Unknown

-- a run of one call with so many attempts, which took in a text of so many bytes
abbrev costly : ℕ → ℕ → RecordTree
costly attempts bytes = record {
  run = codes "r";
  digest = [];
  trigger = null;
  parameters = [];
  status = RunStatus.Succeeded;
  error = null;
  response = null;
  outputs = null;
  rows = record {
    address = at_rounds (codes "A") [];
    row = record {
      status = Status.Succeeded;
      code = codes "200";
      inputs = text (replicate bytes 97);
      outputs = null;
      error = null;
      tracked = null;
      attempts = calls attempts;
    };
  } ∷ [];
}

-- 64 for the run and 3 for what it holds, 64 for the row, 64 for each attempt, and 4 and the bytes of the text
cost-least : cost (costly 0 0) ≡ 135
cost-least = rw (counted 0) refl

cost-more : cost (costly 2 5) ≡ 268
cost-more = rw (counted 2) refl

-- runs that cost 2^26 and one more, 2^25 and one more, and 2^24
abbrev most : RecordTree
most = costly 1048573 57

abbrev past_most : RecordTree
past_most = costly 1048573 58

abbrev half : RecordTree
half = costly 524285 57

abbrev past_half : RecordTree
past_half = costly 524285 58

abbrev quarter : RecordTree
quarter = costly 262141 57

-- 2^26 is not too much, and one more is
within-most : records_within (most ∷ []) ≡ Ok (most ∷ [])
within-most = rw (counted 1048573) refl

within-one_more : records_within (past_most ∷ []) ≡ Err RunsFault.TooLarge
within-one_more = rw (counted 1048573) refl

-- it is the sum that counts, 2^25 and 2^25, and not the greatest
within-two : records_within (half ∷ half ∷ []) ≡ Ok (half ∷ half ∷ [])
within-two = rw (counted 524285) refl

within-two_more : records_within (half ∷ past_half ∷ []) ≡ Err RunsFault.TooLarge
within-two_more = rw (counted 524285) refl

within-four : records_within (quarter ∷ quarter ∷ quarter ∷ quarter ∷ []) ≡ Ok (quarter ∷ quarter ∷ quarter ∷ quarter ∷ [])
within-four = rw (counted 262141) refl

within-five : records_within (quarter ∷ quarter ∷ quarter ∷ quarter ∷ empty ∷ []) ≡ Err RunsFault.TooLarge
within-five = rw (counted 262141) refl

within-none : records_within [] ≡ Ok []
within-none = refl

-- what is told of events, and how many there were, costs nothing
within-told : records_within (records_left (told (codes "# 1 Skip A\n") most 1000 500 ∷ [])) ≡ Ok (most ∷ [])
within-told = rw (counted 1048573) refl

-- ---- the runs of a definition

abbrev call_of : List ℕ → List ExprTree → TemplateTree
call_of name arguments = whole (call name (expr_trees arguments))

abbrev divided : TemplateTree
divided = call_of (codes "div") (literal (number_of 1) ∷ literal (number_of 0) ∷ [])

abbrev unequal : TemplateTree
unequal = call_of (codes "equals") (literal (number_of 1) ∷ literal (number_of 2) ∷ [])

abbrev body : TemplateTree
body = call_of (codes "triggerBody") []

-- with these triggers, outputs and actions
abbrev definition : List TriggerTree → List OutputTree → List ActionTree → DefTree
definition triggers outputs actions = record {
  digest = [];
  parameters = [];
  given = [];
  triggers = triggers;
  top = action_trees actions;
  outputs = outputs;
}

-- B waits for A
abbrev two : List ActionTree
two = act "A" 0 [] (compose (nat 1)) ∷ act "B" 1 (success_of 0) (compose (nat 2)) ∷ []

abbrev trigger : Option TemplateTree → List TemplateTree → List TriggerTree
trigger split conditions = record { name = codes "t"; split = split; conditions = conditions } ∷ []

-- one run, and one for each item of the body
abbrev whole_body : List TriggerTree
whole_body = trigger None []

abbrev split_body : List TriggerTree
split_body = trigger (Some body) []

-- inputs of a trigger with this body
abbrev handed : ValueTree → InputsTree
handed body = record {
  run = codes "r1";
  seed = codes "s";
  moment = 0;
  trigger = None;
  outputs = object_of ((codes "body", body) ∷ []);
  parameters = [];
  answers = [];
}

abbrev seven_and_eight : InputsTree
seven_and_eight = handed (list_of (number_of 7 ∷ number_of 8 ∷ []))

abbrev trigger_with : ValueTree → ValueTree
trigger_with body = object_of ((codes "name", text (codes "t")) ∷ (codes "outputs", object_of ((codes "body", body) ∷ [])) ∷ [])

-- a run of the trigger with this body
abbrev start : List ℕ → List ℕ → ValueTree → StartTree
start run seed body = record { run = run; seed = seed; trigger = trigger_with body; parameters = [] }

-- what is left of it, where it gave out these outputs and has these rows
abbrev left_with : List ℕ → ValueTree → ValueTree → List RowTree → RecordTree
left_with run body outputs rows = record {
  run = run;
  digest = [];
  trigger = trigger_with body;
  parameters = [];
  status = RunStatus.Succeeded;
  error = null;
  response = null;
  outputs = outputs;
  rows = rows;
}

abbrev left : List ℕ → ValueTree → ValueTree → RecordTree
left run body outputs = left_with run body outputs []

abbrev output : TemplateTree → List OutputTree
output template = record { name = codes "o"; value = inputs.text template } ∷ []

-- which runs start
starts-one : starts_of (definition whole_body [] two) (handed (number_of 5)) ≡ Ok (start (codes "r1") (codes "s") (number_of 5) ∷ [])
starts-one = refl

starts-split : starts_of (definition split_body [] two) seven_and_eight
    ≡ Ok (start (codes "r1-0") (codes "s-0") (number_of 7) ∷ start (codes "r1-1") (codes "s-1") (number_of 8) ∷ [])
unfolding digits
starts-split = refl

-- ---- their records

records-one : runs_records (definition whole_body [] []) (handed (number_of 5))
    ≡ Ok (left (codes "r1") (number_of 5) (object_of []) ∷ [])
unfolding meaning
records-one = refl

records-split : runs_records (definition split_body [] []) seven_and_eight
    ≡ Ok (left (codes "r1-0") (number_of 7) (object_of []) ∷ left (codes "r1-1") (number_of 8) (object_of []) ∷ [])
unfolding meaning digits
records-split = refl

-- each run has the rows of all actions
records-actions : runs_records (definition split_body [] two) seven_and_eight ≡ Ok (
    left_with (codes "r1-0") (number_of 7) (object_of [])
    (ran "A" [] (value 1) (value 1) ∷ ran "B" [] (value 2) (value 2) ∷ [])
    ∷ left_with (codes "r1-1") (number_of 8) (object_of [])
    (ran "A" [] (value 1) (value 1) ∷ ran "B" [] (value 2) (value 2) ∷ [])
    ∷ [])
unfolding meaning digits
records-actions = refl

-- what an output gives is each run's own
records-outputs : runs_records (definition split_body (output body) []) seven_and_eight
    ≡ Ok (left (codes "r1-0") (number_of 7) (object_of ((codes "o", number_of 7) ∷ []))
    ∷ left (codes "r1-1") (number_of 8) (object_of ((codes "o", number_of 8) ∷ [])) ∷ [])
unfolding meaning digits
records-outputs = refl

-- an output without a value fails the run, which is written all the same
records-output_fault : runs_records (definition whole_body (output divided) []) (handed null) ≡ Ok (record {
  run = codes "r1";
  digest = [];
  trigger = trigger_with null;
  parameters = [];
  status = RunStatus.Failed;
  error = object_of ((codes "code", text (codes "InvalidTemplate")) ∷ (codes "message", text (codes "Range div")) ∷ []);
  response = null;
  outputs = null;
  rows = [];
} ∷ [])
unfolding meaning
records-output_fault = refl

records-split_of_nothing : runs_records (definition split_body [] two) (handed (list_of [])) ≡ Ok []
records-split_of_nothing = refl

records-no_list : runs_records (definition split_body [] two) (handed (number_of 5)) ≡ Err (RunsFault.Trigger TriggerFault.SplitNotList)
records-no_list = refl

records-condition : runs_records (definition (trigger None (unequal ∷ [])) [] two) (handed null) ≡ Ok []
records-condition = refl

records-condition_fault : runs_records (definition (trigger None (divided ∷ [])) [] two) (handed null)
    ≡ Err (RunsFault.Trigger (TriggerFault.Condition (EvalFault.Range Fun.Div)))
records-condition_fault = refl

-- ---- what is told of them

-- where none starts, that is said, whatever the actions and the schedule
tells-split_of_nothing : (schedule : List ℕ) (traced : Bool)
    → TellsRuns (definition split_body [] two) (handed (list_of [])) schedule traced (codes "# no run\n")
tells-split_of_nothing schedule traced = record { starts = []; runs = []; start = refl; told = tt; records = refl; text_is = refl }

tells-condition : (schedule : List ℕ) (traced : Bool)
    → TellsRuns (definition (trigger None (unequal ∷ [])) [] two) (handed null) schedule traced (codes "# no run\n")
tells-condition schedule traced = record { starts = []; runs = []; start = refl; told = tt; records = refl; text_is = refl }

-- Without actions there is no event, whatever the schedule, and nothing else is told.
abbrev one_text : List ℕ
one_text = text_of (idle (left (codes "r1") (number_of 5) (object_of [])) ∷ [])

tells-one : (schedule : List ℕ) (traced : Bool) (said : List ℕ)
    → TellsRuns (definition whole_body [] []) (handed (number_of 5)) schedule traced said ↔ (said ≡ one_text)
unfolding meaning
tells-one schedule traced said =
    let d = definition whole_body [] [] in
    let starts = start (codes "r1") (codes "s") (number_of 5) ∷ [] in (
      only_idle_text d refl (handed (number_of 5)) schedule traced starts refl said,
      λ is. subst (TellsRuns d (handed (number_of 5)) schedule traced) (sym is)
          (idle_tells d refl (handed (number_of 5)) schedule traced starts refl refl),
    )

-- each run of a split has its own lines, in the order of the items
abbrev split_text : List ℕ
split_text =
    text_of (idle (left (codes "r1-0") (number_of 7) (object_of [])) ∷ idle (left (codes "r1-1") (number_of 8) (object_of [])) ∷ [])

tells-split : (schedule : List ℕ) (traced : Bool) (said : List ℕ)
    → TellsRuns (definition split_body [] []) seven_and_eight schedule traced said ↔ (said ≡ split_text)
unfolding meaning digits
tells-split schedule traced said =
    let d = definition split_body [] [] in
    let starts = start (codes "r1-0") (codes "s-0") (number_of 7) ∷ start (codes "r1-1") (codes "s-1") (number_of 8) ∷ [] in (
      only_idle_text d refl seven_and_eight schedule traced starts refl said,
      λ is. subst (TellsRuns d seven_and_eight schedule traced) (sym is)
          (idle_tells d refl seven_and_eight schedule traced starts refl refl),
    )
