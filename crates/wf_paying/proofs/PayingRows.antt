-- Worked rows: what runs cost before their first event, and what rows cost that definitions mean.
use Rattle.std.proofs.Common.{◌≡◌, ℕ, false, List, [], ◌∷◌, refl}
use Rattle.std.specs.Prelude.{codes, decimal}
use Rattle.wf_val.specs.ValueTree.{null}
use Rattle.wf_retry.specs.declared.policy.Outcome.{Outcome}
use Rattle.wf_retry.specs.declared.policy.Policy.{Policy}
use Rattle.wf_template.specs.CondTree.{holds}
use Rattle.wf_template.specs.ExprTree.{member}
use Rattle.wf_template.specs.TemplateTree.{whole}
use Rattle.wf_answers.specs.AnswerTree.{AnswerTree}
use Rattle.wf_turns.specs.Starts.{StartTree}
use Rattle.wf_def.specs.ActionTree.{KindTree, action_trees, case_trees, compose, connector, foreach, switch, until}
use Rattle.wf_def.specs.DefTree.{DefTree}
use Rattle.wf_turns.specs.Record.{depth_of}
use Rattle.wf_turns.specs.Resubmitted.{pinned_table}
use Rattle.wf_turns.specs.Source.{table_of}
use Rattle.wf_record.specs.Record.{RecordTree}
use Rattle.wf_record.specs.declared.attempt.Try.{Try}
use Rattle.wf_record.specs.declared.status.RunStatus.{RunStatus}
use Rattle.wf_record.specs.declared.status.Status.{Status}
use Rattle.wf_turns.proofs.Terms.{act, alone, answered, apply, called, ended, failure_of, fields, inputs_again, many, nat, num, obj}
use Rattle.wf_turns.proofs.Terms.{of_actions, ran, record_is, replied, started, success_of, tracking, txt, unrun, value, words}
use Rattle.wf_paying.specs.Paying.{first_cost, rows_meant}

-- ---- before the first event

-- 64, and 1 for null and for the object of no parameters
first-least : first_cost started ≡ 66
first-least = refl

-- 4 for the text, and 4 for the object: 1 for itself, 2 for the name and 1 for the number
abbrev with_more : StartTree
with_more = record { run = codes "r"; seed = codes "s"; trigger = words "abc"; parameters = (codes "p", value 1) ∷ [] }

first-more : first_cost with_more ≡ 72
first-more = refl

-- ---- rows

abbrev meant_cost : DefTree → List AnswerTree → ℕ
meant_cost d answers = rows_meant d (table_of d (answered answers) (depth_of d))

abbrev body : KindTree
body = compose (nat 1)

rows-none : meant_cost (of_actions []) [] ≡ 0
rows-none = refl

-- 64, and 1 for each of its inputs, its outputs, its error and its tracked properties
rows-one : meant_cost (of_actions (act "A" 0 [] body ∷ [])) [] ≡ 68
rows-one = refl

-- tracked properties that have a member weigh 3 more: 2 for the name and 1 for the number
rows-tracked : meant_cost (of_actions (tracking ((codes "k", nat 7) ∷ []) (act "A" 0 [] body) ∷ [])) [] ≡ 71
rows-tracked = refl

-- one that is Skipped has a row
rows-skipped : meant_cost (of_actions (act "A" 0 [] body ∷ act "B" 1 (failure_of 0) body ∷ [])) [] ≡ 136
rows-skipped = refl

-- three attempts, inputs that weigh 18 and outputs that weigh 28
abbrev request : KindTree
request = connector (obj ((codes "method", txt "GET") ∷ (codes "uri", txt "u") ∷ [])) (Policy.Count 2)

abbrev reply : ℕ → Outcome → AnswerTree
reply k outcome = replied "A" [] k outcome (fields []) null

rows-attempts : meant_cost (of_actions (act "A" 0 [] request ∷ []))
    (reply 1 (Outcome.Code 503) ∷ reply 2 (Outcome.Code 503) ∷ reply 3 (Outcome.Code 200) ∷ []) ≡ 304
rows-attempts = refl

-- two iterations, each with a row; a list that weighs 3
rows-items : meant_cost
    (of_actions (act "L" 1 [] (foreach (many (nat 1 ∷ nat 2 ∷ [])) 20 (action_trees (act "C" 0 [] body ∷ []))) ∷ [])) []
    ≡ 334
rows-items = refl

-- one iteration with its row; outputs that weigh 13
rows-rounds : meant_cost
    (of_actions (act "U" 1 [] (until (holds (whole (apply "equals" (num 1 ∷ num 2 ∷ [])))) 1 false
    (action_trees (act "C" 0 [] body ∷ []))) ∷ [])) [] ≡ 212
rows-rounds = refl

-- ---- rows of resubmissions

-- three attempts that are kept, as above, and one row that is redone
abbrev kept-before : RecordTree
kept-before = record_is RunStatus.Succeeded null null (fields []) (
    called (Try.Code 503 ∷ Try.Code 503 ∷ Try.Code 200 ∷ []) (ended "A" [] Status.Succeeded (decimal 200)
    (fields ((codes "method", words "GET") ∷ (codes "uri", words "u") ∷ []))
    (fields ((codes "body", null) ∷ (codes "headers", fields []) ∷ (codes "statusCode", value 200) ∷ [])))
    ∷ ran "B" [] (value 7) (value 7)
    ∷ [])

abbrev resubmitted_cost : DefTree → RecordTree → List ℕ → ℕ
resubmitted_cost d r from = rows_meant d (pinned_table d r (inputs_again []) from)

rows-kept : resubmitted_cost (of_actions (act "A" 0 [] request ∷ act "B" 1 (success_of 0) body ∷ [])) kept-before (1 ∷ []) ≡ 372
rows-kept = refl

-- A Switch that is closed again keeps the value that it had decided by, of the weight 3, though it would decide by another now.
abbrev choosing : DefTree
choosing = of_actions (
    act "W" 1 [] (switch (whole (member (member (alone "workflow") (codes "run") false) (codes "name") false)) (case_trees
    ((codes "One", (words "r1", action_trees (act "Y" 2 [] body ∷ [])))
    ∷ (codes "Two", (words "r2", action_trees (act "N" 0 [] body ∷ [])))
    ∷ [])))
    ∷ [])

abbrev chosen-before : RecordTree
chosen-before = record_is RunStatus.Succeeded null null (fields []) (
    unrun "N" [] ∷ ran "W" [] (words "r1") null ∷ ran "Y" [] (value 7) (value 7) ∷ [])

rows-closed-again : resubmitted_cost choosing chosen-before (2 ∷ []) ≡ 206
rows-closed-again = refl
