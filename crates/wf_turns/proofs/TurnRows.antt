-- Worked rows. What they tell, by kind and at the edges; and what a row costs.
use Rattle.std.proofs.Common.{◌≡◌, ℕ, List, [], ◌∷◌, map, refl}
use Rattle.std.specs.Prelude.{◌*◌, suc, true, false, codes}
use Rattle.wf_val.specs.ValueTree.{null}
use Rattle.wf_retry.specs.declared.policy.Policy.{Policy}
use Rattle.wf_retry.specs.declared.policy.Outcome.{Outcome}
use Rattle.wf_template.specs.TemplateTree.{whole}
use Rattle.wf_template.specs.CondTree.{holds}
use Rattle.wf_answers.specs.AnswerTree.{AnswerTree}
use Rattle.wf_known_laws.specs.ActionTree.{ActionTree, KindTree, compose, connector, foreach, until, action_trees}
use Rattle.wf_record.specs.Cost.{row_cost}
use Rattle.wf_record.specs.Record.{RowTree}
use Rattle.wf_meant.proofs.Terms.{act, apply, ask, failure_of, fields, many, nat, num, obj, of, of_actions, replied, rows_in, say}
use Rattle.wf_meant.proofs.Terms.{tracking, txt, unrun}
use Rattle.wf_turns.specs.Turns.{turns}

-- of all rows, in the order of their addresses
abbrev turns-of : List ActionTree → List AnswerTree → List ℕ
turns-of as' answers = map (λ r. turns r.row) (rows_in (of_actions as') answers)

-- ---- attempts

abbrev request : KindTree
request = connector (obj ((codes "method", txt "GET") ∷ (codes "uri", txt "u") ∷ [])) (Policy.Count 2)

abbrev reply : ℕ → Outcome → AnswerTree
reply k outcome = replied "A" [] k outcome (fields []) null

calls-one : turns-of (act "A" 0 [] request ∷ []) (reply 1 (Outcome.Code 200) ∷ []) ≡ 1 ∷ []
calls-one = refl

calls-no_answer : turns-of (act "A" 0 [] request ∷ []) [] ≡ 1 ∷ []
calls-no_answer = refl

calls-all : turns-of (act "A" 0 [] request ∷ [])
    (reply 1 (Outcome.Code 503) ∷ reply 2 Outcome.NoConnection ∷ reply 3 (Outcome.Code 503) ∷ reply 4 (Outcome.Code 200) ∷ []) ≡ 3 ∷ []
calls-all = refl

calls-none : turns-of
    (act "A" 0 [] (connector (of (apply "div" (num 1 ∷ num 0 ∷ []))) (Policy.Count 2)) ∷ []) (reply 1 (Outcome.Code 200) ∷ []) ≡ 0 ∷ []
calls-none = refl

calls-skipped : turns-of (act "A" 0 (failure_of 1) request ∷ act "B" 1 [] (compose (nat 1)) ∷ []) (reply 1 (Outcome.Code 200) ∷ [])
    ≡ 0 ∷ 0 ∷ []
calls-skipped = refl

-- what takes in and gives out a list has no iterations
makes-list : turns-of (act "A" 0 [] (compose (many (nat 1 ∷ nat 2 ∷ []))) ∷ []) [] ≡ 0 ∷ []
makes-list = refl

-- ---- the items of a Foreach: its row comes behind those of C

abbrev body : KindTree
body = compose (nat 1)

each-three : turns-of
    (act "L" 1 [] (foreach (many (nat 1 ∷ nat 2 ∷ nat 3 ∷ [])) 20 (action_trees (act "C" 0 [] body ∷ []))) ∷ []) [] ≡ 0 ∷ 0 ∷ 0 ∷ 3 ∷ []
each-three = refl

each-none : turns-of (act "L" 1 [] (foreach (many []) 20 (action_trees (act "C" 0 [] body ∷ []))) ∷ []) [] ≡ 0 ∷ []
each-none = refl

each-no_list : turns-of (act "L" 1 [] (foreach (of (num 1)) 20 (action_trees (act "C" 0 [] body ∷ []))) ∷ []) [] ≡ 0 ∷ []
each-no_list = refl

-- one whose iterations Failed keeps its items, and so does one with tracked properties
each-failing : turns-of
    (act "L" 1 [] (foreach (many (nat 1 ∷ nat 2 ∷ [])) 20
    (action_trees (act "C" 0 [] (compose (of (apply "div" (num 1 ∷ num 0 ∷ [])))) ∷ []))) ∷ []) [] ≡ 0 ∷ 0 ∷ 2 ∷ []
each-failing = refl

each-tracked : turns-of (tracking ((codes "k", nat 7) ∷ [])
    (act "L" 1 [] (foreach (many (nat 1 ∷ nat 2 ∷ [])) 20 (action_trees (act "C" 0 [] body ∷ [])))) ∷ []) [] ≡ 0 ∷ 0 ∷ 2 ∷ []
each-tracked = refl

-- ---- the rounds of an Until

abbrev never : (most : ℕ) → KindTree
never most = until (holds (whole (apply "equals" (num 1 ∷ num 2 ∷ [])))) most false (action_trees (act "C" 0 [] body ∷ []))

-- its test is met after the second
rounds-met : turns-of
    (act "U" 1 [] (until (holds (whole (apply "equals" (ask "outputs" (say "C") ∷ num 1 ∷ [])))) 5 false
    (action_trees (act "C" 0 [] (compose (of (ask "iterationIndexes" (say "U")))) ∷ []))) ∷ []) [] ≡ 0 ∷ 0 ∷ 2 ∷ []
rounds-met = refl

rounds-one : turns-of (act "U" 1 [] (never 1) ∷ []) [] ≡ 0 ∷ 1 ∷ []
rounds-one = refl

rounds-count : turns-of (act "U" 1 [] (never 3) ∷ []) [] ≡ 0 ∷ 0 ∷ 0 ∷ 3 ∷ []
rounds-count = refl

-- the count is reached, and that is a failure
rounds-fail : turns-of
    (act "U" 1 [] (until (holds (whole (apply "equals" (num 1 ∷ num 2 ∷ [])))) 2 true (action_trees (act "C" 0 [] body ∷ []))) ∷ []) []
    ≡ 0 ∷ 0 ∷ 2 ∷ []
rounds-fail = refl

-- a test that has no value
rounds-untold : turns-of
    (act "U" 1 [] (until (holds (whole (apply "div" (num 1 ∷ num 0 ∷ [])))) 3 false (action_trees (act "C" 0 [] body ∷ []))) ∷ []) []
    ≡ 0 ∷ 1 ∷ []
rounds-untold = refl

rounds-tracked : turns-of (tracking ((codes "k", nat 7) ∷ []) (act "U" 1 [] (never 2)) ∷ []) [] ≡ 0 ∷ 0 ∷ 2 ∷ []
rounds-tracked = refl

-- one that is Skipped had none
rounds-skipped : turns-of (act "F" 2 [] body ∷ act "U" 1 (failure_of 2) (never 2) ∷ []) [] ≡ 0 ∷ 0 ∷ []
rounds-skipped = refl

-- ---- what rows cost

abbrev pays : RowTree → List ℕ
pays r = 64 * suc (turns r.row) ∷ row_cost r ∷ []

-- one is its least: no attempt, no iteration, and four empty values
costs-skipped : pays (unrun "A" []) ≡ 64 ∷ 68 ∷ []
costs-skipped = refl
