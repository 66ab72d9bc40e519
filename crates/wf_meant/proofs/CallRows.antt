-- Worked definitions. Connectors, data and tracked properties.
use Rattle.std.proofs.Common.{◌≡◌, [], ◌∷◌, refl}
use Rattle.std.specs.Prelude.{true, false, codes, decimal}
use Rattle.wf_val.specs.ValueTree.{null}
use Rattle.wf_val.specs.declared.fault.EvalFault.{EvalFault}
use Rattle.wf_val.specs.declared.function.Fun.{Fun}
use Rattle.wf_template.specs.ExprTree.{member}
use Rattle.wf_template.specs.TemplateTree.{whole}
use Rattle.wf_retry.specs.declared.policy.Policy.{Policy}
use Rattle.wf_retry.specs.declared.policy.Outcome.{Outcome}
use Rattle.wf_refs.specs.ActionTree.{compose, connector, select, query, join, scope, foreach, action_trees}
use Rattle.wf_refs.specs.DefTree.{DefTree}
use Rattle.wf_environment.specs.Try.{Try}
use Rattle.wf_environment.specs.Status.TheVariants.{Succeeded, Failed, TimedOut}
use Rattle.wf_meant.proofs.Terms.{act, after, alone, apply, ask, called, ended, failure_of, fell, fields, many, nat, num, obj, of}
use Rattle.wf_meant.proofs.Terms.{of_actions, ran, replied, rows_in, say, success_of, tracked_as, tracking, txt, unrun, value, values}
use Rattle.wf_meant.proofs.Terms.{words}
use Rattle.std.specs.Prelude.{List}
use Rattle.wf_done.specs.AnswerTree.{AnswerTree}

-- A connector whose first attempt is repeated.
abbrev calls : DefTree
calls = of_actions (act "A" 0 [] (connector (obj ((codes "method", txt "GET") ∷ (codes "uri", txt "u") ∷ [])) (Policy.Count 1)) ∷ [])

abbrev calls-answers : List AnswerTree
calls-answers =
    replied "A" [] 1 Outcome.NoConnection (fields []) null ∷ replied "A" [] 2 (Outcome.Code 200) (fields []) (value 5) ∷ []

calls-means : rows_in calls calls-answers ≡
    called (Try.NoConnection ∷ Try.Code 200 ∷ []) (ended "A" [] Succeeded (decimal 200)
    (fields ((codes "method", words "GET") ∷ (codes "uri", words "u") ∷ []))
    (fields ((codes "body", value 5) ∷ (codes "headers", fields []) ∷ (codes "statusCode", value 200) ∷ [])))
    ∷ []
calls-means = refl

-- The last attempt that its policy allows gives the row.
abbrev calls-enough : DefTree
calls-enough = of_actions (
    act "A" 0 [] (connector (obj ((codes "method", txt "GET") ∷ (codes "uri", txt "u") ∷ [])) (Policy.Count 1)) ∷ [])

abbrev calls-enough-answers : List AnswerTree
calls-enough-answers =
    replied "A" [] 1 (Outcome.Code 503) (fields []) null
    ∷ replied "A" [] 2 (Outcome.Code 503) (fields []) null
    ∷ replied "A" [] 3 (Outcome.Code 200) (fields []) null
    ∷ []

calls-enough-means : rows_in calls-enough calls-enough-answers ≡
    called (Try.Code 503 ∷ Try.Code 503 ∷ []) (ended "A" [] Failed (decimal 503)
    (fields ((codes "method", words "GET") ∷ (codes "uri", words "u") ∷ []))
    (fields ((codes "body", null) ∷ (codes "headers", fields []) ∷ (codes "statusCode", value 503) ∷ [])))
    ∷ []
calls-enough-means = refl

-- One without an answer for its second attempt.
abbrev unanswered : DefTree
unanswered = of_actions (
    act "A" 0 [] (connector (obj ((codes "method", txt "GET") ∷ (codes "uri", txt "u") ∷ [])) Policy.Standard)
    ∷ act "B" 1 (failure_of 0) (compose (nat 1))
    ∷ [])

unanswered-means : rows_in unanswered (replied "A" [] 1 (Outcome.Code 503) (fields []) null ∷ []) ≡
    called (Try.Code 503 ∷ Try.NoAnswer ∷ []) (ended "A" [] Failed (codes "NoAnswer")
    (fields ((codes "method", words "GET") ∷ (codes "uri", words "u") ∷ [])) null)
    ∷ ran "B" [] (value 1) (value 1)
    ∷ []
unanswered-means = refl

-- An answer that isn't tried again, and one whose time is out.
abbrev refused : DefTree
refused = of_actions (
    act "A" 0 [] (connector (obj ((codes "method", txt "GET") ∷ (codes "uri", txt "u") ∷ [])) Policy.Standard)
    ∷ act "B" 1 [] (connector (obj ((codes "method", txt "GET") ∷ (codes "uri", txt "u") ∷ [])) Policy.Standard)
    ∷ act "C" 2 (after 0 false true false false ∷ after 1 false false false true ∷ []) (compose (nat 1))
    ∷ [])

abbrev refused-answers : List AnswerTree
refused-answers =
    replied "A" [] 1 (Outcome.Code 404) (fields []) null ∷ replied "B" [] 1 Outcome.TimedOut (fields []) null ∷ []

refused-means : rows_in refused refused-answers ≡
    called (Try.Code 404 ∷ []) (ended "A" [] Failed (decimal 404)
    (fields ((codes "method", words "GET") ∷ (codes "uri", words "u") ∷ []))
    (fields ((codes "body", null) ∷ (codes "headers", fields []) ∷ (codes "statusCode", value 404) ∷ [])))
    ∷ called (Try.TimedOut ∷ []) (ended "B" [] TimedOut (codes "TimedOut")
    (fields ((codes "method", words "GET") ∷ (codes "uri", words "u") ∷ [])) null)
    ∷ ran "C" [] (value 1) (value 1)
    ∷ []
refused-means = refl

-- A connector whose inputs have no value makes no attempt.
abbrev no-inputs : DefTree
no-inputs = of_actions (
    act "A" 0 [] (connector
    (obj ((codes "body", of (apply "div" (num 1 ∷ num 0 ∷ []))) ∷ (codes "method", txt "GET") ∷
    (codes "uri", txt "u") ∷ [])) Policy.Standard)
    ∷ [])

no-inputs-means : rows_in no-inputs (replied "A" [] 1 (Outcome.Code 200) (fields []) null ∷ []) ≡
    fell "A" [] (EvalFault.Range Fun.Div) ∷ []
no-inputs-means = refl

-- In a loop each instance has answers of its own.
abbrev calls-in-rounds : DefTree
calls-in-rounds = of_actions (
    act "L" 1 [] (foreach (many (nat 1 ∷ nat 2 ∷ [])) 20 (action_trees (
    act "A" 0 [] (connector
    (obj ((codes "body", of (alone "item")) ∷ (codes "method", txt "GET") ∷ (codes "uri", txt "u") ∷ [])) Policy.Standard)
    ∷ [])))
    ∷ [])

abbrev calls-in-rounds-answers : List AnswerTree
calls-in-rounds-answers =
    replied "A" (0 ∷ []) 1 (Outcome.Code 200) (fields []) (words "one")
    ∷ replied "A" (1 ∷ []) 1 (Outcome.Code 404) (fields []) null
    ∷ []

calls-in-rounds-means : rows_in calls-in-rounds calls-in-rounds-answers ≡
    called (Try.Code 200 ∷ []) (ended "A" (0 ∷ []) Succeeded (decimal 200)
    (fields ((codes "body", value 1) ∷ (codes "method", words "GET") ∷ (codes "uri", words "u") ∷ []))
    (fields ((codes "body", words "one") ∷ (codes "headers", fields []) ∷ (codes "statusCode", value 200) ∷ [])))
    ∷ called (Try.Code 404 ∷ []) (ended "A" (1 ∷ []) Failed (decimal 404)
    (fields ((codes "body", value 2) ∷ (codes "method", words "GET") ∷ (codes "uri", words "u") ∷ []))
    (fields ((codes "body", null) ∷ (codes "headers", fields []) ∷ (codes "statusCode", value 404) ∷ [])))
    ∷ ended "L" [] Failed (codes "ActionFailed") (values (value 1 ∷ value 2 ∷ [])) null
    ∷ []
calls-in-rounds-means = refl

-- Select, Query and Join.
abbrev lists : DefTree
lists = of_actions (
    act "J" 0 [] (join (many (txt "a" ∷ txt "b" ∷ [])) (txt ","))
    ∷ act "Q" 1 [] (query (many (nat 1 ∷ nat 2 ∷ nat 3 ∷ [])) (whole (apply "greater" (alone "item" ∷ num 1 ∷ []))))
    ∷ act "S" 2 [] (select (many (nat 1 ∷ nat 2 ∷ [])) (of (apply "mul" (alone "item" ∷ num 10 ∷ []))))
    ∷ [])

lists-means : rows_in lists [] ≡
    ran "J" [] (fields ((codes "from", values (words "a" ∷ words "b" ∷ [])) ∷ (codes "joinWith", words ",") ∷ [])) (fields
    ((codes "body", words "a,b") ∷ []))
    ∷ ran "Q" [] (fields ((codes "from", values (value 1 ∷ value 2 ∷ value 3 ∷ [])) ∷ [])) (fields (
    (codes "body", values (value 2 ∷ value 3 ∷ [])) ∷ []))
    ∷ ran "S" [] (fields ((codes "from", values (value 1 ∷ value 2 ∷ [])) ∷ [])) (fields (
    (codes "body", values (value 10 ∷ value 20 ∷ [])) ∷ []))
    ∷ []
lists-means = refl

-- In a loop the item of a Select is its own, and that of the loop goes by name.
abbrev lists-in-rounds : DefTree
lists-in-rounds = of_actions (
    act "L" 0 [] (foreach (many (nat 5 ∷ [])) 20 (action_trees (
    act "S" 1 [] (select (many (nat 1 ∷ nat 2 ∷ [])) (of (apply "add" (alone "item" ∷ ask "items" (say "L") ∷ [])))) ∷ [])))
    ∷ [])

lists-in-rounds-means : rows_in lists-in-rounds [] ≡
    ran "L" [] (values (value 5 ∷ [])) null
    ∷ ran "S" (0 ∷ []) (fields ((codes "from", values (value 1 ∷ value 2 ∷ [])) ∷ [])) (fields (
    (codes "body", values (value 6 ∷ value 7 ∷ [])) ∷ []))
    ∷ []
lists-in-rounds-means = refl

-- Tracked properties see the row of their own.
abbrev tracks : DefTree
tracks = of_actions (
    tracking
    ((codes "s", of (member (alone "action") (codes "status") false))
    ∷ (codes "t", of (member (alone "action") (codes "outputs") false))
    ∷ [])
    (act "A" 0 [] (compose (nat 1)))
    ∷ [])

tracks-means : rows_in tracks [] ≡
    tracked_as (fields ((codes "s", words "Succeeded") ∷ (codes "t", value 1) ∷ [])) (ran "A" [] (value 1) (value 1)) ∷ []
tracks-means = refl

-- Where one has no value they are null, and the status stays.
abbrev tracks-nothing : DefTree
tracks-nothing = of_actions (
    tracking ((codes "s", of (member (alone "action") (codes "nope") false)) ∷ (codes "t", nat 1) ∷ []) (act "A" 0 [] (compose (nat 1)))
    ∷ [])

tracks-nothing-means : rows_in tracks-nothing [] ≡
    tracked_as null (ran "A" [] (value 1) (value 1)) ∷ []
tracks-nothing-means = refl

-- Those of a container, and of an action that Failed.
abbrev tracks-failed : DefTree
tracks-failed = of_actions (
    tracking ((codes "c", nat 1) ∷ []) (act "N" 1 (success_of 2) (compose (nat 1)))
    ∷ tracking ((codes "c", of (member (alone "action") (codes "code") false)) ∷ []) (act "S" 2 [] (scope (action_trees
    (tracking ((codes "e", of (member (alone "action") (codes "error") false)) ∷ []) (act "A" 0 [] (compose
    (of (apply "div" (num 1 ∷ num 0 ∷ [])))))
    ∷ []))))
    ∷ [])

tracks-failed-means : rows_in tracks-failed [] ≡
    tracked_as (fields ((codes "e", words "Range div") ∷ [])) (fell "A" [] (EvalFault.Range Fun.Div))
    ∷ unrun "N" []
    ∷ tracked_as (fields ((codes "c", words "ActionFailed") ∷ [])) (ended "S" [] Failed (codes "ActionFailed") null null)
    ∷ []
tracks-failed-means = refl
