-- Worked resubmissions: of the run r1, by the inputs of a run r2.
use Rattle.std.proofs.Common.{◌≡◌, [], ◌∷◌, refl}
use Rattle.std.specs.Prelude.{true, false, codes, decimal}
use Rattle.wf_val.specs.ValueTree.{null, boolean}
use Rattle.wf_val.specs.declared.function.Fun.{Fun}
use Rattle.wf_template.specs.ExprTree.{member}
use Rattle.wf_template.specs.TemplateTree.{whole}
use Rattle.wf_template.specs.CondTree.{compare_by}
use Rattle.wf_retry.specs.declared.policy.Policy.{Policy}
use Rattle.wf_retry.specs.declared.policy.Outcome.{Outcome}
use Rattle.wf_refs.specs.ActionTree.{compose, connector, scope, branch, switch, action_trees, case_trees}
use Rattle.wf_refs.specs.DefTree.{DefTree}
use Rattle.wf_environment.specs.Try.{Try}
use Rattle.wf_environment.specs.Status.TheVariants.{Succeeded, Failed}
use Rattle.wf_environment.specs.RunStatus.{RunStatus}
use Rattle.wf_meant.proofs.Terms.{act, after, alone, ask, called, ended, failure_of, fields, nat, obj, of, of_actions, ran, record_is}
use Rattle.wf_meant.proofs.Terms.{replied, say, success_of, txt, unrun, value, words, inputs_again, as_second}
use Rattle.wf_environment.specs.Record.{RecordTree}
use Rattle.wf_meant.specs.Resubmitted.{pinned}
use Rattle.std.specs.Prelude.{List}
use Rattle.wf_done.specs.AnswerTree.{AnswerTree}

-- What comes before and beside is kept, with its attempts, and what comes after is redone by the new answers.
abbrev from-middle : DefTree
from-middle = of_actions (
    act "A" 0 [] (connector (obj ((codes "method", txt "GET") ∷ (codes "uri", txt "u") ∷ [])) Policy.Standard)
    ∷ act "B" 1 (success_of 0) (connector (obj ((codes "method", txt "GET") ∷ (codes "uri", txt "u") ∷ [])) Policy.Standard)
    ∷ act "C" 2 (success_of 0) (connector (obj ((codes "method", txt "GET") ∷ (codes "uri", txt "u") ∷ [])) Policy.Standard)
    ∷ act "D" 3 (after 1 true false false false ∷ after 2 true false false false ∷ []) (connector
    (obj ((codes "l", of (ask "body" (say "B"))) ∷ (codes "r", of (ask "body" (say "C"))) ∷ [])) Policy.Standard)
    ∷ [])

abbrev from-middle-old : RecordTree
from-middle-old = record_is RunStatus.Succeeded null null (fields []) (
    called (Try.Code 200 ∷ []) (ended "A" [] Succeeded (decimal 200)
    (fields ((codes "method", words "GET") ∷ (codes "uri", words "u") ∷ []))
    (fields ((codes "body", words "a") ∷ (codes "headers", fields []) ∷ (codes "statusCode", value 200) ∷ [])))
    ∷ called (Try.Code 503 ∷ Try.Code 200 ∷ []) (ended "B" [] Succeeded (decimal 200)
    (fields ((codes "method", words "GET") ∷ (codes "uri", words "u") ∷ []))
    (fields ((codes "body", words "b") ∷ (codes "headers", fields []) ∷ (codes "statusCode", value 200) ∷ [])))
    ∷ called (Try.Code 200 ∷ []) (ended "C" [] Succeeded (decimal 200)
    (fields ((codes "method", words "GET") ∷ (codes "uri", words "u") ∷ []))
    (fields ((codes "body", words "c") ∷ (codes "headers", fields []) ∷ (codes "statusCode", value 200) ∷ [])))
    ∷ called (Try.Code 200 ∷ []) (ended "D" [] Succeeded (decimal 200)
    (fields ((codes "l", words "b") ∷ (codes "r", words "c") ∷ []))
    (fields ((codes "body", words "d") ∷ (codes "headers", fields []) ∷ (codes "statusCode", value 200) ∷ [])))
    ∷ [])

abbrev from-middle-answers : List AnswerTree
from-middle-answers =
    replied "B" [] 1 (Outcome.Code 200) (fields []) (words "b2") ∷ replied "D" [] 1 (Outcome.Code 200) (fields []) (words "d2") ∷ []

from-middle-means : pinned from-middle from-middle-old (inputs_again from-middle-answers) (1 ∷ []) ≡
    as_second (record_is RunStatus.Succeeded null null (fields []) (
    called (Try.Code 200 ∷ []) (ended "A" [] Succeeded (decimal 200)
    (fields ((codes "method", words "GET") ∷ (codes "uri", words "u") ∷ []))
    (fields ((codes "body", words "a") ∷ (codes "headers", fields []) ∷ (codes "statusCode", value 200) ∷ [])))
    ∷ called (Try.Code 200 ∷ []) (ended "B" [] Succeeded (decimal 200)
    (fields ((codes "method", words "GET") ∷ (codes "uri", words "u") ∷ []))
    (fields ((codes "body", words "b2") ∷ (codes "headers", fields []) ∷ (codes "statusCode", value 200) ∷ [])))
    ∷ called (Try.Code 200 ∷ []) (ended "C" [] Succeeded (decimal 200)
    (fields ((codes "method", words "GET") ∷ (codes "uri", words "u") ∷ []))
    (fields ((codes "body", words "c") ∷ (codes "headers", fields []) ∷ (codes "statusCode", value 200) ∷ [])))
    ∷ called (Try.Code 200 ∷ []) (ended "D" [] Succeeded (decimal 200)
    (fields ((codes "l", words "b2") ∷ (codes "r", words "c") ∷ []))
    (fields ((codes "body", words "d2") ∷ (codes "headers", fields []) ∷ (codes "statusCode", value 200) ∷ [])))
    ∷ []))
unfolding pinned
from-middle-means = refl

-- The containers round what is redone are closed again; what stands beside it in them is kept.
abbrev closed-again : DefTree
closed-again = of_actions (
    act "S" 3 [] (scope (action_trees (
    act "A" 0 [] (connector (obj ((codes "method", txt "GET") ∷ (codes "uri", txt "u") ∷ [])) Policy.Standard)
    ∷ act "B" 1 (success_of 0) (compose (of (ask "body" (say "A"))))
    ∷ act "C" 2 [] (compose (nat 1))
    ∷ [])))
    ∷ act "T" 4 (failure_of 3) (compose (txt "caught"))
    ∷ [])

abbrev closed-again-old : RecordTree
closed-again-old = record_is RunStatus.Succeeded null null (fields []) (
    called (Try.Code 404 ∷ []) (ended "A" [] Failed (decimal 404)
    (fields ((codes "method", words "GET") ∷ (codes "uri", words "u") ∷ []))
    (fields ((codes "body", null) ∷ (codes "headers", fields []) ∷ (codes "statusCode", value 404) ∷ [])))
    ∷ unrun "B" []
    ∷ ran "C" [] (value 1) (value 1)
    ∷ ended "S" [] Failed (codes "ActionFailed") null null
    ∷ ran "T" [] (words "caught") (words "caught")
    ∷ [])

abbrev closed-again-answers : List AnswerTree
closed-again-answers =
    replied "A" [] 1 (Outcome.Code 200) (fields []) (words "ok") ∷ []

closed-again-means : pinned closed-again closed-again-old (inputs_again closed-again-answers) (0 ∷ []) ≡
    as_second (record_is RunStatus.Succeeded null null (fields []) (
    called (Try.Code 200 ∷ []) (ended "A" [] Succeeded (decimal 200)
    (fields ((codes "method", words "GET") ∷ (codes "uri", words "u") ∷ []))
    (fields ((codes "body", words "ok") ∷ (codes "headers", fields []) ∷ (codes "statusCode", value 200) ∷ [])))
    ∷ ran "B" [] (words "ok") (words "ok")
    ∷ ran "C" [] (value 1) (value 1)
    ∷ ran "S" [] null null
    ∷ unrun "T" []
    ∷ []))
unfolding pinned
closed-again-means = refl

-- An If that is closed again keeps what it decided, though it would decide otherwise now.
abbrev decided-before : DefTree
decided-before = of_actions (
    act "C" 0 [] (branch
    (compare_by Fun.Equals (of (member (member (alone "workflow") (codes "run") false) (codes "name") false)) (txt "r1"))
    (action_trees (
    act "Y" 2 [] (connector (obj ((codes "method", txt "GET") ∷ (codes "uri", txt "u") ∷ [])) Policy.Standard) ∷ []))
    (action_trees (act "N" 1 [] (compose (nat 2)) ∷ [])))
    ∷ [])

abbrev decided-before-old : RecordTree
decided-before-old = record_is RunStatus.Failed null null (fields []) (
    ended "C" [] Failed (codes "ActionFailed") (boolean true) null
    ∷ unrun "N" []
    ∷ called (Try.Code 404 ∷ []) (ended "Y" [] Failed (decimal 404)
    (fields ((codes "method", words "GET") ∷ (codes "uri", words "u") ∷ []))
    (fields ((codes "body", null) ∷ (codes "headers", fields []) ∷ (codes "statusCode", value 404) ∷ [])))
    ∷ [])

abbrev decided-before-answers : List AnswerTree
decided-before-answers =
    replied "Y" [] 1 (Outcome.Code 200) (fields []) null ∷ []

decided-before-means : pinned decided-before decided-before-old (inputs_again decided-before-answers) (2 ∷ []) ≡
    as_second (record_is RunStatus.Succeeded null null (fields []) (
    ran "C" [] (boolean true) null
    ∷ unrun "N" []
    ∷ called (Try.Code 200 ∷ []) (ended "Y" [] Succeeded (decimal 200)
    (fields ((codes "method", words "GET") ∷ (codes "uri", words "u") ∷ []))
    (fields ((codes "body", null) ∷ (codes "headers", fields []) ∷ (codes "statusCode", value 200) ∷ [])))
    ∷ []))
unfolding pinned
decided-before-means = refl

-- And so does a Switch.
abbrev chosen-before : DefTree
chosen-before = of_actions (
    act "W" 1 [] (switch (whole (member (member (alone "workflow") (codes "run") false) (codes "name") false)) (case_trees
    ((
      codes "One",
      (
        words "r1",
        action_trees (
            act "Y" 2 [] (connector
            (obj ((codes "method", txt "GET") ∷ (codes "uri", txt "u") ∷ [])) Policy.Standard)
            ∷ []),
      ),
    )
    ∷ (codes "Two", (words "r2", action_trees (act "N" 0 [] (compose (nat 2)) ∷ [])))
    ∷ [])))
    ∷ [])

abbrev chosen-before-old : RecordTree
chosen-before-old = record_is RunStatus.Failed null null (fields []) (
    unrun "N" []
    ∷ ended "W" [] Failed (codes "ActionFailed") (words "r1") null
    ∷ called (Try.Code 404 ∷ []) (ended "Y" [] Failed (decimal 404)
    (fields ((codes "method", words "GET") ∷ (codes "uri", words "u") ∷ []))
    (fields ((codes "body", null) ∷ (codes "headers", fields []) ∷ (codes "statusCode", value 404) ∷ [])))
    ∷ [])

abbrev chosen-before-answers : List AnswerTree
chosen-before-answers =
    replied "Y" [] 1 (Outcome.Code 200) (fields []) null ∷ []

chosen-before-means : pinned chosen-before chosen-before-old (inputs_again chosen-before-answers) (2 ∷ []) ≡
    as_second (record_is RunStatus.Succeeded null null (fields []) (
    unrun "N" []
    ∷ ran "W" [] (words "r1") null
    ∷ called (Try.Code 200 ∷ []) (ended "Y" [] Succeeded (decimal 200)
    (fields ((codes "method", words "GET") ∷ (codes "uri", words "u") ∷ []))
    (fields ((codes "body", null) ∷ (codes "headers", fields []) ∷ (codes "statusCode", value 200) ∷ [])))
    ∷ []))
unfolding pinned
chosen-before-means = refl
