-- Worked definitions. How runs end: Terminate, Response and the section `outputs`.
use Rattle.std.proofs.Common.{◌≡◌, [], ◌∷◌, refl}
use Rattle.std.specs.Prelude.{true, false, codes}
use Rattle.wf_val.specs.Arguments.{wrong_type}
use Rattle.wf_val.specs.ValueTree.{null, boolean}
use Rattle.wf_val.specs.declared.fault.EvalFault.{EvalFault}
use Rattle.wf_val.specs.declared.function.Fun.{Fun}
use Rattle.wf_template.specs.ExprTree.{member}
use Rattle.wf_template.specs.TemplateTree.{whole}
use Rattle.wf_template.specs.CondTree.{compare_by}
use Rattle.wf_refs.specs.ActionTree.{compose, response, terminate, scope, branch, switch, foreach, action_trees, case_trees}
use Rattle.wf_refs.specs.DefTree.{DefTree}
use Rattle.wf_environment.specs.Status.TheVariants.{Failed, Cancelled}
use Rattle.wf_environment.specs.RunStatus.{RunStatus}
use Rattle.wf_meant.specs.Record.{meaning}
use Rattle.wf_meant.proofs.Terms.{act, after, alone, apply, answered, ask, ended, failure_of, fell, fields, giving, many, nat, num, obj}
use Rattle.wf_meant.proofs.Terms.{of, of_actions, ran, record_is, say, success_of, txt, unrun, value, values, words}

-- A Terminate in a Scope, and what would follow.
abbrev stopped : DefTree
stopped = of_actions (
    act "B" 0 (success_of 1) (compose (nat 1))
    ∷ act "S" 1 [] (scope (action_trees (
    act "T" 2 [] (terminate (obj (
    (codes "runError", obj ((codes "code", txt "E1") ∷ (codes "message", txt "stop") ∷ []))
    ∷ (codes "runStatus", txt "Failed")
    ∷ [])))
    ∷ [])))
    ∷ [])

stopped-means : meaning stopped (answered []) ≡
    record_is RunStatus.Failed
    (fields ((codes "code", words "E1") ∷ (codes "message", words "stop") ∷ [])) null (fields [])
    (unrun "B" []
    ∷ ended "S" [] Cancelled (codes "Terminated") null null
    ∷ ran "T" []
    (fields (
    (codes "runError", fields ((codes "code", words "E1") ∷ (codes "message", words "stop") ∷ []))
    ∷ (codes "runStatus", words "Failed")
    ∷ [])) null
    ∷ [])
unfolding meaning
stopped-means = refl

-- One in a branch of an If, which keeps its inputs; the error counts only where the status is Failed.
abbrev cancelled : DefTree
cancelled = of_actions (
    act "C" 0 [] (branch
    (compare_by Fun.Equals (nat 1) (nat 1))
    (action_trees (
    act "T" 1 [] (terminate (obj (
    (codes "runError", obj ((codes "code", txt "E1") ∷ (codes "message", txt "stop") ∷ []))
    ∷ (codes "runStatus", txt "cancelled")
    ∷ [])))
    ∷ [])) (action_trees []))
    ∷ [])

cancelled-means : meaning cancelled (answered []) ≡
    record_is RunStatus.Cancelled null null (fields []) (
    ended "C" [] Cancelled (codes "Terminated") (boolean true) null
    ∷ ran "T" []
    (fields (
    (codes "runError", fields ((codes "code", words "E1") ∷ (codes "message", words "stop") ∷ []))
    ∷ (codes "runStatus", words "cancelled")
    ∷ [])) null
    ∷ [])
unfolding meaning
cancelled-means = refl

-- One in a case of a Switch.
abbrev stopped-in-case : DefTree
stopped-in-case = of_actions (
    act "B" 0 (after 2 true true true true ∷ []) (compose (nat 1))
    ∷ act "W" 2 [] (switch (whole (num 1)) (case_trees (
    (codes "One", (value 1, action_trees (act "T" 1 [] (terminate (obj ((codes "runStatus", txt "Succeeded") ∷ []))) ∷ [])))
    ∷ [])))
    ∷ [])

stopped-in-case-means : meaning stopped-in-case (answered []) ≡
    record_is RunStatus.Succeeded null null (fields []) (
    unrun "B" []
    ∷ ran "T" [] (fields ((codes "runStatus", words "Succeeded") ∷ [])) null
    ∷ ended "W" [] Cancelled (codes "Terminated") (value 1) null
    ∷ [])
unfolding meaning
stopped-in-case-means = refl

-- Of two Terminates one after the other the first Succeeded, and the second is Skipped.
abbrev first-of-two : DefTree
first-of-two = of_actions (
    act "P" 0 [] (terminate (obj ((codes "runStatus", txt "Failed") ∷ [])))
    ∷ act "Q" 1 (success_of 0) (terminate (obj ((codes "runStatus", txt "Succeeded") ∷ [])))
    ∷ [])

first-of-two-means : meaning first-of-two (answered []) ≡
    record_is RunStatus.Failed null null (fields []) (
    ran "P" [] (fields ((codes "runStatus", words "Failed") ∷ [])) null ∷ unrun "Q" [] ∷ [])
unfolding meaning
first-of-two-means = refl

-- A Terminate that is Skipped ends nothing, and one that Failed neither.
abbrev not-taken : DefTree
not-taken = of_actions (
    act "A" 0 [] (compose (nat 1))
    ∷ act "B" 1 (failure_of 3) (compose (nat 2))
    ∷ act "T" 2 (failure_of 0) (terminate (obj ((codes "runStatus", txt "Failed") ∷ [])))
    ∷ act "U" 3 (after 2 false false true false ∷ []) (terminate (obj ((codes "runStatus", txt "nope") ∷ [])))
    ∷ [])

not-taken-means : meaning not-taken (answered []) ≡
    record_is RunStatus.Succeeded null null (fields []) (
    ran "A" [] (value 1) (value 1) ∷ ran "B" [] (value 2) (value 2) ∷ unrun "T" [] ∷ fell "U" [] (wrong_type Fun.Terminate 0) ∷ [])
unfolding meaning
not-taken-means = refl

-- What is inside a Scope after it is halted, too.
abbrev through-containers : DefTree
through-containers = of_actions (
    act "R" 1 (after 2 true true true true ∷ []) (scope (action_trees (act "B" 0 [] (compose (nat 1)) ∷ [])))
    ∷ act "S" 2 [] (scope (action_trees (act "T" 3 [] (terminate (obj ((codes "runStatus", txt "Succeeded") ∷ []))) ∷ [])))
    ∷ [])

through-containers-means : meaning through-containers (answered []) ≡
    record_is RunStatus.Succeeded null null (fields []) (
    unrun "B" []
    ∷ unrun "R" []
    ∷ ended "S" [] Cancelled (codes "Terminated") null null
    ∷ ran "T" [] (fields ((codes "runStatus", words "Succeeded") ∷ [])) null
    ∷ [])
unfolding meaning
through-containers-means = refl

-- The first Response that Succeeded gives the response.
abbrev responds : DefTree
responds = of_actions (
    act "P" 0 [] (response (obj ((codes "body", of (apply "div" (num 1 ∷ num 0 ∷ []))) ∷ (codes "statusCode", nat 200) ∷ [])))
    ∷ act "Q" 1 (success_of 2) (response (obj ((codes "statusCode", nat 500) ∷ [])))
    ∷ act "R" 2 (failure_of 0) (response (obj ((codes "body", txt "x") ∷ (codes "statusCode", nat 200) ∷ [])))
    ∷ [])

responds-means : meaning responds (answered []) ≡
    record_is RunStatus.Succeeded null
    (fields ((codes "body", words "x") ∷ (codes "statusCode", value 200) ∷ [])) (fields [])
    (fell "P" [] (EvalFault.Range Fun.Div)
    ∷ ran "Q" [] (fields ((codes "statusCode", value 500) ∷ [])) (fields ((codes "statusCode", value 500) ∷ []))
    ∷ ran "R" [] (fields ((codes "body", words "x") ∷ (codes "statusCode", value 200) ∷ [])) (fields (
    (codes "body", words "x") ∷ (codes "statusCode", value 200) ∷ []))
    ∷ [])
unfolding meaning
responds-means = refl

-- The section `outputs` sees all, out of all loops; it is evaluated where the graph Failed, too.
abbrev gives-out : DefTree
gives-out = giving
    ((codes "o", of (ask "outputs" (say "C")))
    ∷ (codes "p", of (member (member (alone "workflow") (codes "run") false) (codes "name") false))
    ∷ [])
    (of_actions (
    act "L" 1 [] (foreach (many (nat 1 ∷ nat 0 ∷ [])) 20 (action_trees (
    act "C" 0 [] (compose (of (apply "div" (num 1 ∷ alone "item" ∷ [])))) ∷ [])))
    ∷ []))

gives-out-means : meaning gives-out (answered []) ≡
    record_is RunStatus.Failed null null
    (fields ((codes "o", values (value 1 ∷ null ∷ [])) ∷ (codes "p", words "r1") ∷ []))
    (ran "C" (0 ∷ []) (value 1) (value 1)
    ∷ fell "C" (1 ∷ []) (EvalFault.Range Fun.Div)
    ∷ ended "L" [] Failed (codes "ActionFailed") (values (value 1 ∷ value 0 ∷ [])) null
    ∷ [])
unfolding meaning
gives-out-means = refl

-- An output without a value makes the run Failed, however its graph ended.
abbrev gives-nothing : DefTree
gives-nothing = giving ((codes "o", of (apply "div" (num 1 ∷ num 0 ∷ []))) ∷ (codes "p", nat 1) ∷ []) (of_actions (
    act "A" 0 [] (compose (nat 1)) ∷ []))

gives-nothing-means : meaning gives-nothing (answered []) ≡
    record_is RunStatus.Failed
    (fields ((codes "code", words "InvalidTemplate") ∷ (codes "message", words "Range div") ∷ [])) null null
    (ran "A" [] (value 1) (value 1) ∷ [])
unfolding meaning
gives-nothing-means = refl

-- After a Terminate there is no section `outputs`.
abbrev stopped-outputs : DefTree
stopped-outputs = giving ((codes "o", of (apply "div" (num 1 ∷ num 0 ∷ []))) ∷ []) (of_actions (
    act "T" 0 [] (terminate (obj ((codes "runStatus", txt "Succeeded") ∷ []))) ∷ []))

stopped-outputs-means : meaning stopped-outputs (answered []) ≡
    record_is RunStatus.Succeeded null null (fields []) (ran "T" [] (fields ((codes "runStatus", words "Succeeded") ∷ [])) null ∷ [])
unfolding meaning
stopped-outputs-means = refl

-- A run of no actions.
abbrev no-actions : DefTree
no-actions = of_actions []

no-actions-means : meaning no-actions (answered []) ≡
    record_is RunStatus.Succeeded null null (fields []) []
unfolding meaning
no-actions-means = refl
