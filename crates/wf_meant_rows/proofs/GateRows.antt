-- Worked definitions. What a Terminate halts, and what it cancels.
use Rattle.std.proofs.Common.{◌≡◌, [], ◌∷◌, refl}
use Rattle.std.specs.Prelude.{true, false, codes}
use Rattle.wf_val.specs.Arguments.{wrong_type}
use Rattle.wf_val.specs.ValueTree.{ValueTree, boolean, null}
use Rattle.wf_val.specs.declared.fault.EvalFault.{EvalFault}
use Rattle.wf_val.specs.declared.function.Fun.{Fun}
use Rattle.wf_template.specs.DataTree.{DataTree}
use Rattle.wf_template.specs.CondTree.{compare_by, holds}
use Rattle.wf_template.specs.TemplateTree.{whole}
use Rattle.wf_def.specs.ActionTree.{branch, compose, foreach, scope, terminate, until, action_trees}
use Rattle.wf_def.specs.DefTree.{DefTree}
use Rattle.wf_record.specs.declared.status.RunStatus.{RunStatus}
use Rattle.wf_record.specs.declared.status.Status.TheVariants.{Failed, Cancelled}
use Rattle.wf_meant.specs.Record.{meaning}
use Rattle.wf_meant.proofs.Terms.{act, after, answered, apply, ended, failure_of, fell, fields, many, nat, num, obj, of, of_actions, ran}
use Rattle.wf_meant.proofs.Terms.{record_is, rows_in, success_of, txt, unrun, value, values, words}

abbrev ends : DataTree
ends = obj ((codes "runStatus", txt "Succeeded") ∷ [])

abbrev ended_so : ValueTree
ended_so = fields ((codes "runStatus", words "Succeeded") ∷ [])

-- What would follow a Skipped action is halted as that was, by the Terminate behind which both stand.
abbrev halted-behind : DefTree
halted-behind = of_actions (
    act "A" 0 (success_of 2) (compose (nat 1))
    ∷ act "B" 1 (after 0 false false true false ∷ []) (compose (nat 2))
    ∷ act "T" 2 [] (terminate ends)
    ∷ [])

halted-behind-means : meaning halted-behind (answered []) ≡
    record_is RunStatus.Succeeded null null (fields []) (unrun "A" [] ∷ unrun "B" [] ∷ ran "T" [] ended_so null ∷ [])
unfolding meaning
halted-behind-means = refl

-- What is before the Terminate has run, and what failed there doesn't count any more.
abbrev run-before : DefTree
run-before = of_actions (
    act "A" 0 [] (compose (of (apply "div" (num 1 ∷ num 0 ∷ [])))) ∷ act "T" 1 (failure_of 0) (terminate ends) ∷ [])

run-before-means : meaning run-before (answered []) ≡
    record_is RunStatus.Succeeded null null (fields []) (fell "A" [] (EvalFault.Range Fun.Div) ∷ ran "T" [] ended_so null ∷ [])
unfolding meaning
run-before-means = refl

-- Containers that are halted are Skipped with all inside them, and their loops have no iterations.
abbrev halted-containers : DefTree
halted-containers = of_actions (
    act "C" 0 (success_of 4) (branch (compare_by Fun.Equals (nat 1) (nat 1)) (action_trees (act "Y" 6 [] (compose (nat 1)) ∷ []))
    (action_trees (act "N" 2 [] (compose (nat 2)) ∷ [])))
    ∷ act "L" 1 (success_of 4) (foreach (many (nat 1 ∷ [])) 20 (action_trees (act "P" 3 [] (compose (nat 3)) ∷ [])))
    ∷ act "T" 4 [] (terminate ends)
    ∷ act "U" 5 (success_of 4) (until (holds (whole (num 1))) 3 false (action_trees []))
    ∷ [])

halted-containers-means : rows_in halted-containers [] ≡
    unrun "C" [] ∷ unrun "L" [] ∷ unrun "N" [] ∷ ran "T" [] ended_so null ∷ unrun "U" [] ∷ unrun "Y" [] ∷ []
halted-containers-means = refl

-- What stands beside a Terminate runs, though it has its turn later; in an accepted definition all others are in one order with it.
abbrev beside : DefTree
beside = of_actions (
    act "A" 0 [] (compose (nat 1)) ∷ act "B" 1 (success_of 0) (compose (nat 2)) ∷ act "T" 2 [] (terminate ends) ∷ [])

beside-means : rows_in beside [] ≡
    ran "A" [] (value 1) (value 1) ∷ ran "B" [] (value 2) (value 2) ∷ ran "T" [] ended_so null ∷ []
beside-means = refl

-- A Terminate in the branch that isn't taken halts nothing and ends nothing.
abbrev not-taken-branch : DefTree
not-taken-branch = of_actions (
    act "B" 0 (success_of 1) (compose (nat 1))
    ∷ act "C" 1 [] (branch (compare_by Fun.Equals (nat 1) (nat 2))
    (action_trees (act "T" 2 [] (terminate (obj ((codes "runStatus", txt "Failed") ∷ []))) ∷ [])) (action_trees []))
    ∷ [])

not-taken-branch-means : meaning not-taken-branch (answered []) ≡
    record_is RunStatus.Succeeded null null (fields []) (
    ran "B" [] (value 1) (value 1) ∷ ran "C" [] (boolean false) null ∷ unrun "T" [] ∷ [])
unfolding meaning
not-taken-branch-means = refl

-- Of two in the branches of an If the one counts whose branch is taken.
abbrev one-in-each : DefTree
one-in-each = of_actions (
    act "C" 0 [] (branch (compare_by Fun.Equals (nat 1) (nat 2))
    (action_trees (act "T" 1 [] (terminate (obj ((codes "runStatus", txt "Failed") ∷ []))) ∷ []))
    (action_trees (act "U" 2 [] (terminate (obj ((codes "runStatus", txt "Cancelled") ∷ []))) ∷ [])))
    ∷ [])

one-in-each-means : meaning one-in-each (answered []) ≡
    record_is RunStatus.Cancelled null null (fields []) (
    ended "C" [] Cancelled (codes "Terminated") (boolean false) null
    ∷ unrun "T" []
    ∷ ran "U" [] (fields ((codes "runStatus", words "Cancelled") ∷ [])) null
    ∷ [])
unfolding meaning
one-in-each-means = refl

-- Each container round a Terminate is Cancelled, the If that took its branch and the Scope round this, whatever failed in them before; one
-- beside it isn't.
abbrev cancelled-through : DefTree
cancelled-through = of_actions (
    act "R" 2 [] (scope (action_trees (act "A" 0 [] (compose (nat 1)) ∷ [])))
    ∷ act "S" 3 (success_of 2) (scope (action_trees (
    act "C" 1 (failure_of 5) (branch (compare_by Fun.Equals (nat 1) (nat 1)) (action_trees (act "T" 4 [] (terminate ends) ∷ []))
    (action_trees []))
    ∷ act "X" 5 [] (compose (of (apply "div" (num 1 ∷ num 0 ∷ []))))
    ∷ [])))
    ∷ [])

cancelled-through-means : rows_in cancelled-through [] ≡
    ran "A" [] (value 1) (value 1)
    ∷ ended "C" [] Cancelled (codes "Terminated") (boolean true) null
    ∷ ran "R" [] null null
    ∷ ended "S" [] Cancelled (codes "Terminated") null null
    ∷ ran "T" [] ended_so null
    ∷ fell "X" [] (EvalFault.Range Fun.Div)
    ∷ []
cancelled-through-means = refl

-- A Terminate that Failed makes the Scope round it Failed as any action does, and what waits for that runs.
abbrev failed-inside : DefTree
failed-inside = of_actions (
    act "B" 0 (failure_of 1) (compose (nat 1))
    ∷ act "S" 1 [] (scope (action_trees (act "T" 2 [] (terminate (obj ((codes "runStatus", txt "nope") ∷ []))) ∷ [])))
    ∷ [])

failed-inside-means : meaning failed-inside (answered []) ≡
    record_is RunStatus.Succeeded null null (fields []) (
    ran "B" [] (value 1) (value 1)
    ∷ ended "S" [] Failed (codes "ActionFailed") null null
    ∷ fell "T" [] (wrong_type Fun.Terminate 0)
    ∷ [])
unfolding meaning
failed-inside-means = refl

-- One that is Skipped leaves the Scope round it as it would be without it.
abbrev skipped-inside : DefTree
skipped-inside = of_actions (
    act "S" 1 [] (scope (action_trees (act "A" 0 [] (compose (nat 1)) ∷ act "T" 2 (failure_of 0) (terminate ends) ∷ [])))
    ∷ [])

skipped-inside-means : meaning skipped-inside (answered []) ≡
    record_is RunStatus.Succeeded null null (fields []) (ran "A" [] (value 1) (value 1) ∷ ran "S" [] null null ∷ unrun "T" [] ∷ [])
unfolding meaning
skipped-inside-means = refl

-- In a loop, where no accepted definition has one, it cancels the Scope round it in its own iteration; the loop, what follows and the run
-- end as if it weren't there.
abbrev in-loop : DefTree
in-loop = of_actions (
    act "B" 0 (after 1 true true true true ∷ []) (compose (nat 1))
    ∷ act "L" 1 [] (foreach (many (nat 1 ∷ [])) 1 (action_trees (
    act "S" 2 [] (scope (action_trees (act "T" 3 [] (terminate (obj ((codes "runStatus", txt "Cancelled") ∷ []))) ∷ []))) ∷ [])))
    ∷ [])

in-loop-means : meaning in-loop (answered []) ≡
    record_is RunStatus.Succeeded null null (fields []) (
    ran "B" [] (value 1) (value 1)
    ∷ ended "L" [] Failed (codes "ActionFailed") (values (value 1 ∷ [])) null
    ∷ ended "S" (0 ∷ []) Cancelled (codes "Terminated") null null
    ∷ ran "T" (0 ∷ []) (fields ((codes "runStatus", words "Cancelled") ∷ [])) null
    ∷ [])
unfolding meaning
in-loop-means = refl
