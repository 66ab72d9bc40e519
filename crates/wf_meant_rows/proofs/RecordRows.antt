-- Worked definitions and values. What a record has: its rows in order, what ends the run, what it responds and gives out.
use Prim.Native.String.{String}
use Rattle.std.proofs.Common.{◌≡◌, [], ◌∷◌, refl}
use Rattle.std.specs.Prelude.{ℕ, true, false, List, Some, codes, decimal, map, nat_eq, if◌then◌else◌}
use Rattle.wf_val.specs.ValueTree.{ValueTree, null}
use Rattle.wf_val.specs.declared.fault.EvalFault.{EvalFault}
use Rattle.wf_val.specs.declared.function.Fun.{Fun}
use Rattle.wf_template.specs.DataTree.{DataTree}
use Rattle.wf_template.specs.ExprTree.{index}
use Rattle.wf_layers.specs.Address.{Table}
use Rattle.wf_retry.specs.declared.policy.Outcome.{Outcome}
use Rattle.wf_retry.specs.declared.policy.Policy.{Policy}
use Rattle.wf_answers.specs.AnswerTree.{AnswerTree}
use Rattle.wf_def.specs.ActionTree.{compose, connector, foreach, response, scope, terminate, action_trees}
use Rattle.wf_def.specs.DefTree.{DefTree}
use Rattle.wf_def.specs.declared.after.After.{After}
use Rattle.wf_record.specs.Record.{Row, RowTree}
use Rattle.wf_record.specs.declared.attempt.Try.{Try}
use Rattle.wf_record.specs.declared.status.Status.{Status}
use Rattle.wf_record.specs.declared.status.Status.TheVariants.{Succeeded, Failed, Skipped, TimedOut}
use Rattle.wf_record.specs.declared.status.RunStatus.{RunStatus}
use Rattle.wf_environment.specs.Ending.{Ending, outputs_error}
use Rattle.wf_meant.specs.Containers.{closed_as}
use Rattle.wf_meant.specs.Record.{ending_of, first_succeeded, is_response, meaning, responded}
use Rattle.wf_meant.specs.Resubmitted.{pinned}
use Rattle.wf_meant.specs.Rows.{row_of}
use Rattle.wf_meant.proofs.Terms.{act, after, answered, apply, ask, as_second, called, ended, fell, fields, giving}
use Rattle.wf_meant.proofs.Terms.{inputs_again, nat, num, obj, of, of_actions, ran, record_is, replied, rows_in, say, success_of}
use Rattle.wf_meant.proofs.Terms.{txt, unrun, value, words}

-- ---- rows stand by the numbers of their actions, and of one action by their indexes as numbers

abbrev twelve : DefTree
twelve = of_actions (
    act "L" 1 [] (foreach (of (apply "range" (num 0 ∷ num 12 ∷ []))) 20 (action_trees (act "C" 0 [] (compose (nat 1)) ∷ []))) ∷ [])

rows-in-order : map (λ (r : RowTree). r.address.at) (rows_in twelve []) ≡
    (0 ∷ []) ∷ (1 ∷ []) ∷ (2 ∷ []) ∷ (3 ∷ []) ∷ (4 ∷ []) ∷ (5 ∷ []) ∷ (6 ∷ []) ∷ (7 ∷ []) ∷ (8 ∷ []) ∷ (9 ∷ []) ∷ (10 ∷ []) ∷ (11 ∷ [])
    ∷ [] ∷ []
rows-in-order = refl

-- ---- what ends a run, whoever wrote the rows: of two Terminates that Succeeded the first in the order, which here has the greater number

abbrev two_ends : List After → List After → DefTree
two_ends first second = giving ((codes "o", nat 1) ∷ []) (of_actions (
    act "P" 0 first (terminate (obj [])) ∷ act "Q" 1 second (terminate (obj [])) ∷ []))

abbrev ran_with : Status → ValueTree → Row
ran_with status inputs = row_of (closed_as status inputs null) null []

abbrev asked_for : String → ValueTree → ValueTree
asked_for status error = fields ((codes "runError", error) ∷ (codes "runStatus", words status) ∷ [])

abbrev both_ended : Status → Status → Table Row
both_ended first second x =
    if nat_eq x.name 0 then Some (ran_with first (asked_for "Failed" (words "p")))
    else Some (ran_with second (asked_for "Failed" (words "q")))

abbrev ended_with : ValueTree → Ending
ended_with error = record { status = RunStatus.Failed; error = error; outputs = fields [] }

first-in-order : ending_of (two_ends (success_of 1) []) (answered []) (both_ended Succeeded Succeeded) ≡ ended_with (words "q")
first-in-order = refl

first-in-order-too : ending_of (two_ends [] (success_of 0)) (answered []) (both_ended Succeeded Succeeded) ≡ ended_with (words "p")
first-in-order-too = refl

-- one that Failed isn't it, nor one that was Skipped
only-succeeded : ending_of (two_ends (success_of 1) []) (answered []) (both_ended Succeeded Failed) ≡ ended_with (words "p")
only-succeeded = refl

none-succeeded : (ending_of (two_ends (success_of 1) []) (answered []) (both_ended Skipped Skipped)) ≡
    record { status = RunStatus.Succeeded; error = null; outputs = fields ((codes "o", value 1) ∷ []) }
none-succeeded = refl

-- the status is the one that is asked for, and only Failed has the error; inputs without a status that there is make the run Failed
abbrev one_ended : ValueTree → Ending
one_ended inputs = ending_of (of_actions (act "T" 0 [] (terminate (obj [])) ∷ [])) (answered []) (λ x. Some (ran_with Succeeded inputs))

ended-failed : one_ended (asked_for "Failed" (words "e")) ≡ ended_with (words "e")
ended-failed = refl

ended-failed-null : one_ended (asked_for "Failed" null) ≡ ended_with null
ended-failed-null = refl

ended-failed-without : one_ended (fields ((codes "runStatus", words "Failed") ∷ [])) ≡ ended_with null
ended-failed-without = refl

ended-cancelled : one_ended (asked_for "Cancelled" (words "e")) ≡ record { status = RunStatus.Cancelled; error = null; outputs = fields [] }
ended-cancelled = refl

ended-succeeded : one_ended (asked_for "Succeeded" (words "e")) ≡ record { status = RunStatus.Succeeded; error = null; outputs = fields [] }
ended-succeeded = refl

ended-unknown : one_ended (asked_for "TimedOut" (words "e")) ≡ ended_with null
ended-unknown = refl

-- ---- the response is what a Response gave out, of several that Succeeded the first in the order

abbrev gave : Status → ValueTree → Row
gave status outputs = row_of (closed_as status (words "in") outputs) null []

abbrev two_responses : Status → Status → ValueTree
two_responses first second = responded (first_succeeded
    (of_actions (act "P" 0 (success_of 1) (response (obj [])) ∷ act "Q" 1 [] (response (obj [])) ∷ [])) is_response
    (λ x. Some (if nat_eq x.name 0 then gave first (words "p") else gave second (words "q"))))

response-first : two_responses Succeeded Succeeded ≡ words "q"
response-first = refl

response-of-succeeded : two_responses Succeeded Failed ≡ words "p"
response-of-succeeded = refl

response-of-none : two_responses Skipped Failed ≡ null
response-of-none = refl

-- a Response in a Scope gives it as one outside does; a Compose gives none
abbrev responds-inside : DefTree
responds-inside = of_actions (
    act "A" 0 [] (compose (txt "a")) ∷ act "S" 2 [] (scope (action_trees (
    act "R" 1 [] (response (obj ((codes "statusCode", nat 201) ∷ []))) ∷ []))) ∷ [])

abbrev created : ValueTree
created = fields ((codes "statusCode", value 201) ∷ [])

responds-inside-means : meaning responds-inside (answered []) ≡
    record_is RunStatus.Succeeded null created (fields []) (
    ran "A" [] (words "a") (words "a") ∷ ran "R" [] created created ∷ ran "S" [] null null ∷ [])
unfolding meaning
responds-inside-means = refl

-- ---- the section `outputs`

-- Of two that have no value the first by name is told, also where the graph Failed.
abbrev gives-faults : DefTree
gives-faults = giving
    ((codes "a", nat 1)
    ∷ (codes "b", of (index (ask "outputs" (say "A")) (say "x") false))
    ∷ (codes "c", of (apply "div" (num 1 ∷ num 0 ∷ [])))
    ∷ [])
    (of_actions (act "A" 0 [] (compose (of (apply "mod" (num 1 ∷ num 0 ∷ [])))) ∷ []))

gives-faults-means : meaning gives-faults (answered []) ≡
    record_is RunStatus.Failed (outputs_error (EvalFault.NoMember (codes "x"))) null null (fell "A" [] (EvalFault.Range Fun.Mod) ∷ [])
unfolding meaning
gives-faults-means = refl

-- ---- connectors

abbrev calling : DataTree
calling = obj ((codes "method", txt "GET") ∷ (codes "uri", txt "u") ∷ [])

abbrev calling_so : ValueTree
calling_so = fields ((codes "method", words "GET") ∷ (codes "uri", words "u") ∷ [])

abbrev answered_so : ℕ → ValueTree → ValueTree
answered_so status body = fields ((codes "body", body) ∷ (codes "headers", fields []) ∷ (codes "statusCode", value status) ∷ [])

-- Four failures of the kind that may pass are tried again, and the fifth attempt gives the row.
abbrev fifth_answers : List AnswerTree
fifth_answers =
    replied "A" [] 1 (Outcome.Code 500) (fields []) null
    ∷ replied "A" [] 2 (Outcome.Code 500) (fields []) null
    ∷ replied "A" [] 3 (Outcome.Code 500) (fields []) null
    ∷ replied "A" [] 4 (Outcome.Code 500) (fields []) null
    ∷ replied "A" [] 5 (Outcome.Code 200) (fields []) (words "ok")
    ∷ []

fifth-attempt : rows_in (of_actions (act "A" 0 [] (connector calling Policy.Standard) ∷ [])) fifth_answers ≡
    called (Try.Code 500 ∷ Try.Code 500 ∷ Try.Code 500 ∷ Try.Code 500 ∷ Try.Code 200 ∷ [])
    (ended "A" [] Succeeded (decimal 200) calling_so (answered_so 200 (words "ok")))
    ∷ []
fifth-attempt = refl

-- An action that waits for what was out of time runs by that status, and not by another.
abbrev out_of_time : DefTree
out_of_time = of_actions (
    act "A" 0 [] (connector calling Policy.Standard)
    ∷ act "B" 1 [] (connector calling Policy.Standard)
    ∷ act "C" 2 (after 0 false false false true ∷ after 1 true false false false ∷ []) (compose (nat 1))
    ∷ act "D" 3 (after 0 true true true false ∷ []) (compose (nat 2))
    ∷ [])

out-of-time-means : meaning out_of_time (answered (
    replied "A" [] 1 Outcome.TimedOut (fields []) null ∷ replied "B" [] 1 (Outcome.Code 200) (fields []) null ∷ [])) ≡
    record_is RunStatus.Failed null null (fields []) (
    called (Try.TimedOut ∷ []) (ended "A" [] TimedOut (codes "TimedOut") calling_so null)
    ∷ called (Try.Code 200 ∷ []) (ended "B" [] Succeeded (decimal 200) calling_so (answered_so 200 null))
    ∷ ran "C" [] (value 1) (value 1)
    ∷ unrun "D" []
    ∷ [])
unfolding meaning
out-of-time-means = refl

-- Four calls, of which two are side by side between the first and the last; and then the last alone done anew.
abbrev fork : DefTree
fork = of_actions (
    act "A" 0 [] (connector calling Policy.Standard)
    ∷ act "B" 1 (success_of 0) (connector calling Policy.Standard)
    ∷ act "C" 2 (success_of 0) (connector calling Policy.Standard)
    ∷ act "D" 3 (after 1 true false false false ∷ after 2 true false false false ∷ []) (connector
    (obj ((codes "l", of (ask "body" (say "B"))) ∷ (codes "r", of (ask "body" (say "C"))) ∷ [])) Policy.Standard)
    ∷ [])

abbrev fork_answers : List AnswerTree
fork_answers =
    replied "A" [] 1 (Outcome.Code 200) (fields []) (words "a")
    ∷ replied "B" [] 1 (Outcome.Code 200) (fields []) (words "b")
    ∷ replied "C" [] 1 (Outcome.Code 200) (fields []) (words "c")
    ∷ replied "D" [] 1 (Outcome.Code 200) (fields []) (words "d")
    ∷ []

abbrev answered_row : String → ValueTree → ValueTree → RowTree
answered_row s inputs body = called (Try.Code 200 ∷ []) (ended s [] Succeeded (decimal 200) inputs (answered_so 200 body))

abbrev joined_so : ValueTree
joined_so = fields ((codes "l", words "b") ∷ (codes "r", words "c") ∷ [])

abbrev fork_rows : ValueTree → List RowTree
fork_rows last =
    answered_row "A" calling_so (words "a")
    ∷ answered_row "B" calling_so (words "b")
    ∷ answered_row "C" calling_so (words "c")
    ∷ answered_row "D" joined_so last
    ∷ []

fork-means : meaning fork (answered fork_answers) ≡ record_is RunStatus.Succeeded null null (fields []) (fork_rows (words "d"))
unfolding meaning
fork-means = refl

fork-again : pinned fork (record_is RunStatus.Succeeded null null (fields []) (fork_rows (words "d")))
    (inputs_again (
    replied "B" [] 1 (Outcome.Code 200) (fields []) (words "b2") ∷ replied "D" [] 1 (Outcome.Code 200) (fields []) (words "d2") ∷ []))
    (3 ∷ []) ≡
    as_second (record_is RunStatus.Succeeded null null (fields []) (fork_rows (words "d2")))
unfolding pinned
fork-again = refl
