-- Worked definitions and values. What is told at a point: of the start, of the layers, and of actions inside containers and loops.
use Prim.Native.String.{String}
use Rattle.std.proofs.Common.{◌≡◌, [], ◌∷◌, refl}
use Rattle.std.specs.Prelude.{ℕ, ℤ, pos, false, List, map, Option, None, Some, bytes_eq, codes}
use Rattle.wf_val.specs.ValueTree.{ValueTree, null}
use Rattle.wf_val.specs.declared.fault.EvalFault.{EvalFault}
use Rattle.wf_val.specs.declared.function.Fun.{Fun}
use Rattle.wf_template.specs.CondTree.{holds}
use Rattle.wf_template.specs.DataTree.{DataTree}
use Rattle.wf_template.specs.ExprTree.{ExprTree, index, member}
use Rattle.wf_template.specs.TemplateTree.{plain, whole}
use Rattle.wf_layers.specs.Address.{Table, address}
use Rattle.wf_look.specs.Told.{Told}
use Rattle.wf_def.specs.ActionTree.{compose, foreach, initialize, scope, switch_else, until, action_trees, case_trees}
use Rattle.wf_def.specs.DefTree.{DefTree}
use Rattle.wf_def.specs.declared.sort.Sort.{Sort}
use Rattle.wf_trigger.specs.Starts.{StartTree, trigger_value}
use Rattle.wf_record.specs.Record.{Row}
use Rattle.wf_record.specs.declared.status.RunStatus.{RunStatus}
use Rattle.wf_record.specs.declared.status.Status.{Status}
use Rattle.wf_record.specs.declared.status.Status.TheVariants.{Succeeded, Failed, Skipped, TimedOut, Cancelled}
use Rattle.wf_environment.specs.Environment.{Environment, fresh}
use Rattle.wf_meant.specs.Containers.{closed_as}
use Rattle.wf_meant.specs.Look.{told_at, told_in_test, told_to_outputs}
use Rattle.wf_meant.specs.Points.{point_of}
use Rattle.wf_meant.specs.Record.{meaning}
use Rattle.wf_meant.specs.References.{result_at, view_at}
use Rattle.wf_meant.specs.Rows.{row_of}
use Rattle.wf_meant.specs.Variables.{given_by}
use Rattle.wf_meant.proofs.Terms.{act, alone, answered, apply, ask, ended, failure_of, fell, fields, giving, initial, inputs_again}
use Rattle.wf_meant.proofs.Terms.{many, nat, num, obj, of, of_actions, ran, record_is, rows_in, say, success_of, txt, unrun, value, values}
use Rattle.wf_meant.proofs.Terms.{words}

-- ---- of the start

abbrev start_of_item : StartTree
start_of_item = record {
  run = codes "r1-1";
  seed = codes "s-1";
  trigger = trigger_value (words "t") (fields ((codes "body", value 8) ∷ []));
  parameters = (codes "p", value 3) ∷ [];
}

abbrev item_run : Environment
item_run = fresh start_of_item (inputs_again [])

-- Parameters, the trigger and the run's name are those of the start, though the inputs have a name of their own.
abbrev asks-start : DefTree
asks-start = of_actions (
    act "A" 0 [] (compose (of (ask "parameters" (say "p"))))
    ∷ act "B" 1 [] (compose (of (alone "triggerBody")))
    ∷ act "C" 2 [] (compose (of (member (member (alone "workflow") (codes "run") false) (codes "name") false)))
    ∷ act "D" 3 [] (compose (of (ask "parameters" (say "q"))))
    ∷ act "E" 4 [] (compose (of (index (alone "trigger") (say "name") false)))
    ∷ [])

asks-start-means : meaning (record asks-start { digest = 1 ∷ 2 ∷ [] }) item_run ≡ record
    (record_is RunStatus.Failed null null (fields []) (
    ran "A" [] (value 3) (value 3)
    ∷ ran "B" [] (value 8) (value 8)
    ∷ ran "C" [] (words "r1-1") (words "r1-1")
    ∷ fell "D" [] (EvalFault.NoValue (codes "q"))
    ∷ ran "E" [] (words "t") (words "t")
    ∷ [])) {
      run = codes "r1-1";
      digest = 1 ∷ 2 ∷ [];
      trigger = trigger_value (words "t") (fields ((codes "body", value 8) ∷ []));
      parameters = (codes "p", value 3) ∷ [];
    }
unfolding meaning
asks-start-means = refl

-- ---- of the layers: A and the Until U were done anew, and B wasn't

abbrev layered : DefTree
layered = of_actions (
    act "A" 0 [] (compose (nat 1))
    ∷ act "B" 1 [] (compose (nat 1))
    ∷ act "U" 2 [] (until (holds (whole (num 1))) 3 false (action_trees []))
    ∷ act "V" 3 [] (until (holds (whole (num 1))) 3 false (action_trees []))
    ∷ [])

abbrev anew : Environment
anew = record item_run {
  inputs = record (inputs_again []) { moment = 5 };
  layers =
      record { redone = bytes_eq (codes "A"); inputs = record (inputs_again []) { run = codes "r2"; seed = codes "s2"; moment = 6 } }
      ∷ record { redone = bytes_eq (codes "U"); inputs = record (inputs_again []) { run = codes "r3"; seed = codes "s3"; moment = 7 } }
      ∷ [];
}

abbrev unknown : Table Row
unknown x = None

abbrev facts_told : Told → ℤ × (List ℕ × List ℕ)
facts_told l = (l.moment, (l.run_name, l.seed))

told-redone : facts_told (told_at layered anew (address 0 []) unknown) ≡ (pos 6, (codes "r2", codes "s2"))
told-redone = refl

told-first : facts_told (told_at layered anew (address 1 []) unknown) ≡ (pos 5, (codes "r1-1", codes "s-1"))
told-first = refl

told-redone-test : facts_told (told_in_test layered anew (address 2 []) 0 unknown) ≡ (pos 7, (codes "r3", codes "s3"))
told-redone-test = refl

told-first-test : facts_told (told_in_test layered anew (address 3 []) 0 unknown) ≡ (pos 5, (codes "r1-1", codes "s-1"))
told-first-test = refl

told-outputs : facts_told (told_to_outputs layered anew unknown) ≡ (pos 7, (codes "r3", codes "s3"))
told-outputs = refl

-- trigger and parameters are the first start's in each
told-trigger : (told_at layered anew (address 0 []) unknown).trigger ≡ start_of_item.trigger
told-trigger = refl

told-parameter : (told_at layered anew (address 0 []) unknown).parameter (codes "p") ≡ Some (value 3)
told-parameter = refl

-- ---- views

abbrev viewed : (code error inputs name outputs status : ValueTree) → ValueTree
viewed code error inputs name outputs status = fields (
    (codes "code", code)
    ∷ (codes "error", error)
    ∷ (codes "inputs", inputs)
    ∷ (codes "name", name)
    ∷ (codes "outputs", outputs)
    ∷ (codes "status", status)
    ∷ [])

-- The views of a container, of an action in it that Failed, and of one that was Skipped.
abbrev views : DefTree
views = of_actions (
    act "A" 0 (failure_of 4) (compose (of (ask "actions" (say "S"))))
    ∷ act "B" 1 (failure_of 4) (compose (of (ask "actions" (say "F"))))
    ∷ act "C" 2 (failure_of 4) (compose (of (ask "actions" (say "T"))))
    ∷ act "S" 4 [] (scope (action_trees (
    act "F" 3 [] (compose (of (apply "div" (num 1 ∷ num 0 ∷ [])))) ∷ act "T" 5 (success_of 3) (compose (nat 1)) ∷ [])))
    ∷ [])

abbrev view_of_scope : ValueTree
view_of_scope = viewed (words "ActionFailed") null null (words "S") null (words "Failed")

abbrev view_of_failed : ValueTree
view_of_failed = viewed (words "InvalidTemplate") (words "Range div") null (words "F") null (words "Failed")

abbrev view_of_skipped : ValueTree
view_of_skipped = viewed (words "ActionSkipped") null null (words "T") null (words "Skipped")

views-mean : rows_in views [] ≡
    ran "A" [] view_of_scope view_of_scope
    ∷ ran "B" [] view_of_failed view_of_failed
    ∷ ran "C" [] view_of_skipped view_of_skipped
    ∷ fell "F" [] (EvalFault.Range Fun.Div)
    ∷ ended "S" [] Failed (codes "ActionFailed") null null
    ∷ unrun "T" []
    ∷ []
views-mean = refl

-- From outside a Foreach each iteration has its view, its outputs and its body, in the order of the iterations; a Skipped one has null.
abbrev views-out : DefTree
views-out = of_actions (
    act "A" 0 (failure_of 3) (compose (many (of (ask "body" (say "C")) ∷ of (ask "outputs" (say "C")) ∷ of (ask "actions" (say "C")) ∷ [])))
    ∷ act "L" 3 [] (foreach (many (nat 1 ∷ nat 2 ∷ [])) 20 (action_trees (
    act "C" 1 (success_of 2) (compose (obj ((codes "body", of (alone "item")) ∷ [])))
    ∷ act "D" 2 [] (compose (of (apply "div" (num 1 ∷ apply "sub" (alone "item" ∷ num 1 ∷ []) ∷ []))))
    ∷ [])))
    ∷ [])

abbrev body_of : ℕ → ValueTree
body_of n = fields ((codes "body", value n) ∷ [])

abbrev seen_outside : ValueTree
seen_outside = values (
    values (null ∷ value 2 ∷ [])
    ∷ values (null ∷ body_of 2 ∷ [])
    ∷ values (
    viewed (words "ActionSkipped") null null (words "C") null (words "Skipped")
    ∷ viewed (words "OK") null (body_of 2) (words "C") (body_of 2) (words "Succeeded")
    ∷ [])
    ∷ [])

views-out-mean : rows_in views-out [] ≡
    ran "A" [] seen_outside seen_outside
    ∷ unrun "C" (0 ∷ [])
    ∷ ran "C" (1 ∷ []) (body_of 2) (body_of 2)
    ∷ fell "D" (0 ∷ []) (EvalFault.Range Fun.Div)
    ∷ ran "D" (1 ∷ []) (value 1) (value 1)
    ∷ ended "L" [] Failed (codes "ActionFailed") (values (value 1 ∷ value 2 ∷ [])) null
    ∷ []
views-out-mean = refl

-- what no action is named, and the result of what holds no others, aren't there
no-view : view_at views (point_of views (address 0 [])) unknown (codes "Q") ≡ None
no-view = refl

no-result : result_at views (point_of views (address 0 [])) unknown (codes "F") ≡ None
no-result = refl

-- ---- results

abbrev part_of : ExprTree → ℕ → ExprTree
part_of e n = index (index e (num n) false) (say "outputs") false

abbrev told_of : ExprTree → ℕ → DataTree
told_of e n = many (of (index (index e (num n) false) (say "name") false) ∷ of (index (index e (num n) false) (say "status") false) ∷ [])

-- The result of a Switch has all its cases and its default, by the names of the actions.
abbrev switched : DefTree
switched = of_actions (
    act "R" 2 (success_of 3) (compose (many (
    told_of (ask "result" (say "W")) 0 ∷ told_of (ask "result" (say "W")) 1 ∷ told_of (ask "result" (say "W")) 2
    ∷ of (ask "length" (ask "result" (say "W"))) ∷ [])))
    ∷ act "W" 3 [] (switch_else (plain (codes "b"))
    (case_trees (
    (codes "P", (words "a", action_trees (act "Z" 4 [] (compose (nat 1)) ∷ [])))
    ∷ (codes "Q", (words "b", action_trees (act "A" 0 [] (compose (nat 2)) ∷ [])))
    ∷ []))
    (action_trees (act "M" 1 [] (compose (nat 3)) ∷ [])))
    ∷ [])

abbrev told_by_name : ValueTree
told_by_name = values (
    values (words "A" ∷ words "Succeeded" ∷ [])
    ∷ values (words "M" ∷ words "Skipped" ∷ [])
    ∷ values (words "Z" ∷ words "Skipped" ∷ [])
    ∷ value 3
    ∷ [])

switched-means : rows_in switched [] ≡
    ran "A" [] (value 2) (value 2)
    ∷ unrun "M" []
    ∷ ran "R" [] told_by_name told_by_name
    ∷ ran "W" [] (words "b") null
    ∷ unrun "Z" []
    ∷ []
switched-means = refl

-- From outside a Foreach the result of a Scope in it is one list, by iteration and then by name.
abbrev scope-in-rounds : DefTree
scope-in-rounds = of_actions (
    act "L" 0 [] (foreach (many (nat 5 ∷ nat 6 ∷ [])) 20 (action_trees (
    act "S" 2 [] (scope (action_trees (
    act "X" 3 (success_of 4) (compose (of (alone "item"))) ∷ act "Y" 4 [] (compose (nat 1)) ∷ [])))
    ∷ [])))
    ∷ act "R" 1 (success_of 0) (compose (many (
    of (part_of (ask "result" (say "S")) 0) ∷ of (part_of (ask "result" (say "S")) 1) ∷ of (part_of (ask "result" (say "S")) 2)
    ∷ of (part_of (ask "result" (say "S")) 3) ∷ of (ask "length" (ask "result" (say "S"))) ∷ [])))
    ∷ [])

scope-in-rounds-means : rows_in scope-in-rounds [] ≡
    ran "L" [] (values (value 5 ∷ value 6 ∷ [])) null
    ∷ ran "R" [] (values (value 5 ∷ value 1 ∷ value 6 ∷ value 1 ∷ value 4 ∷ [])) (values
    (value 5 ∷ value 1 ∷ value 6 ∷ value 1 ∷ value 4 ∷ []))
    ∷ ran "S" (0 ∷ []) null null
    ∷ ran "S" (1 ∷ []) null null
    ∷ ran "X" (0 ∷ []) (value 5) (value 5)
    ∷ ran "X" (1 ∷ []) (value 6) (value 6)
    ∷ ran "Y" (0 ∷ []) (value 1) (value 1)
    ∷ ran "Y" (1 ∷ []) (value 1) (value 1)
    ∷ []
scope-in-rounds-means = refl

-- In an iteration of a Foreach the result of a loop in it is that of this iteration.
abbrev inner-rounds : DefTree
inner-rounds = of_actions (
    act "L" 2 [] (foreach (many (nat 1 ∷ nat 2 ∷ [])) 20 (action_trees (
    act "D" 1 (success_of 3) (compose (of (part_of (ask "result" (say "M")) 1)))
    ∷ act "M" 3 [] (foreach (many (nat 10 ∷ nat 20 ∷ [])) 20 (action_trees (
    act "C" 0 [] (compose (of (apply "add" (alone "item" ∷ ask "items" (say "L") ∷ [])))) ∷ [])))
    ∷ [])))
    ∷ [])

inner-rounds-means : rows_in inner-rounds [] ≡
    ran "C" (0 ∷ 0 ∷ []) (value 11) (value 11)
    ∷ ran "C" (0 ∷ 1 ∷ []) (value 21) (value 21)
    ∷ ran "C" (1 ∷ 0 ∷ []) (value 12) (value 12)
    ∷ ran "C" (1 ∷ 1 ∷ []) (value 22) (value 22)
    ∷ ran "D" (0 ∷ []) (value 21) (value 21)
    ∷ ran "D" (1 ∷ []) (value 22) (value 22)
    ∷ ran "L" [] (values (value 1 ∷ value 2 ∷ [])) null
    ∷ ran "M" (0 ∷ []) (values (value 10 ∷ value 20 ∷ [])) null
    ∷ ran "M" (1 ∷ []) (values (value 10 ∷ value 20 ∷ [])) null
    ∷ []
inner-rounds-means = refl

-- ---- items

-- In a loop in a loop each item goes by the name of its loop.
abbrev named-items : DefTree
named-items = of_actions (
    act "L" 1 [] (foreach (many (nat 1 ∷ [])) 20 (action_trees (
    act "M" 2 [] (foreach (many (nat 8 ∷ nat 9 ∷ [])) 20 (action_trees (
    act "C" 0 [] (compose (many (of (ask "items" (say "M")) ∷ of (ask "items" (say "L")) ∷ []))) ∷ [])))
    ∷ [])))
    ∷ [])

named-items-mean : rows_in named-items [] ≡
    ran "C" (0 ∷ 0 ∷ []) (values (value 8 ∷ value 1 ∷ [])) (values (value 8 ∷ value 1 ∷ []))
    ∷ ran "C" (0 ∷ 1 ∷ []) (values (value 9 ∷ value 1 ∷ [])) (values (value 9 ∷ value 1 ∷ []))
    ∷ ran "L" [] (values (value 1 ∷ [])) null
    ∷ ran "M" (0 ∷ []) (values (value 8 ∷ value 9 ∷ [])) null
    ∷ []
named-items-mean = refl

-- ---- tests

-- A test sees the iterations of a Foreach that its own iteration has just had.
abbrev tests-rounds : DefTree
tests-rounds = of_actions (
    act "U" 2 [] (until
    (holds (whole (apply "equals" (ask "outputs" (say "C") ∷ apply "createArray" (num 1 ∷ num 1 ∷ []) ∷ [])))) 5 false
    (action_trees (
    act "L" 1 [] (foreach (many (nat 7 ∷ nat 8 ∷ [])) 20 (action_trees (
    act "C" 0 [] (compose (of (ask "iterationIndexes" (say "U")))) ∷ [])))
    ∷ [])))
    ∷ [])

tests-rounds-means : rows_in tests-rounds [] ≡
    ran "C" (0 ∷ 0 ∷ []) (value 0) (value 0)
    ∷ ran "C" (0 ∷ 1 ∷ []) (value 0) (value 0)
    ∷ ran "C" (1 ∷ 0 ∷ []) (value 1) (value 1)
    ∷ ran "C" (1 ∷ 1 ∷ []) (value 1) (value 1)
    ∷ ran "L" (0 ∷ []) (values (value 7 ∷ value 8 ∷ [])) null
    ∷ ran "L" (1 ∷ []) (values (value 7 ∷ value 8 ∷ [])) null
    ∷ ran "U" [] null (fields ((codes "iterations", value 2) ∷ []))
    ∷ []
tests-rounds-means = refl

-- It sees the result of a Scope in its iteration, and what was before the Until.
abbrev tests-result : DefTree
tests-result = of_actions (
    act "A" 0 [] (compose (nat 1))
    ∷ act "U" 3 (success_of 0) (until
    (holds (whole (apply "equals" (part_of (ask "result" (say "S")) 0 ∷ ask "outputs" (say "A") ∷ [])))) 5 false
    (action_trees (act "S" 2 [] (scope (action_trees (act "C" 1 [] (compose (of (ask "iterationIndexes" (say "U")))) ∷ []))) ∷ [])))
    ∷ [])

tests-result-means : rows_in tests-result [] ≡
    ran "A" [] (value 1) (value 1)
    ∷ ran "C" (0 ∷ []) (value 0) (value 0)
    ∷ ran "C" (1 ∷ []) (value 1) (value 1)
    ∷ ran "S" (0 ∷ []) null null
    ∷ ran "S" (1 ∷ []) null null
    ∷ ran "U" [] null (fields ((codes "iterations", value 2) ∷ []))
    ∷ []
tests-result-means = refl

-- Its index is that of the iteration which it follows; an iteration without actions is one, too.
abbrev tests-index : DefTree
tests-index = of_actions (
    act "U" 0 [] (until (holds (whole (apply "equals" (ask "iterationIndexes" (say "U") ∷ num 2 ∷ [])))) 5 false (action_trees [])) ∷ [])

tests-index-means : rows_in tests-index [] ≡ ran "U" [] null (fields ((codes "iterations", value 3) ∷ [])) ∷ []
tests-index-means = refl

-- ---- outputs

-- The section `outputs` leaves each loop: an Until by its last iteration, and one that was Skipped by null.
abbrev outputs-leave : DefTree
outputs-leave = giving
    ((codes "a", of (ask "outputs" (say "C")))
    ∷ (codes "b", of (ask "length" (ask "result" (say "U"))))
    ∷ (codes "c", of (ask "outputs" (say "D")))
    ∷ (codes "d", of (ask "outputs" (say "E")))
    ∷ (codes "e", of (ask "result" (say "W")))
    ∷ [])
    (of_actions (
    act "L" 3 (failure_of 4) (foreach (many (nat 1 ∷ [])) 20 (action_trees (act "D" 1 [] (compose (nat 1)) ∷ [])))
    ∷ act "U" 4 [] (until (holds (whole (apply "equals" (num 1 ∷ num 2 ∷ [])))) 2 false (action_trees (
    act "C" 0 [] (compose (of (ask "iterationIndexes" (say "U")))) ∷ [])))
    ∷ act "W" 5 (failure_of 4) (until (holds (whole (num 1))) 2 false (action_trees (act "E" 2 [] (compose (nat 1)) ∷ [])))
    ∷ []))

outputs-leave-mean : meaning outputs-leave (answered []) ≡
    record_is RunStatus.Succeeded null null
    (fields (
    (codes "a", value 1) ∷ (codes "b", value 1) ∷ (codes "c", values []) ∷ (codes "d", null) ∷ (codes "e", values []) ∷ []))
    (ran "C" (0 ∷ []) (value 0) (value 0)
    ∷ ran "C" (1 ∷ []) (value 1) (value 1)
    ∷ unrun "L" []
    ∷ ran "U" [] null (fields ((codes "iterations", value 2) ∷ []))
    ∷ unrun "W" []
    ∷ [])
unfolding meaning
outputs-leave-mean = refl

-- ---- variables

-- A Compose that gives out what an action on variables would is no writer.
abbrev no-writer : DefTree
no-writer = of_actions (
    act "C" 0 (success_of 2) (compose (obj ((codes "body", obj ((codes "name", txt "n") ∷ (codes "value", nat 7) ∷ [])) ∷ [])))
    ∷ act "R" 1 (success_of 0) (compose (of (ask "variables" (say "n"))))
    ∷ act "V" 2 [] (initialize (initial "n" Sort.Int None ∷ []))
    ∷ [])

abbrev told_value : ValueTree
told_value = fields ((codes "body", fields ((codes "name", words "n") ∷ (codes "value", value 7) ∷ [])) ∷ [])

no-writer-means : rows_in no-writer [] ≡
    ran "C" [] told_value told_value
    ∷ ran "R" [] (value 0) (value 0)
    ∷ ran "V" []
    (fields ((
      codes "variables",
      values (fields ((codes "name", words "n") ∷ (codes "type", words "integer") ∷ (codes "value", value 0) ∷ []) ∷ []),
    )
    ∷ []))
    (fields ((codes "body", fields ((codes "name", words "n") ∷ (codes "value", value 0) ∷ [])) ∷ []))
    ∷ []
no-writer-means = refl

-- Only a row that Succeeded gives a variable its value, whoever wrote the row, and only the variable that it names.
abbrev given : String → Status → Option ValueTree
given name status = given_by (codes name) (row_of (closed_as status null told_value) null [])

given-by-succeeded : given "n" Succeeded ≡ Some (value 7)
given-by-succeeded = refl

given-by-others : map (given "n") (Failed ∷ Skipped ∷ TimedOut ∷ Cancelled ∷ []) ≡ None ∷ None ∷ None ∷ None ∷ []
given-by-others = refl

given-to-other : given "m" Succeeded ≡ None
given-to-other = refl
