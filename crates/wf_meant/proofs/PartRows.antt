-- Worked values of the parts of a meaning: points, indexes, decisions that close, and depths.
use Prim.Native.String.{String}
use Rattle.std.proofs.Common.{◌≡◌, true, false, Some, None, List, [], ◌∷◌, map, refl}
use Rattle.std.specs.Prelude.{ℕ, bytes_eq, codes, decimal, negsuc}
use Rattle.wf_val.specs.Address.{address_text}
use Rattle.wf_val.specs.Arguments.{wrong_type}
use Rattle.wf_val.specs.ValueTree.{ValueTree, null, number}
use Rattle.wf_val.specs.declared.fault.EvalFault.{EvalFault}
use Rattle.wf_val.specs.declared.function.Fun.{Fun}
use Rattle.wf_template.specs.ExprTree.{member}
use Rattle.wf_template.specs.TemplateTree.{whole}
use Rattle.wf_retry.specs.declared.policy.Outcome.{Outcome}
use Rattle.wf_retry.specs.declared.policy.Policy.{Policy}
use Rattle.wf_done.specs.AnswerTree.{AnswerTree}
use Rattle.wf_template.specs.CondTree.{holds}
use Rattle.wf_refs.specs.Address.{Table, address}
use Rattle.wf_refs.specs.ActionTree.{compose, connector, scope, switch_else, foreach, until, action_trees, no_cases, no_actions}
use Rattle.wf_refs.specs.DefTree.{DefTree}
use Rattle.wf_environment.specs.Record.{RecordTree, Row, RowTree}
use Rattle.wf_environment.specs.Try.{Try}
use Rattle.wf_environment.specs.RunStatus.{RunStatus}
use Rattle.wf_environment.specs.Status.{Status}
use Rattle.wf_environment.specs.Status.TheVariants.{Succeeded, Failed, Skipped, TimedOut, Cancelled}
use Rattle.wf_says.specs.Decisions.{nothing, chosen, each, too_many, faulty}
use Rattle.wf_says.specs.Verdicts.{met, astray}
use Rattle.wf_done.specs.Done as done
use Rattle.wf_environment.specs.Environment.{Environment}
use Rattle.wf_meant.specs.Containers.{closed, closed_as, failed_by, iterations_value}
use Rattle.wf_meant.specs.Look.{index_in, name_of, told_at, told_in_test, told_to_outputs}
use Rattle.wf_meant.specs.Points.{point_of, point_of_outputs, point_of_test, sees}
use Rattle.wf_meant.specs.Record.{depth_of, meaning}
use Rattle.wf_meant.specs.References.{every, last_of, latest, one, shared, spots_by}
use Rattle.wf_meant.specs.Resubmitted.{pinned}
use Rattle.wf_meant.specs.Rows.{iterations_of, row_of, turns_at, turns_said}
use Rattle.wf_meant.specs.Status.{graph_status}
use Rattle.wf_meant.specs.Variables.{indexes_from, instances_at, seen_by}
use Rattle.wf_meant.proofs.Terms.{act, alone, answered, as_second, called, ended, fields, giving, inputs_again, nat, num, obj, of}
use Rattle.wf_meant.proofs.Terms.{of_actions}
use Rattle.wf_meant.proofs.Terms.{record_is, replied, success_of, value, values, words}

-- A; a sequential Foreach L after A, of C and of a concurrent Foreach M of D after C; an Until U after L, of E.
abbrev nested : DefTree
nested = of_actions (
    act "A" 0 [] (compose (nat 1))
    ∷ act "L" 4 (success_of 0) (foreach (of (num 1)) 1 (action_trees (
    act "C" 1 [] (compose (nat 1))
    ∷ act "M" 5 (success_of 1) (foreach (of (num 1)) 20 (action_trees (act "D" 2 [] (compose (nat 1)) ∷ [])))
    ∷ [])))
    ∷ act "U" 6 (success_of 4) (until (holds (whole (num 1))) 3 false (action_trees (act "E" 3 [] (compose (nat 1)) ∷ [])))
    ∷ [])

-- ---- which instances are earlier

sees-before : sees (point_of nested (address 3 (0 ∷ []))) (address 0 []) ≡ true
sees-before = refl

sees-not-itself : sees (point_of nested (address 0 [])) (address 0 []) ≡ false
sees-not-itself = refl

sees-not-after : sees (point_of nested (address 0 [])) (address 1 (0 ∷ [])) ≡ false
sees-not-after = refl

-- what is before a loop is before all inside it, and so is what is inside a loop that is before
sees-into-loops : sees (point_of nested (address 3 (2 ∷ []))) (address 2 (7 ∷ 9 ∷ [])) ≡ true
sees-into-loops = refl

-- in a loop that goes one iteration after the other all of an earlier iteration is seen, of the same what is before, of a later one nothing
sees-earlier-iteration : sees (point_of nested (address 1 (1 ∷ []))) (address 2 (0 ∷ 5 ∷ [])) ≡ true
sees-earlier-iteration = refl

sees-same-iteration : sees (point_of nested (address 2 (1 ∷ 0 ∷ []))) (address 1 (1 ∷ [])) ≡ true
sees-same-iteration = refl

sees-not-later-iteration : sees (point_of nested (address 2 (1 ∷ 0 ∷ []))) (address 1 (2 ∷ [])) ≡ false
sees-not-later-iteration = refl

-- side by side nothing of another iteration is
sees-not-beside : sees (point_of nested (address 2 (1 ∷ 1 ∷ []))) (address 2 (1 ∷ 0 ∷ [])) ≡ false
sees-not-beside = refl

-- a test sees what its Until does, and the iterations up to its own
test-sees-before : sees (point_of_test nested (address 6 []) 1) (address 2 (0 ∷ 0 ∷ [])) ≡ true
test-sees-before = refl

test-sees-iteration : sees (point_of_test nested (address 6 []) 1) (address 3 (1 ∷ [])) ≡ true
test-sees-iteration = refl

test-sees-earlier-iteration : sees (point_of_test nested (address 6 []) 1) (address 3 (0 ∷ [])) ≡ true
test-sees-earlier-iteration = refl

test-sees-not-later : sees (point_of_test nested (address 6 []) 1) (address 3 (2 ∷ [])) ≡ false
test-sees-not-later = refl

test-sees-not-itself : sees (point_of_test nested (address 6 []) 1) (address 6 []) ≡ false
test-sees-not-itself = refl

outputs-see-all : map (sees (point_of_outputs nested)) (address 0 [] ∷ address 2 (0 ∷ 0 ∷ []) ∷ address 6 [] ∷ []) ≡ true ∷ true ∷ true ∷ []
outputs-see-all = refl

-- ---- where references lead

abbrev with_rounds : Table Row
with_rounds x = Some (row_of (closed_as Succeeded (values (value 7 ∷ value 8 ∷ [])) null) null [])

abbrev with_turns : Table Row
with_turns x = Some (row_of (closed_as Succeeded null (iterations_value 3)) null [])

abbrev without : Table Row
without x = None

shared-outer : shared (point_of nested (address 2 (4 ∷ 5 ∷ []))) 1 ≡ 4 ∷ []
shared-outer = refl

shared-none : shared (point_of nested (address 3 (4 ∷ []))) 2 ≡ []
shared-none = refl

spots-here : spots_by nested (4 ∷ []) [] with_rounds ≡ Some (one (4 ∷ []))
spots-here = refl

spots-of-foreach : spots_by nested (4 ∷ []) (5 ∷ []) with_rounds ≡ Some (every ((4 ∷ 0 ∷ []) ∷ (4 ∷ 1 ∷ []) ∷ []))
spots-of-foreach = refl

spots-of-until : spots_by nested [] (6 ∷ []) with_turns ≡ Some (latest (Some (2 ∷ [])))
spots-of-until = refl

spots-of-no-foreach : spots_by nested [] (4 ∷ []) without ≡ Some (every [])
spots-of-no-foreach = refl

spots-of-no-until : spots_by nested [] (6 ∷ []) without ≡ Some (latest None)
spots-of-no-until = refl

spots-of-two : spots_by nested [] (4 ∷ 5 ∷ []) with_rounds ≡ None
spots-of-two = refl

spots-of-no-loop : spots_by nested [] (0 ∷ []) with_rounds ≡ None
spots-of-no-loop = refl

-- a list that an Until took in, and a number that a Foreach gives out, say nothing
spots-of-foreach-without-list : spots_by nested (4 ∷ []) (5 ∷ []) with_turns ≡ Some (every [])
spots-of-foreach-without-list = refl

spots-of-until-with-list : spots_by nested [] (6 ∷ []) with_rounds ≡ Some (latest None)
spots-of-until-with-list = refl

last-iteration : last_of (4 ∷ []) 2 ≡ Some (4 ∷ 1 ∷ [])
last-iteration = refl

-- ---- how many iterations a row says, by the kind of its action

abbrev kept : ValueTree → ValueTree → Row
kept i o = row_of (closed_as Succeeded i o) null []

abbrev said_by_foreach : ValueTree → ValueTree → ℕ
said_by_foreach i o = turns_said (foreach (nat 1) 20 no_actions) (kept i o)

abbrev said_by_until : ValueTree → ValueTree → ℕ
said_by_until i o = turns_said (until (holds (whole (num 1))) 3 true no_actions) (kept i o)

foreach-says-items : said_by_foreach (values (value 7 ∷ value 8 ∷ [])) null ≡ 2
foreach-says-items = refl

foreach-of-nothing-says-none : said_by_foreach (values []) null ≡ 0
foreach-of-nothing-says-none = refl

-- whatever it gave out
foreach-with-outputs : said_by_foreach (values (value 7 ∷ value 8 ∷ [])) (words "o") ≡ 2
foreach-with-outputs = refl

foreach-with-number : said_by_foreach (values (value 7 ∷ [])) (iterations_value 3) ≡ 1
foreach-with-number = refl

foreach-without-list : said_by_foreach null (iterations_value 3) ≡ 0
foreach-without-list = refl

foreach-of-text : said_by_foreach (words "ab") null ≡ 0
foreach-of-text = refl

until-says-rounds : said_by_until null (iterations_value 3) ≡ 3
until-says-rounds = refl

-- whatever it took in, and however often it may go round
until-with-inputs : said_by_until (words "i") (iterations_value 3) ≡ 3
until-with-inputs = refl

until-with-list : said_by_until (values (value 7 ∷ value 8 ∷ [])) (iterations_value 3) ≡ 3
until-with-list = refl

until-more-than-any : said_by_until null (iterations_value 5001) ≡ 5001
until-more-than-any = refl

until-with-list-alone : said_by_until (values (value 7 ∷ value 8 ∷ [])) null ≡ 0
until-with-list-alone = refl

until-with-further-member : said_by_until null (fields ((codes "iterations", value 3) ∷ (codes "x", null) ∷ [])) ≡ 0
until-with-further-member = refl

until-of-other-name : said_by_until null (fields ((codes "Iterations", value 3) ∷ [])) ≡ 0
until-of-other-name = refl

until-below-nothing : said_by_until null (fields ((codes "iterations", number (negsuc 2)) ∷ [])) ≡ 0
until-below-nothing = refl

compose-says-none : turns_said (compose (nat 1)) (kept (values (value 7 ∷ [])) (iterations_value 3)) ≡ 0
compose-says-none = refl

scope-says-none : turns_said (scope no_actions) (kept (values (value 7 ∷ [])) (iterations_value 3)) ≡ 0
scope-says-none = refl

no-action-says-none : iterations_of None (Some (kept (values (value 7 ∷ [])) (iterations_value 3))) ≡ 0
no-action-says-none = refl

no-row-says-none : iterations_of (Some (act "L" 0 [] (foreach (nat 1) 20 no_actions))) None ≡ 0
no-row-says-none = refl

-- by the number of the action: that of the Foreach, of the Until, of a leaf, and one of no action
turns-of-foreach : turns_at nested with_rounds 4 [] ≡ 2
turns-of-foreach = refl

turns-of-until : turns_at nested with_turns 6 [] ≡ 3
turns-of-until = refl

turns-of-leaf : turns_at nested with_rounds 0 [] ≡ 0
turns-of-leaf = refl

turns-of-nobody : turns_at nested with_rounds 7 [] ≡ 0
turns-of-nobody = refl

-- ---- instances that may be earlier

-- a loop round both is begun up to the point's index, and in it the others say how many iterations they had
instances-inside : instances_at nested (point_of nested (address 1 (1 ∷ []))) with_rounds 2 ≡
    address 2 (0 ∷ 0 ∷ []) ∷ address 2 (0 ∷ 1 ∷ []) ∷ []
instances-inside = refl

instances-of-itself : instances_at nested (point_of nested (address 1 (2 ∷ []))) without 1 ≡
    address 1 (0 ∷ []) ∷ address 1 (1 ∷ []) ∷ address 1 (2 ∷ []) ∷ []
instances-of-itself = refl

instances-outside : instances_at nested (point_of_outputs nested) with_rounds 1 ≡ address 1 (0 ∷ []) ∷ address 1 (1 ∷ []) ∷ []
instances-outside = refl

-- the index of the point is cut only as long as the loops and the indexes are the same
indexes-behind : indexes_from nested with_rounds (4 ∷ 5 ∷ []) [] (4 ∷ 5 ∷ []) (1 ∷ 0 ∷ []) ≡
    (0 ∷ 0 ∷ []) ∷ (0 ∷ 1 ∷ []) ∷ (1 ∷ 0 ∷ []) ∷ []
indexes-behind = refl

indexes-apart : indexes_from nested with_rounds (5 ∷ []) [] (4 ∷ []) (0 ∷ []) ≡ (0 ∷ []) ∷ (1 ∷ []) ∷ []
indexes-apart = refl

-- rows that a point doesn't see aren't there
unseen-row : seen_by (point_of nested (address 0 [])) with_rounds (address 4 []) ≡ None
unseen-row = refl

-- ---- the index of a loop goes by its name

index-of-outer : index_in nested (4 ∷ 5 ∷ []) (3 ∷ 8 ∷ []) (codes "L") ≡ Some 3
index-of-outer = refl

index-of-inner : index_in nested (4 ∷ 5 ∷ []) (3 ∷ 8 ∷ []) (codes "M") ≡ Some 8
index-of-inner = refl

index-of-none : index_in nested (4 ∷ 5 ∷ []) (3 ∷ 8 ∷ []) (codes "U") ≡ None
index-of-none = refl

-- ---- rows of containers by what they decided

abbrev switch-none : done.DoneTree
switch-none = closed (switch_else (whole (num 1)) no_cases no_actions) [] (chosen (words "x") 1) 0 None without

closed-switch : switch-none ≡ closed_as Succeeded (words "x") null
closed-switch = refl

closed-foreach-empty : closed (foreach (nat 1) 20 no_actions) [] (each []) 0 None without ≡ closed_as Succeeded (values []) null
closed-foreach-empty = refl

closed-foreach-many : closed (foreach (nat 1) 20 no_actions) [] too_many 0 None without ≡ failed_by (codes "LimitExceeded") null
closed-foreach-many = refl

closed-foreach-faulty : closed (foreach (nat 1) 20 no_actions) [] (faulty (EvalFault.Range Fun.Div)) 0 None without ≡
    done.faulted (EvalFault.Range Fun.Div)
closed-foreach-faulty = refl

closed-until-met : closed (until (holds (whole (num 1))) 3 true no_actions) [] nothing 3 (Some (met true)) without ≡
    closed_as Succeeded null (iterations_value 3)
closed-until-met = refl

closed-until-out : closed (until (holds (whole (num 1))) 3 true no_actions) [] nothing 3 (Some (met false)) without ≡
    failed_by (codes "LimitReached") (iterations_value 3)
closed-until-out = refl

closed-until-astray : closed (until (holds (whole (num 1))) 3 true no_actions) [] nothing 1
    (Some (astray (wrong_type Fun.Condition 0))) without ≡
    record (done.faulted (wrong_type Fun.Condition 0)) { outputs = iterations_value 1 }
closed-until-astray = refl

-- ---- how graphs end

-- every row has this status
abbrev all_ended : Status → Table Row
all_ended status x = Some (row_of (record { status = status; code = []; inputs = null; outputs = null; error = null }) null [])

abbrev ends_as : Status → Status
ends_as status = graph_status (act "A" 0 [] (compose (nat 1)) ∷ act "B" 1 (success_of 0) (compose (nat 1)) ∷ []) [] (all_ended status)

graph-statuses : map ends_as (Succeeded ∷ Failed ∷ Skipped ∷ TimedOut ∷ Cancelled ∷ []) ≡
    Succeeded ∷ Failed ∷ Succeeded ∷ Failed ∷ Failed ∷ []
graph-statuses = refl

graph-empty : graph_status [] [] (all_ended Failed) ≡ Succeeded
graph-empty = refl

-- ---- depths, and layers

depths-nested : map (depth_of nested) (0 ∷ 1 ∷ 2 ∷ 3 ∷ 4 ∷ 5 ∷ 6 ∷ []) ≡ 0 ∷ 1 ∷ 2 ∷ 5 ∷ 1 ∷ 2 ∷ 5 ∷ []
depths-nested = refl

names-nested : map (name_of nested) (0 ∷ 4 ∷ 9 ∷ []) ≡ codes "A" ∷ codes "L" ∷ [] ∷ []
names-nested = refl

-- ---- words: at the address of an instance; of a test with the index of its iteration behind it; and of the section `outputs`

place-of-instance : (told_at nested (answered []) (address 2 (4 ∷ 5 ∷ [])) without).place ≡
    address_text (record { name = codes "D"; at = 4 ∷ 5 ∷ [] })
place-of-instance = refl

place-of-test : (told_in_test nested (answered []) (address 6 []) 2 without).place ≡ address_text (record { name = codes "U"; at = 2 ∷ [] })
place-of-test = refl

place-of-outputs : (told_to_outputs nested (answered []) without).place ≡ codes "@outputs"
place-of-outputs = refl

-- ---- an action goes by the last layer that has it, the section `outputs` and the record by the last layer

abbrev two-calls : DefTree
two-calls = giving ((codes "r", of (member (member (alone "workflow") (codes "run") false) (codes "name") false)) ∷ []) (of_actions (
    act "A" 0 [] (connector (obj []) Policy.Standard) ∷ act "B" 1 [] (connector (obj []) Policy.Standard) ∷ []))

abbrev replies : String → String → List AnswerTree
replies a b =
    replied "A" [] 1 (Outcome.Code 200) (fields []) (words a) ∷ replied "B" [] 1 (Outcome.Code 200) (fields []) (words b) ∷ []

abbrev with_layer : Environment
with_layer = record (answered (replies "a" "b")) {
  layers = record { redone = bytes_eq (codes "A"); inputs = inputs_again (replies "a2" "b2") } ∷ [];
}

abbrev called_row : String → String → RowTree
called_row s body = called (Try.Code 200 ∷ []) (ended s [] Succeeded (decimal 200) (fields [])
    (fields ((codes "body", words body) ∷ (codes "headers", fields []) ∷ (codes "statusCode", value 200) ∷ [])))

layer-counts : meaning two-calls with_layer ≡ as_second
    (record_is RunStatus.Succeeded null null (fields ((codes "r", words "r2") ∷ [])) (called_row "A" "a2" ∷ called_row "B" "b" ∷ []))
unfolding meaning
layer-counts = refl

-- ---- a resubmission has the trigger and the parameters of the older run, and the name of the new one

abbrev older : RecordTree
older = record (record_is RunStatus.Failed null null null []) { trigger = words "t"; parameters = (codes "p", value 1) ∷ [] }

resubmitted-start : pinned (of_actions []) older (inputs_again []) [] ≡ record
    (as_second (record_is RunStatus.Succeeded null null (fields []) []))
    { trigger = words "t"; parameters = (codes "p", value 1) ∷ [] }
unfolding pinned
resubmitted-start = refl
