-- The definitions at worked values: lines that a reader can write from the form of a record, and costs that can be added up by hand.
use Rattle.std.proofs.Common.{◌≡◌, ◌^◌, ◌-◌, [], ◌∷◌, ◌++◌, Some, None, true, false, map, pos, negsuc, refl}
use Rattle.std.specs.Fmt.{digits}
use Rattle.std.specs.Prelude.{codes, ⊤}
use Rattle.hex.proofs.OnLiterals.{hex_on_literals}
use Rattle.wf_val.specs.ValueTree.{boolean, null, number, text}
use Rattle.wf_record.specs.Cost.{cost, iterations, row_cost}
use Rattle.wf_record.specs.Record.{attempts_value, find_row, index_value, record_line, row_json, row_value, run_status_name, status_name}
use Rattle.wf_record.specs.Record.{try_value}
use Rattle.wf_record.specs.Worked.{at_rounds, called, empty, failed, finished, foreach, list_of, number_of, object_of, rounds_told, skipped}
use Rattle.wf_record.specs.Worked.{succeeded, until}
use Rattle.wf_record.specs.declared.attempt.Try.{Try}
use Rattle.wf_record.specs.declared.status.Status.{Status}
use Rattle.wf_record.specs.declared.status.RunStatus.{RunStatus}

-- what a row unfolds to be computed
unfoldable on_literals : ⊤
unfolding hex_on_literals digits
on_literals = tt

-- ---- words

statuses : map status_name (Status.Succeeded ∷ Status.Failed ∷ Status.Skipped ∷ Status.TimedOut ∷ Status.Cancelled ∷ [])
    ≡ codes "Succeeded" ∷ codes "Failed" ∷ codes "Skipped" ∷ codes "TimedOut" ∷ codes "Cancelled" ∷ []
statuses = refl

run_statuses : map run_status_name (RunStatus.Succeeded ∷ RunStatus.Failed ∷ RunStatus.Cancelled ∷ [])
    ≡ codes "Succeeded" ∷ codes "Failed" ∷ codes "Cancelled" ∷ []
run_statuses = refl

-- ---- attempts

tries-each : map try_value (Try.Code 100 ∷ Try.Code 599 ∷ Try.NoConnection ∷ Try.TimedOut ∷ Try.NoAnswer ∷ Try.Unknown ∷ [])
    ≡ number_of 100 ∷ number_of 599 ∷ text (codes "noConnection") ∷ text (codes "timedOut") ∷ text (codes "noAnswer") ∷ text (codes "unknown") ∷ []
tries-each = refl

attempts-none : attempts_value [] ≡ list_of []
attempts-none = refl

-- in the order in which they were made, each as often as it came
attempts-in_order : attempts_value (Try.NoAnswer ∷ Try.Code 500 ∷ Try.Code 500 ∷ Try.Code 200 ∷ [])
    ≡ list_of (text (codes "noAnswer") ∷ number_of 500 ∷ number_of 500 ∷ number_of 200 ∷ [])
attempts-in_order = refl

-- ---- values

value-called : row_value called ≡ object_of (
    (codes "at", list_of (number_of 0 ∷ number_of 12 ∷ []))
    ∷ (codes "attempts", list_of (number_of 503 ∷ text (codes "noConnection") ∷ text (codes "timedOut") ∷ []))
    ∷ (codes "code", text (codes "504"))
    ∷ (codes "error", text (codes "by hand"))
    ∷ (codes "inputs", text (codes "i"))
    ∷ (codes "name", text (codes "Call"))
    ∷ (codes "outputs", list_of (boolean true ∷ boolean false ∷ null ∷ []))
    ∷ (codes "status", text (codes "TimedOut"))
    ∷ (codes "tracked", object_of ((codes "k", text (codes "twelve bytes")) ∷ []))
    ∷ [])
value-called = refl

-- ---- lines

row-escaped : row_json succeeded
    ≡ codes "{\"at\":[],\"attempts\":[],\"code\":\"OK\",\"error\":null,\"inputs\":7,\"name\":\"A \\\"1\\\"\\\\\",\"outputs\":{\"b\":null},\"status\":\"Succeeded\",\"tracked\":{}}"
unfolding row_json on_literals
row-escaped = refl

row-failed : row_json failed
    ≡ codes "{\"at\":[],\"attempts\":[],\"code\":\"InvalidTemplate\",\"error\":\"NoValue \\\"x\\\"\",\"inputs\":null,\"name\":\"Bad\",\"outputs\":null,\"status\":\"Failed\",\"tracked\":{}}"
unfolding row_json on_literals
row-failed = refl

row-called : row_json called
    ≡ codes "{\"at\":[0,12],\"attempts\":[503,\"noConnection\",\"timedOut\"],\"code\":\"504\",\"error\":\"by hand\",\"inputs\":\"i\",\"name\":\"Call\",\"outputs\":[true,false,null],\"status\":\"TimedOut\",\"tracked\":{\"k\":\"twelve bytes\"}}"
unfolding row_json on_literals
row-called = refl

row-skipped : row_json skipped
    ≡ codes "{\"at\":[],\"attempts\":[],\"code\":\"ActionSkipped\",\"error\":null,\"inputs\":null,\"name\":\"Done\",\"outputs\":null,\"status\":\"Skipped\",\"tracked\":{}}"
unfolding row_json on_literals
row-skipped = refl

line-finished : record_line finished
    ≡ codes "{\"definition\":\"000aabff12121212121212121212121212121212121212121212121212121212\",\"error\":{\"code\":\"E\"},\"form\":2,\"outputs\":{\"o\":1}"
    ++ codes ",\"parameters\":{\"p\":\"q\"},\"response\":false,\"rows\":["
    ++ codes "{\"at\":[],\"attempts\":[],\"code\":\"OK\",\"error\":null,\"inputs\":7,\"name\":\"A \\\"1\\\"\\\\\",\"outputs\":{\"b\":null},\"status\":\"Succeeded\",\"tracked\":{}},"
    ++ codes "{\"at\":[],\"attempts\":[],\"code\":\"InvalidTemplate\",\"error\":\"NoValue \\\"x\\\"\",\"inputs\":null,\"name\":\"Bad\",\"outputs\":null,\"status\":\"Failed\",\"tracked\":{}},"
    ++ codes "{\"at\":[0,12],\"attempts\":[503,\"noConnection\",\"timedOut\"],\"code\":\"504\",\"error\":\"by hand\",\"inputs\":\"i\",\"name\":\"Call\",\"outputs\":[true,false,null],\"status\":\"TimedOut\",\"tracked\":{\"k\":\"twelve bytes\"}},"
    ++ codes "{\"at\":[],\"attempts\":[],\"code\":\"ActionSkipped\",\"error\":null,\"inputs\":null,\"name\":\"Done\",\"outputs\":null,\"status\":\"Skipped\",\"tracked\":{}}"
    ++ codes "],\"run\":\"r-1\",\"status\":\"Failed\",\"trigger\":{\"name\":\"manual\",\"outputs\":-1}}\n"
unfolding record_line on_literals
line-finished = refl

line-empty : record_line empty
    ≡ codes "{\"definition\":\"0000000000000000000000000000000000000000000000000000000000000000\",\"error\":null,\"form\":2,\"outputs\":{},\"parameters\":{}"
    ++ codes ",\"response\":null,\"rows\":[],\"run\":\"r\",\"status\":\"Succeeded\",\"trigger\":{}}\n"
unfolding record_line on_literals
line-empty = refl

index-greatest : index_value (2 ^ 63 - 1) ≡ number (pos 9223372036854775807)
index-greatest = refl

index-cut : index_value (2 ^ 64 - 1) ≡ number (pos 9223372036854775807)
index-cut = refl

-- ---- rows by their addresses

row-by_name : find_row (at_rounds (codes "Bad") []) finished.rows ≡ Some failed
row-by_name = refl

row-by_rounds : find_row (at_rounds (codes "Call") (0 ∷ 12 ∷ [])) finished.rows ≡ Some called
row-by_rounds = refl

row-other_round : find_row (at_rounds (codes "Call") (0 ∷ 11 ∷ [])) finished.rows ≡ None
row-other_round = refl

row-no_round : find_row (at_rounds (codes "Call") []) finished.rows ≡ None
row-no_round = refl

row-other_case : find_row (at_rounds (codes "bad") []) finished.rows ≡ None
row-other_case = refl

-- ---- iterations

foreach-of_none : iterations (list_of []) null ≡ 0
foreach-of_none = refl

foreach-of_three : iterations (list_of (null ∷ null ∷ null ∷ [])) null ≡ 3
foreach-of_three = refl

-- a list that is given out, or is taken in by an action that gives something out, is no loop's
list-as_outputs : iterations null (list_of (null ∷ null ∷ [])) ≡ 0
list-as_outputs = refl

list-with_outputs : iterations (list_of (null ∷ null ∷ [])) (object_of []) ≡ 0
list-with_outputs = refl

-- nor is one that is handed on as it is, or stands beside a value of another sort
list-handed_on : iterations (list_of (null ∷ null ∷ [])) (list_of (null ∷ null ∷ [])) ≡ 0
list-handed_on = refl

list-with_number : iterations (list_of (null ∷ null ∷ [])) (number_of 2) ≡ 0
list-with_number = refl

list-with_boolean : iterations (list_of (null ∷ null ∷ [])) (boolean false) ≡ 0
list-with_boolean = refl

list-with_text : iterations (list_of (null ∷ null ∷ [])) (text []) ≡ 0
list-with_text = refl

list-with_rounds : iterations (list_of (null ∷ null ∷ [])) (rounds_told 5) ≡ 0
list-with_rounds = refl

until-once : iterations null (rounds_told 1) ≡ 1
until-once = refl

until-most : iterations null (rounds_told 5000) ≡ 5000
until-most = refl

until-too_many : iterations null (rounds_told 5001) ≡ 0
until-too_many = refl

until-never : iterations null (rounds_told 0) ≡ 0
until-never = refl

until-below : iterations null (object_of ((codes "iterations", number (negsuc 0)) ∷ [])) ≡ 0
until-below = refl

until-text : iterations null (object_of ((codes "iterations", text (codes "3")) ∷ [])) ≡ 0
until-text = refl

until-other_case : iterations null (object_of ((codes "Iterations", number_of 3) ∷ [])) ≡ 0
until-other_case = refl

until-further_member : iterations null (object_of ((codes "iterations", number_of 3) ∷ (codes "x", null) ∷ [])) ≡ 0
until-further_member = refl

until-with_inputs : iterations (number_of 1) (rounds_told 3) ≡ 0
until-with_inputs = refl

until-handed_on : iterations (rounds_told 3) (rounds_told 3) ≡ 0
until-handed_on = refl

-- other actions that give nothing out
nothing-of_object : iterations (rounds_told 3) null ≡ 0
nothing-of_object = refl

nothing-of_text : iterations (text (codes "abc")) null ≡ 0
nothing-of_text = refl

nothing-of_nothing : iterations null null ≡ 0
nothing-of_nothing = refl

-- ---- costs: 64 for a row, an attempt and an iteration, and the weights of inputs, outputs, error and tracked

-- 64 and 1, 4, 1 and 1
cost-succeeded : row_cost succeeded ≡ 71
cost-succeeded = refl

-- 64 and 1, 1, 12 and 1
cost-failed : row_cost failed ≡ 79
cost-failed = refl

-- 64, three times 64, and 2, 4, 8 and 16
cost-called : row_cost called ≡ 286
cost-called = refl

cost-skipped : row_cost skipped ≡ 68
cost-skipped = refl

-- 64, three times 64, and 4, 1, 1 and 1
cost-foreach : row_cost foreach ≡ 263
cost-foreach = refl

-- 64, five times 64, and 1, 13, 1 and 1
cost-until : row_cost until ≡ 400
cost-until = refl

-- 64, for the trigger 22, the parameters 5, the outputs 4, and the rows; its error and its response cost nothing
cost-finished : cost finished ≡ 599
cost-finished = refl

cost-empty : cost empty ≡ 67
cost-empty = refl
