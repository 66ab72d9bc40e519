-- Records read back, at worked values: each member absent, of a wrong kind and at its bounds, which place is named, and in which order the
-- faults come.
use Rattle.std.proofs.Common.{◌≡◌, ◌^◌, ◌-◌, ℕ, zero, suc, [], ◌∷◌, ◌++◌, List, true, false, map, Result, Ok}
use Rattle.std.proofs.Common.{Err, pos}
use Rattle.std.proofs.Common.{negsuc, refl}
use Rattle.std.specs.Fmt.{digits}
use Rattle.std.specs.Prelude.{codes, ⊤}
use Rattle.std.specs.Str.{chars}
use Rattle.hex.proofs.OnLiterals.{hex_on_literals}
use Rattle.wf_val.specs.Get.{put, without}
use Rattle.wf_val.specs.ValueTree.{ValueTree, null, number, text}
use Rattle.wf_record.specs.Record.{RecordTree, RowTree, record_value, row_value}
use Rattle.wf_record.specs.Worked.{at_rounds, called, empty, failed, list_of, number_of, object_of, skipped, times}
use Rattle.wf_record.specs.declared.attempt.Try.{Try}
use Rattle.wf_record_form.specs.OfVal.{of_val, record_places}
use Rattle.wf_record_form.specs.ReadBack.{first_record_value, first_row_value}
use Rattle.wf_record_form.specs.RecordForm.{is_digest, needed}
use Rattle.wf_record_form.specs.declared.fault.RecordFault.{RecordFault}
use Rattle.wf_record_form.specs.declared.part.Part.{Part}
use Rattle.wf_record_form.specs.declared.part.Version.{Version}

-- what a row unfolds to be computed
unfoldable on_literals : ⊤
unfolding hex_on_literals digits chars
on_literals = tt

-- ---- whole records

-- the run of no actions with these rows
abbrev with_rows : List RowTree → RecordTree
with_rows rows = record {
  run = empty.run;
  digest = empty.digest;
  trigger = object_of ((codes "name", null) ∷ (codes "outputs", null) ∷ []);
  parameters = empty.parameters;
  status = empty.status;
  error = empty.error;
  response = empty.response;
  outputs = empty.outputs;
  rows = rows;
}

read-rows : of_val (record_value (with_rows (failed ∷ called ∷ skipped ∷ [])))
    ≡ Ok (with_rows (failed ∷ called ∷ skipped ∷ []))
unfolding on_literals
read-rows = refl

-- form 1 tells how many attempts there were
read-form_one : of_val (first_record_value (with_rows (called ∷ []))) ≡ Ok (with_rows (record {
  address = called.address;
  row = record {
    status = called.row.status;
    code = called.row.code;
    inputs = called.row.inputs;
    outputs = called.row.outputs;
    error = called.row.error;
    tracked = called.row.tracked;
    attempts = Try.Unknown ∷ Try.Unknown ∷ Try.Unknown ∷ [];
  };
} ∷ []))
unfolding on_literals
read-form_one = refl

-- ---- forms

abbrev refused_at : List ℕ → Result RecordTree RecordFault
refused_at pointer = Err (RecordFault.Form pointer)

-- another form, whatever else is amiss
version-next : of_val (object_of ((codes "form", number_of 3) ∷ [])) ≡ Err (RecordFault.Version (pos 3))
version-next = refl

version-none : of_val (object_of ((codes "form", number_of 0) ∷ [])) ≡ Err (RecordFault.Version (pos 0))
version-none = refl

version-below : of_val (object_of ((codes "form", number (negsuc 1)) ∷ [])) ≡ Err (RecordFault.Version (negsuc 1))
version-below = refl

-- of nothing the value itself is amiss; of an empty object its least member
read-null : of_val null ≡ refused_at []
read-null = refl

read-list : of_val (list_of []) ≡ refused_at []
read-list = refl

read-empty_object : of_val (object_of []) ≡ refused_at (codes "/definition")
read-empty_object = refl

-- ---- members of a record

-- a record of the form with one row, with one member more or another one, or without one
abbrev whole : ValueTree
whole = record_value (with_rows (called ∷ []))

abbrev with : List ℕ → ValueTree → ValueTree
with name v = put name v whole

abbrev lacking : List ℕ → ValueTree
lacking name = without name whole

-- the pointer to a member, and to a member of the first row
abbrev below : List ℕ → List ℕ
below name = codes "/" ++ name

abbrev below_row : List ℕ → List ℕ
below_row name = codes "/rows/0/" ++ name

-- so many letters
abbrev letters : ℕ → List ℕ
letters n = times n 97

-- a value in so many lists
abbrev nested : ℕ → ValueTree
nested zero = null
nested (suc k) = list_of (nested k ∷ [])

whole-is_right : record_places whole ≡ []
unfolding on_literals
whole-is_right = refl

lacking-each : map (λ name. record_places (lacking name)) (needed (Part.Record Version.Two))
    ≡ map (λ name. below name ∷ []) (needed (Part.Record Version.Two))
unfolding on_literals
lacking-each = refl

needed-of_a_record : needed (Part.Record Version.One)
    ≡ codes "definition" ∷ codes "error" ∷ codes "form" ∷ codes "outputs" ∷ codes "parameters" ∷ codes "response" ∷ codes "rows"
    ∷ codes "run" ∷ codes "status" ∷ codes "trigger" ∷ []
needed-of_a_record = refl

further-member : record_places (with (codes "steps") null) ≡ codes "/steps" ∷ []
unfolding on_literals
further-member = refl

-- of two faults the one at the least pointer
least-of_two : of_val (put (codes "status") null (with (codes "run") null)) ≡ refused_at (codes "/run")
unfolding on_literals
least-of_two = refl

form-text : of_val (with (codes "form") (text (codes "2"))) ≡ refused_at (codes "/form")
unfolding on_literals
form-text = refl

digest-kinds : map is_digest
    (text (times 64 48) ∷ text (times 64 57) ∷ text (times 64 97) ∷ text (times 64 102) ∷ text (times 63 48) ∷ text (times 65 48) ∷ [])
    ≡ true ∷ true ∷ true ∷ true ∷ false ∷ false ∷ []
digest-kinds = refl

-- the characters beside the digits: those before 0 and behind 9, before a and behind f, and A
digest-other_digits : map is_digest
    (text (times 64 47) ∷ text (times 64 58) ∷ text (times 64 96) ∷ text (times 64 103) ∷ text (times 64 65) ∷ null ∷ [])
    ≡ false ∷ false ∷ false ∷ false ∷ false ∷ false ∷ []
digest-other_digits = refl

digest-place : record_places (with (codes "definition") (text (times 64 65))) ≡ codes "/definition" ∷ []
unfolding on_literals
digest-place = refl

-- the error of a run may be anything
error-deep : record_places (with (codes "error") (nested 65)) ≡ []
unfolding on_literals
error-deep = refl

-- an object is measured member by member
outputs-deep : record_places (with (codes "outputs") (object_of ((codes "o", nested 64) ∷ []))) ≡ []
unfolding on_literals
outputs-deep = refl

outputs-deeper : record_places (with (codes "outputs") (object_of ((codes "o", nested 65) ∷ []))) ≡ codes "/outputs/o" ∷ []
unfolding on_literals
outputs-deeper = refl

outputs-list : record_places (with (codes "outputs") (nested 65)) ≡ codes "/outputs" ∷ []
unfolding on_literals
outputs-list = refl

response-deep : record_places (with (codes "response") (object_of ((codes "body", nested 64) ∷ []))) ≡ []
unfolding on_literals
response-deep = refl

response-deeper : record_places (with (codes "response") (object_of ((codes "body", nested 65) ∷ []))) ≡ codes "/response/body" ∷ []
unfolding on_literals
response-deeper = refl

parameters-list : record_places (with (codes "parameters") (list_of [])) ≡ codes "/parameters" ∷ []
unfolding on_literals
parameters-list = refl

parameters-deep : record_places (with (codes "parameters") (object_of ((codes "p", nested 64) ∷ []))) ≡ []
unfolding on_literals
parameters-deep = refl

parameters-deeper : record_places (with (codes "parameters") (object_of ((codes "p", nested 65) ∷ []))) ≡ codes "/parameters/p" ∷ []
unfolding on_literals
parameters-deeper = refl

rows-object : record_places (with (codes "rows") (object_of [])) ≡ codes "/rows" ∷ []
unfolding on_literals
rows-object = refl

run-longest : record_places (with (codes "run") (text (letters 80))) ≡ []
unfolding on_literals
run-longest = refl

run-longer : record_places (with (codes "run") (text (letters 81))) ≡ codes "/run" ∷ []
unfolding on_literals
run-longer = refl

run-empty : record_places (with (codes "run") (text [])) ≡ codes "/run" ∷ []
unfolding on_literals
run-empty = refl

run-line_feed : record_places (with (codes "run") (text (codes "r\n1"))) ≡ codes "/run" ∷ []
unfolding on_literals
run-line_feed = refl

run_status-each : map (λ word. record_places (with (codes "status") (text word)))
    (codes "Succeeded" ∷ codes "Failed" ∷ codes "Cancelled" ∷ codes "Skipped" ∷ codes "TimedOut" ∷ codes "failed" ∷ [])
    ≡ [] ∷ [] ∷ [] ∷ (codes "/status" ∷ []) ∷ (codes "/status" ∷ []) ∷ (codes "/status" ∷ []) ∷ []
unfolding on_literals
run_status-each = refl

abbrev trigger_of : ValueTree → ValueTree → ValueTree
trigger_of name outputs = object_of ((codes "name", name) ∷ (codes "outputs", outputs) ∷ [])

trigger-null : of_val (with (codes "trigger") null) ≡ refused_at (codes "/trigger")
unfolding on_literals
trigger-null = refl

trigger-empty : record_places (with (codes "trigger") (object_of [])) ≡ codes "/trigger/name" ∷ codes "/trigger/outputs" ∷ []
unfolding on_literals
trigger-empty = refl

trigger-named : record_places (with (codes "trigger") (trigger_of (text []) (object_of ((codes "body", nested 64) ∷ [])))) ≡ []
unfolding on_literals
trigger-named = refl

trigger-number : record_places (with (codes "trigger") (trigger_of (number_of 1) (object_of ((codes "body", nested 65) ∷ []))))
    ≡ codes "/trigger/name" ∷ codes "/trigger/outputs/body" ∷ []
unfolding on_literals
trigger-number = refl

trigger-further : record_places (with (codes "trigger") (put (codes "inputs") null (trigger_of null null))) ≡ codes "/trigger/inputs" ∷ []
unfolding on_literals
trigger-further = refl

-- ---- members of a row

abbrev with_row : ValueTree → ValueTree
with_row row = with (codes "rows") (list_of (row ∷ []))

abbrev row_with : List ℕ → ValueTree → ValueTree
row_with name v = with_row (put name v (row_value called))

row-null : of_val (with_row null) ≡ refused_at (codes "/rows/0")
unfolding on_literals
row-null = refl

row-lacking : map (λ name. record_places (with_row (without name (row_value called)))) (needed (Part.Row Version.Two))
    ≡ map (λ name. below_row name ∷ []) (needed (Part.Row Version.Two))
unfolding on_literals
row-lacking = refl

needed-of_a_row : needed (Part.Row Version.One)
    ≡ codes "at" ∷ codes "attempts" ∷ codes "code" ∷ codes "error" ∷ codes "inputs" ∷ codes "name" ∷ codes "outputs" ∷ codes "status"
    ∷ codes "tracked" ∷ []
needed-of_a_row = refl

row-further : record_places (row_with (codes "body") null) ≡ codes "/rows/0/body" ∷ []
unfolding on_literals
row-further = refl

at-null : record_places (row_with (codes "at") null) ≡ codes "/rows/0/at" ∷ []
unfolding on_literals
at-null = refl

at-kinds : record_places (row_with (codes "at")
    (list_of (number_of 0 ∷ number (negsuc 0) ∷ number_of (2 ^ 63 - 1) ∷ text (codes "1") ∷ [])))
    ≡ codes "/rows/0/at/1" ∷ codes "/rows/0/at/3" ∷ []
unfolding on_literals
at-kinds = refl

-- so many attempts
abbrev attempts : ℕ → List ValueTree
attempts zero = []
attempts (suc k) = number_of 200 ∷ attempts k

attempts-most : record_places (row_with (codes "attempts") (list_of (attempts 91))) ≡ []
unfolding on_literals
attempts-most = refl

attempts-more : record_places (row_with (codes "attempts") (list_of (attempts 92))) ≡ codes "/rows/0/attempts" ∷ []
unfolding on_literals
attempts-more = refl

attempts-number : record_places (row_with (codes "attempts") (number_of 3)) ≡ codes "/rows/0/attempts" ∷ []
unfolding on_literals
attempts-number = refl

attempt-codes : record_places (row_with (codes "attempts")
    (list_of (number_of 100 ∷ number_of 99 ∷ number_of 599 ∷ number_of 600 ∷ number (negsuc 200) ∷ null ∷ [])))
    ≡ codes "/rows/0/attempts/1" ∷ codes "/rows/0/attempts/3" ∷ codes "/rows/0/attempts/4" ∷ codes "/rows/0/attempts/5" ∷ []
unfolding on_literals
attempt-codes = refl

attempt-words : record_places (row_with (codes "attempts") (list_of (text (codes "noConnection") ∷ text (codes "timedOut")
    ∷ text (codes "noAnswer") ∷ text (codes "unknown") ∷ text (codes "Unknown") ∷ text [] ∷ [])))
    ≡ codes "/rows/0/attempts/4" ∷ codes "/rows/0/attempts/5" ∷ []
unfolding on_literals
attempt-words = refl

code-null : record_places (row_with (codes "code") null) ≡ codes "/rows/0/code" ∷ []
unfolding on_literals
code-null = refl

row_error-kinds : map (λ v. record_places (row_with (codes "error") v)) (null ∷ text [] ∷ number_of 0 ∷ object_of [] ∷ [])
    ≡ [] ∷ [] ∷ (codes "/rows/0/error" ∷ []) ∷ (codes "/rows/0/error" ∷ []) ∷ []
unfolding on_literals
row_error-kinds = refl

-- inputs are measured as a whole
inputs-deep : record_places (row_with (codes "inputs") (object_of ((codes "a", nested 63) ∷ []))) ≡ []
unfolding on_literals
inputs-deep = refl

inputs-deeper : record_places (row_with (codes "inputs") (object_of ((codes "a", nested 64) ∷ []))) ≡ codes "/rows/0/inputs" ∷ []
unfolding on_literals
inputs-deeper = refl

row_name-kinds : map (λ v. record_places (row_with (codes "name") v))
    (text (letters 80) ∷ text (letters 81) ∷ text [] ∷ text (127 ∷ []) ∷ null ∷ [])
    ≡ [] ∷ (codes "/rows/0/name" ∷ []) ∷ (codes "/rows/0/name" ∷ []) ∷ (codes "/rows/0/name" ∷ []) ∷ (codes "/rows/0/name" ∷ []) ∷ []
unfolding on_literals
row_name-kinds = refl

row_outputs-deep : record_places (row_with (codes "outputs") (object_of ((codes "body", nested 64) ∷ []))) ≡ []
unfolding on_literals
row_outputs-deep = refl

row_outputs-deeper : record_places (row_with (codes "outputs") (object_of ((codes "body", nested 65) ∷ [])))
    ≡ codes "/rows/0/outputs/body" ∷ []
unfolding on_literals
row_outputs-deeper = refl

row_status-each : map (λ word. record_places (row_with (codes "status") (text word)))
    (codes "Succeeded" ∷ codes "Failed" ∷ codes "Skipped" ∷ codes "TimedOut" ∷ codes "Cancelled" ∷ codes "skipped" ∷ [])
    ≡ [] ∷ [] ∷ [] ∷ [] ∷ [] ∷ (codes "/rows/0/status" ∷ []) ∷ []
unfolding on_literals
row_status-each = refl

row_status-null : record_places (row_with (codes "status") null) ≡ codes "/rows/0/status" ∷ []
unfolding on_literals
row_status-null = refl

tracked-kinds : map (λ v. record_places (row_with (codes "tracked") v)) (null ∷ object_of [] ∷ list_of [] ∷ [])
    ≡ [] ∷ [] ∷ (codes "/rows/0/tracked" ∷ []) ∷ []
unfolding on_literals
tracked-kinds = refl

tracked-deeper : record_places (row_with (codes "tracked") (object_of ((codes "t", nested 64) ∷ (codes "u", nested 65) ∷ [])))
    ≡ codes "/rows/0/tracked/u" ∷ []
unfolding on_literals
tracked-deeper = refl

-- ---- rows that aren't above the one before them

-- an action at the iterations of these numbers
abbrev row_at : List ℕ → List ℕ → RowTree
row_at name rounds = record { address = at_rounds name rounds; row = skipped.row }

-- what is amiss among rows
abbrev amiss_among : List RowTree → List (List ℕ)
amiss_among rows = record_places (record_value (with_rows rows))

neighbours-twice : amiss_among (failed ∷ failed ∷ []) ≡ codes "/rows/1" ∷ []
unfolding on_literals
neighbours-twice = refl

neighbours-unordered : amiss_among (failed ∷ skipped ∷ called ∷ []) ≡ codes "/rows/2" ∷ []
unfolding on_literals
neighbours-unordered = refl

-- each is compared with the one before it, not with the greatest so far
neighbours-one_by_one : amiss_among (skipped ∷ failed ∷ called ∷ []) ≡ codes "/rows/1" ∷ []
unfolding on_literals
neighbours-one_by_one = refl

-- by names first, then by the numbers of the iterations from outside inwards, fewer before more
neighbours-rounds : amiss_among (row_at (codes "A") [] ∷ row_at (codes "A") (0 ∷ []) ∷ row_at (codes "A") (0 ∷ 7 ∷ [])
    ∷ row_at (codes "A") (2 ∷ []) ∷ row_at (codes "A") (10 ∷ []) ∷ row_at (codes "B") (1 ∷ []) ∷ []) ≡ []
unfolding on_literals
neighbours-rounds = refl

neighbours-rounds_back : amiss_among (row_at (codes "A") (10 ∷ []) ∷ row_at (codes "A") (2 ∷ []) ∷ row_at (codes "A") (2 ∷ []) ∷ [])
    ≡ codes "/rows/1" ∷ codes "/rows/2" ∷ []
unfolding on_literals
neighbours-rounds_back = refl

-- a row that names no address is compared with none
neighbours-unnamed : record_places (with (codes "rows")
    (list_of (row_value skipped ∷ put (codes "name") null (row_value failed) ∷ row_value failed ∷ []))) ≡ codes "/rows/1/name" ∷ []
unfolding on_literals
neighbours-unnamed = refl

-- the least pointer of those within a row and those beside it
neighbours-least : of_val (with (codes "rows") (list_of (put (codes "code") null (row_value skipped) ∷ row_value failed ∷ [])))
    ≡ refused_at (codes "/rows/0/code")
unfolding on_literals
neighbours-least = refl

-- ---- form 1

abbrev first_with : List ℕ → ValueTree → ValueTree
first_with name v =
    put (codes "rows") (list_of (put name v (first_row_value called) ∷ [])) (first_record_value (with_rows []))

first-most : record_places (first_with (codes "attempts") (number_of 91)) ≡ []
unfolding on_literals
first-most = refl

first-kinds : map (λ v. record_places (first_with (codes "attempts") v)) (number_of 92 ∷ number (negsuc 0) ∷ list_of [] ∷ [])
    ≡ (codes "/rows/0/attempts" ∷ []) ∷ (codes "/rows/0/attempts" ∷ []) ∷ (codes "/rows/0/attempts" ∷ []) ∷ []
unfolding on_literals
first-kinds = refl

first-twice : of_val (first_record_value (with_rows (failed ∷ failed ∷ []))) ≡ refused_at (codes "/rows/1")
unfolding on_literals
first-twice = refl

-- all else is as in form 2
first-further : record_places (first_with (codes "body") null) ≡ codes "/rows/0/body" ∷ []
unfolding on_literals
first-further = refl
