-- Which file of tests a value means, or why it means none.
use Rattle.std.specs.Prelude.{ℕ, suc, List, [], ◌∷◌, ◌++◌, map, Bool, true, false, Option, Some, None, is_some, Result, Ok, Err}
use Rattle.std.specs.Prelude.{if◌then◌else◌, bytes_eq, codes, slice_get}
use Rattle.std.specs.Option.{option_map}
use Rattle.wf_json.specs.Pointer.{least}
use Rattle.wf_places.specs.Form.{places}
use Rattle.wf_val.specs.Get.{get}
use Rattle.wf_val.specs.ValueTree.{ValueTree}
use Rattle.wf_suite.specs.Members.{given_of, items_or_none, most_in, names_of, number_or_zero, text_or_empty, text_or_none, wanted_of}
use Rattle.wf_suite.specs.SuiteForm.{suite_form}
use Rattle.wf_suite.specs.declared.fault.SuiteFault.{SuiteFault}
use Rattle.wf_suite.specs.declared.part.Part.{Part}
use Rattle.wf_suite.specs.declared.suite.Kind.{Kind}
use Rattle.wf_suite.specs.declared.suite.Suite.{Suite}
use Rattle.wf_suite.specs.declared.suite.Test.{Test}
use Rattle.wf_suite.specs.declared.suite.Wanted.{Wanted}

-- ---- tests by name

-- the place of the first test of a name, where the first of all has this place
abbrev pub place_from : ℕ → List ℕ → List Test → Option ℕ
place_from place name [] = None
place_from place name (test ∷ tests) = if bytes_eq test.name name then Some place else place_from (suc place) name tests

abbrev pub place_of : List ℕ → List Test → Option ℕ
place_of name tests = place_from 0 name tests

abbrev pub wants_records : Wanted → Bool
wants_records (Wanted.Records expected) = true
wants_records wanted = false

-- the test is expected to make a record
abbrev pub makes_record : Test → Bool
makes_record test = wants_records test.wanted

abbrev pub if_makes_record : ℕ → Option Test → Option ℕ
if_makes_record place None = None
if_makes_record place (Some test) = if makes_record test then Some place else None

abbrev pub if_there : Option ℕ → List Test → Option ℕ
if_there None tests = None
if_there (Some place) tests = if_makes_record place (slice_get tests place)

-- the place of the test of a name, where it is expected to make a record
abbrev pub record_of : List ℕ → List Test → Option ℕ
record_of name tests = if_there (place_of name tests) tests

-- ---- a test, behind those before it

abbrev pub run_of : ValueTree → Kind
run_of t =
    Kind.Run (given_of (get (codes "inputs") t)) (text_or_none (get (codes "schedule") t)) (number_or_zero (get (codes "schedules") t))
    (number_or_zero (get (codes "seed") t))

abbrev pub run_or_check : ValueTree → Kind
run_or_check t = if is_some (get (codes "inputs") t) then run_of t else Kind.Check

-- the resubmission of the test at a place, where there is one
abbrev pub again_from : Option ℕ → ValueTree → Result Kind SuiteFault
again_from None again = Err (SuiteFault.NoTest (text_or_empty (get (codes "of") again)))
again_from (Some place) again =
    Ok (Kind.Again place (names_of (get (codes "from") again)) (given_of (get (codes "inputs") again))
    (text_or_none (get (codes "schedule") again)))

abbrev pub kind_by : List Test → ValueTree → Option ValueTree → Result Kind SuiteFault
kind_by done t None = Ok (run_or_check t)
kind_by done t (Some again) = again_from (record_of (text_or_empty (get (codes "of") again)) done) again

abbrev pub kind_of : List Test → ValueTree → Result Kind SuiteFault
kind_of done t = kind_by done t (get (codes "resubmit") t)

abbrev pub test_with : ValueTree → Result Kind SuiteFault → Result Test SuiteFault
test_with t (Err fault) = Err fault
test_with t (Ok kind) = Ok (record {
  name = text_or_empty (get (codes "name") t);
  kind = kind;
  wanted = wanted_of t;
  most = most_in (get (codes "peak") t);
})

-- the test that a value means behind these, or why it means none: its name is theirs, or it resubmits none of them that makes a record
abbrev pub test_of : List Test → ValueTree → Result Test SuiteFault
test_of done t =
    if is_some (place_of (text_or_empty (get (codes "name") t)) done) then Err (SuiteFault.Twice (text_or_empty (get (codes "name") t)))
    else test_with t (kind_of done t)

-- ---- all tests

abbrev pub and_then : Result Test SuiteFault → (Test → Result (List Test) SuiteFault) → Result (List Test) SuiteFault
and_then (Err fault) rest = Err fault
and_then (Ok test) rest = rest test

-- the tests that values mean behind these, or the first fault
abbrev pub tests_after : List Test → List ValueTree → Result (List Test) SuiteFault
tests_after done [] = Ok done
tests_after done (t ∷ ts) = and_then (test_of done t) (λ test. tests_after (done ++ test ∷ []) ts)

abbrev pub suite_with : ValueTree → Result (List Test) SuiteFault → Result Suite SuiteFault
suite_with t (Err fault) = Err fault
suite_with t (Ok tests) = Ok (record { definition = text_or_empty (get (codes "definition") t); tests = tests })

abbrev pub of_form : ValueTree → Option (List ℕ) → Result Suite SuiteFault
of_form t (Some pointer) = Err (SuiteFault.Form pointer)
of_form t None = suite_with t (tests_after [] (items_or_none (get (codes "tests") t)))

-- all, in the order of the faults
abbrev pub suite_of : ValueTree → Result Suite SuiteFault
suite_of t = of_form t (least (places suite_form Part.Suite t))
