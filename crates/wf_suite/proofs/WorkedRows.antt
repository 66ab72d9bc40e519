-- Files of tests at worked values: what each kind of test means, which place is named where one isn't of the form, and which name where two
-- tests have one or a resubmission is of no test before it.
use Rattle.std.proofs.Common.{◌≡◌, ℕ, List, [], ◌∷◌, Some, None, Ok, Err, pos, negsuc, refl}
use Rattle.std.specs.Prelude.{codes, ⊤}
use Rattle.std.specs.Fmt.{digits}
use Rattle.std.specs.Str.{chars, is_utf8}
use Rattle.wf_val.specs.ValueTree.{ValueTree, null, boolean, number, text, list, object, trees, members, Member}
use Rattle.wf_suite.specs.Suite.{suite_of}
use Rattle.wf_suite.specs.declared.fault.SuiteFault.{SuiteFault}
use Rattle.wf_suite.specs.declared.suite.Given.{Given}
use Rattle.wf_suite.specs.declared.suite.Kind.{Kind}
use Rattle.wf_suite.specs.declared.suite.Suite.{Suite}
use Rattle.wf_suite.specs.declared.suite.Test.{Test}
use Rattle.wf_suite.specs.declared.suite.Wanted.{Wanted}

-- what a row unfolds to be computed
unfoldable computed : ⊤
unfolding chars is_utf8 digits
computed = tt

abbrev of : List Member → ValueTree
of ms = object (members ms)

abbrev items : List ValueTree → ValueTree
items ts = list (trees ts)

abbrev n : ℕ → ValueTree
n k = number (pos k)

abbrev t : List ℕ → ValueTree
t s = text s

-- members are written in the order of their names
abbrev suite : List ValueTree → ValueTree
suite tests = of ((codes "definition", t (codes "d")) ∷ (codes "tests", items tests) ∷ [])

abbrev named : List ℕ → (List ℕ × ValueTree)
named name = (codes "name", t name)

abbrev Means : List ValueTree → List Test → Type 0
Means tests is = suite_of (suite tests) ≡ Ok (record { definition = codes "d"; tests = is })

abbrev IsWrongAt : List ValueTree → List ℕ → Type 0
IsWrongAt tests pointer = suite_of (suite tests) ≡ Err (SuiteFault.Form pointer)

-- ---- each kind of test

abbrev check : ValueTree
check = of ((codes "accepts", n 7) ∷ named (codes "c") ∷ [])

abbrev check_means : Test
check_means = record { name = codes "c"; kind = Kind.Check; wanted = Wanted.Accepts 7; most = None }

abbrev run : ValueTree
run = of ((codes "expect", of []) ∷ (codes "inputs", t (codes "i")) ∷ named (codes "r") ∷ [])

abbrev run_means : Test
run_means = record {
  name = codes "r";
  kind = Kind.Run (Given.File (codes "i")) None 0 0;
  wanted = Wanted.Records (of [] ∷ []);
  most = None;
}

-- a resubmission of the test of a name
abbrev again : List ℕ → ValueTree
again name =
    of ((codes "expect", items []) ∷ named (codes "a") ∷ (
      codes "resubmit",
      of ((codes "from", items (t (codes "P") ∷ []))
          ∷ (codes "inputs", of ((codes "run", n 1) ∷ [])) ∷ (codes "of", t name) ∷ []),
    ) ∷ [])

means-no_tests : Means [] []
unfolding computed
means-no_tests = refl

means-check : Means (check ∷ []) (check_means ∷ [])
unfolding computed
means-check = refl

means-run : Means (run ∷ []) (run_means ∷ [])
unfolding computed
means-run = refl

means-again : Means (check ∷ run ∷ again (codes "r") ∷ []) (check_means ∷ run_means ∷ record {
  name = codes "a";
  kind = Kind.Again 1 (codes "P" ∷ []) (Given.Itself ((codes "run", n 1) ∷ [])) None;
  wanted = Wanted.Records [];
  most = None;
} ∷ [])
unfolding computed
means-again = refl

-- that the action Pay was skipped
abbrev skipped : ValueTree
skipped = of ((codes "actions", of ((codes "Pay", of ((codes "status", t (codes "Skipped")) ∷ [])) ∷ [])) ∷ [])

means-all : Means (of ((codes "expect", skipped) ∷ (codes "inputs", t (codes "i")) ∷ named (codes "r")
    ∷ (codes "peak", of ((codes "most", n 4) ∷ [])) ∷ (codes "schedule", t (codes "s"))
    ∷ (codes "schedules", n 20) ∷ (codes "seed", n 5) ∷ []) ∷ []) (record {
      name = codes "r";
      kind = Kind.Run (Given.File (codes "i")) (Some (codes "s")) 20 5;
      wanted = Wanted.Records (skipped ∷ []);
      most = Some 4;
    } ∷ [])
unfolding computed
means-all = refl

abbrev refusal : List ℕ
refusal = codes "inputs Form \"/run\""

means-refused : Means (of ((codes "inputs", t (codes "i")) ∷ named (codes "r") ∷ (codes "refused", t refusal) ∷ []) ∷ []) (record {
  name = codes "r";
  kind = Kind.Run (Given.File (codes "i")) None 0 0;
  wanted = Wanted.Refused refusal;
  most = None;
} ∷ [])
unfolding computed
means-refused = refl

-- ---- names

twice : suite_of (suite (check ∷ run ∷ check ∷ [])) ≡ Err (SuiteFault.Twice (codes "c"))
unfolding computed
twice = refl

-- of no test, of one behind it, of itself, and of one that is expected to make no record
no_test-unknown : suite_of (suite (run ∷ again (codes "x") ∷ [])) ≡ Err (SuiteFault.NoTest (codes "x"))
unfolding computed
no_test-unknown = refl

no_test-behind : suite_of (suite (again (codes "r") ∷ run ∷ [])) ≡ Err (SuiteFault.NoTest (codes "r"))
unfolding computed
no_test-behind = refl

no_test-itself : suite_of (suite (again (codes "a") ∷ [])) ≡ Err (SuiteFault.NoTest (codes "a"))
unfolding computed
no_test-itself = refl

no_test-check : suite_of (suite (check ∷ again (codes "c") ∷ [])) ≡ Err (SuiteFault.NoTest (codes "c"))
unfolding computed
no_test-check = refl

-- ---- places

wrong-whole : suite_of (items []) ≡ Err (SuiteFault.Form [])
unfolding computed
wrong-whole = refl

wrong-no_definition : suite_of (of ((codes "tests", items []) ∷ [])) ≡ Err (SuiteFault.Form (codes "/definition"))
unfolding computed
wrong-no_definition = refl

wrong-further : suite_of (of ((codes "definition", t (codes "d")) ∷ (codes "other", null) ∷ (codes "tests", items []) ∷ []))
    ≡ Err (SuiteFault.Form (codes "/other"))
unfolding computed
wrong-further = refl

wrong-no_name : IsWrongAt (of ((codes "accepts", n 7) ∷ []) ∷ []) (codes "/tests/0/name")
unfolding computed
wrong-no_name = refl

wrong-nothing : IsWrongAt (check ∷ of (named (codes "x") ∷ []) ∷ []) (codes "/tests/1")
unfolding computed
wrong-nothing = refl

wrong-member : IsWrongAt (of ((codes "accepts", n 7) ∷ (codes "input", null) ∷ named (codes "c") ∷ []) ∷ []) (codes "/tests/0/input")
unfolding computed
wrong-member = refl

wrong-expected : IsWrongAt (of ((codes "expect", of ((codes "state", null) ∷ []))
    ∷ (codes "inputs", t (codes "i")) ∷ named (codes "r") ∷ []) ∷ []) (codes "/tests/0/expect/state")
unfolding computed
wrong-expected = refl

wrong-row : IsWrongAt (of ((codes "expect", of ((codes "actions", of ((codes "A", of ((codes "stat", null) ∷ [])) ∷ [])) ∷ []))
    ∷ (codes "inputs", t (codes "i")) ∷ named (codes "r") ∷ []) ∷ []) (codes "/tests/0/expect/actions/A/stat")
unfolding computed
wrong-row = refl

wrong-both : IsWrongAt (of ((codes "expect", of []) ∷ (codes "inputs", t (codes "i")) ∷ named (codes "r")
    ∷ (codes "refused", t (codes "x")) ∷ []) ∷ []) (codes "/tests/0/refused")
unfolding computed
wrong-both = refl

wrong-accepts_of_run : IsWrongAt (of ((codes "accepts", n 7) ∷ (codes "inputs", t (codes "i")) ∷ named (codes "r") ∷ []) ∷ [])
    (codes "/tests/0/accepts")
unfolding computed
wrong-accepts_of_run = refl

wrong-expect_of_check : IsWrongAt (of ((codes "expect", of []) ∷ named (codes "r") ∷ []) ∷ []) (codes "/tests/0/expect")
unfolding computed
wrong-expect_of_check = refl

-- a run with this member more
abbrev run_with : List ℕ → ValueTree → List ValueTree
run_with name v = of ((codes "expect", of []) ∷ (codes "inputs", t (codes "i")) ∷ named (codes "r") ∷ (name, v) ∷ []) ∷ []

wrong-no_schedules : IsWrongAt (run_with (codes "schedules") (n 0)) (codes "/tests/0/schedules")
unfolding computed
wrong-no_schedules = refl

wrong-schedules : IsWrongAt (run_with (codes "schedules") (n 101)) (codes "/tests/0/schedules")
unfolding computed
wrong-schedules = refl

right-schedules : suite_of (suite (run_with (codes "schedules") (n 100))) ≡ Ok (record {
  definition = codes "d";
  tests = record {
    name = codes "r";
    kind = Kind.Run (Given.File (codes "i")) None 100 0;
    wanted = Wanted.Records (of [] ∷ []);
    most = None;
  } ∷ [];
})
unfolding computed
right-schedules = refl

wrong-lone_seed : IsWrongAt (run_with (codes "seed") (n 1)) (codes "/tests/0/seed")
unfolding computed
wrong-lone_seed = refl

wrong-peak : IsWrongAt (run_with (codes "peak") (of [])) (codes "/tests/0/peak/most")
unfolding computed
wrong-peak = refl

wrong-less_peak : IsWrongAt (run_with (codes "peak") (of ((codes "most", number (negsuc 0)) ∷ []))) (codes "/tests/0/peak/most")
unfolding computed
wrong-less_peak = refl

wrong-from_nothing : IsWrongAt (run ∷ of ((codes "expect", of []) ∷ named (codes "a") ∷ (
  codes "resubmit",
  of ((codes "from", items [])
      ∷ (codes "inputs", t (codes "i")) ∷ (codes "of", t (codes "r")) ∷ []),
) ∷ []) ∷ []) (codes "/tests/1/resubmit/from")
unfolding computed
wrong-from_nothing = refl

wrong-run_and_again : IsWrongAt (of ((codes "expect", of []) ∷ (codes "inputs", t (codes "i")) ∷ named (codes "a") ∷ (
  codes "resubmit",
  of
      ((codes "from", items (t (codes "P") ∷ [])) ∷ (codes "inputs", t (codes "i")) ∷ (codes "of", t (codes "r")) ∷ []),
) ∷ []) ∷ [])
    (codes "/tests/0/inputs")
unfolding computed
wrong-run_and_again = refl

-- of a fault of the form and one of a name the form is told
wrong-before_twice : IsWrongAt (check ∷ check ∷ of (named (codes "x") ∷ []) ∷ []) (codes "/tests/2")
unfolding computed
wrong-before_twice = refl
