-- How a call ends, and what it wrote.
use Rattle.std.specs.Prelude.{◌≡◌, ℕ, List, [], ◌∷◌, ◌++◌, Bool, true, false, ◌&&◌, Option, None, Some, Contains, codes}
use Rattle.std.specs.Prelude.{if◌then◌else◌}
use Rattle.wf_json.specs.Json.{string}
use Rattle.wf_judged.specs.declared.lines.Ended.{Ended}
use Rattle.wf_outside.specs.Outside.{Held}
use Rattle.wf_talk.specs.Written.{Writes}
use Rattle.wf_tap.specs.Junit.{junit_of}
use Rattle.wf_tap.specs.Tap.{tap_of}
use Rattle.wf_tap.specs.declared.report.Failure.{Failure}
use Rattle.wf_tap.specs.declared.report.Outcome.{Outcome}
use Rattle.wf_tap.specs.declared.report.Results.{Results}
use Rattle.wf_tests.specs.Asked.{AnyAsks, TellsOf}
use Rattle.wf_tests.specs.Loaded.{AreLoaded, Stopped}
use Rattle.wf_tests.specs.Runs.{AreRun, Says}
use Rattle.wf_tests.specs.Words.{Wish, wish_of}
use Rattle.wf_tests.specs.declared.loaded.Loaded.{Loaded}
use Rattle.wf_tests.specs.declared.stop.Stop.{Stop}

-- ---- what is written

abbrev pub usage : List ℕ
usage = codes "usage: wftest [--junit] FILE...\n"

abbrev pub stop_line : Stop → List ℕ
stop_line (Stop.CannotRead name) = codes "cannot read " ++ (string name ++ 10 ∷ [])
stop_line (Stop.TooLong name) = codes "too long " ++ (string name ++ 10 ∷ [])
stop_line (Stop.NoTests file words) = codes "tests " ++ (string file ++ (32 ∷ (words ++ 10 ∷ [])))
stop_line Stop.Memory = codes "out of memory\n"

abbrev pub stop_status : Stop → ℕ
stop_status (Stop.CannotRead name) = 3
stop_status (Stop.TooLong name) = 6
stop_status (Stop.NoTests file words) = 6
stop_status Stop.Memory = 5

-- 0 where all tests passed
abbrev pub report_status : Bool → ℕ
report_status pass = if pass then 0 else 1

abbrev pub report_of : Bool → List Results → List ℕ
report_of junit results = if junit then junit_of results else tap_of results

-- ---- whether all tests passed

abbrev pub has_none : List Failure → Bool
has_none [] = true
has_none (f ∷ fs) = false

abbrev pub all_pass : List Outcome → Bool
all_pass [] = true
all_pass (o ∷ os) = has_none o.failures && all_pass os

abbrev pub passed : List Results → Bool
passed [] = true
passed (r ∷ rs) = all_pass r.outcomes && passed rs

-- ---- the whole

-- The tests of each file were run, and this is what they came to.
abbrev pub AreTested : Says → List Loaded → List Results → Type 0
AreTested says [] [] = Unit {0}
AreTested says (l ∷ ls) (r ∷ rs) =
    ((r.file ≡ l.file) × ((ends : List Ended) × AreRun says l.sources l.suite.definition [] l.suite.tests ends r.outcomes))
    × AreTested says ls rs
AreTested says ls rs = ⊥

-- How a call ends: the words are none, no test runs, or all ran and are reported.
pub data End : Type 0 where
  Misused : End
  Stops : Stop → End
  Reports : Bool → List Results → End

abbrev pub status_of : End → ℕ
status_of Misused = 2
status_of (Stops stop) = stop_status stop
status_of (Reports junit results) = report_status (passed results)

abbrev pub text_of : End → List ℕ
text_of Misused = usage
text_of (Stops stop) = stop_line stop
text_of (Reports junit results) = report_of junit results

-- All tests of the files that the words name were run.
pub record HasTested (says : Says) (held : Held) (words : List (List ℕ)) (junit : Bool) (results : List Results) : Type 0 where
  pub files : List (List ℕ)
  pub loaded : List Loaded
  pub asked : wish_of words ≡ Some (record { junit = junit; files = files })
  pub read : AreLoaded held files loaded
  pub tested : AreTested says loaded results

-- All tests of the files that the words name were run, and whether they passed is this.
pub record HasRun (says : Says) (held : Held) (words : List (List ℕ)) (pass : Bool) : Type 0 where
  pub junit : Bool
  pub results : List Results
  pub tested : HasTested says held words junit results
  pub told : passed results ≡ pass

-- They all passed; one of them failed.
abbrev pub HasPassed : Says → Held → List (List ℕ) → Type 0
HasPassed says held words = HasRun says held words true

abbrev pub HasFailed : Says → Held → List (List ℕ) → Type 0
HasFailed says held words = HasRun says held words false

-- This is the report of all tests of the files that are wished, and says whether they passed.
pub record HasReport (says : Says) (held : Held) (wish : Wish) (results : List Results) (text : List ℕ) (pass : Bool) : Type 0 where
  pub loaded : List Loaded
  pub read : AreLoaded held wish.files loaded
  pub tested : AreTested says loaded results
  pub reported : text ≡ report_of wish.junit results
  pub told : pass ≡ passed results

-- No test of the files that the words name runs, for this cause: where it tells of a file, that is asked for, and one that is no file of
-- tests is named by the words.
abbrev pub StopsBy : Held → List (List ℕ) → List (List ℕ) → List (List ℕ) → Stop → Type 0
StopsBy held words old new stop =
    (wish : Wish) × (wish_of words ≡ Some wish) × Stopped held old new stop × TellsOf (AnyAsks held wish.files) (Contains wish.files) stop

-- The words come to this end, and do this to the list of names whose reads failed.
abbrev pub Comes : Says → Held → List (List ℕ) → List (List ℕ) → List (List ℕ) → End → Type 0
Comes says held words old new Misused = (wish_of words ≡ None) × (new ≡ old)
Comes says held words old new (Stops stop) = StopsBy held words old new stop
Comes says held words old new (Reports junit results) = (new ≡ old) × HasTested says held words junit results

-- A CALL: its words came to an end, whose text it wrote.
pub record IsTested (says : Says) (held : Held) (words : List (List ℕ)) (old new : List (List ℕ)) (before after : Option (List ℕ))
    (result : ℕ) : Type 0 where
  pub end' : End
  pub comes : Comes says held words old new end'
  pub writes : Writes before after (status_of end') (text_of end') result
