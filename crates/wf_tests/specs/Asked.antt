-- Which file a stop tells of: one that the words name, or one that a file of tests names which they name.
use Rattle.std.specs.Prelude.{◌≡◌, ◌⊎◌, ℕ, List, Option, Some, Ok, Contains, IsSomeAnd}
use Rattle.wf_outside.specs.Outside.{Held}
use Rattle.wf_suite.specs.declared.suite.Suite.{Suite}
use Rattle.wf_suite.specs.declared.suite.Test.{Test}
use Rattle.wf_tests.specs.Loaded.{HasRead}
use Rattle.wf_tests.specs.Named.{inputs_file, schedule_file}
use Rattle.wf_tests.specs.Names.{beside}
use Rattle.wf_tests.specs.Reading.{suite_in}
use Rattle.wf_tests.specs.Words.{Wish, wish_of}
use Rattle.wf_tests.specs.declared.stop.Stop.{Stop}

-- A stop tells of such a file, or of none; and one that is no file of tests is one of these.
abbrev pub TellsOf : (List ℕ → Type 0) → (List ℕ → Type 0) → Stop → Type 0
TellsOf Such OfTests (Stop.CannotRead path) = Such path
TellsOf Such OfTests (Stop.TooLong path) = Such path
TellsOf Such OfTests (Stop.NoTests path words) = OfTests path
TellsOf Such OfTests Stop.Memory = Unit {0}

-- The file of this path has this name beside a file of tests.
abbrev pub IsNamed : List ℕ → Option (List ℕ) → List ℕ → Type 0
IsNamed file name path = IsSomeAnd name (λ n. path ≡ beside file n)

-- A test names it.
abbrev pub TestNames : List ℕ → Test → List ℕ → Type 0
TestNames file test path = IsNamed file (inputs_file test.kind) path ⊎ IsNamed file (schedule_file test.kind) path

-- It is the definition of the tests, or one of them names it.
abbrev pub SuiteNames : List ℕ → Suite → List ℕ → Type 0
SuiteNames file suite path =
    (path ≡ beside file suite.definition) ⊎ ((test : Test) × Contains suite.tests test × TestNames file test path)

-- It is a file of tests, or the tests that were read there name it.
abbrev pub FileAsks : Held → List ℕ → List ℕ → Type 0
FileAsks held file path =
    (path ≡ file)
    ⊎ ((bytes : List ℕ) × (suite : Suite) × HasRead held file bytes × (suite_in bytes ≡ Ok suite) × SuiteNames file suite path)

abbrev pub AnyAsks : Held → List (List ℕ) → List ℕ → Type 0
AnyAsks held files path = (file : List ℕ) × Contains files file × FileAsks held file path

-- THE FILE OF THIS PATH IS ASKED FOR: a word names it as a file of tests, or such a file does.
abbrev pub IsAsked : Held → List (List ℕ) → List ℕ → Type 0
IsAsked held words path = (wish : Wish) × (wish_of words ≡ Some wish) × AnyAsks held wish.files path
