-- The files that tests name, and that each of them was read.
use Rattle.std.specs.Prelude.{◌≡◌, ℕ, List, Option, None, Some, Ok, IfSome}
use Rattle.std.specs.List.{AllByRecursion}
use Rattle.wf_outside.specs.Outside.{Held}
use Rattle.wf_suite.specs.declared.suite.Given.{Given}
use Rattle.wf_suite.specs.declared.suite.Kind.{Kind}
use Rattle.wf_suite.specs.declared.suite.Suite.{Suite}
use Rattle.wf_suite.specs.declared.suite.Test.{Test}
use Rattle.wf_tests.specs.Loaded.{HasRead}
use Rattle.wf_tests.specs.Names.{beside}
use Rattle.wf_tests.specs.Reading.{suite_in}
use Rattle.wf_tests.specs.Words.{Wish, wish_of}

-- the file of inputs; inputs that stand in the file of tests have none
abbrev pub file_of : Given → Option (List ℕ)
file_of (Given.File name) = Some name
file_of (Given.Itself ms) = None

abbrev pub inputs_file : Kind → Option (List ℕ)
inputs_file Kind.Check = None
inputs_file (Kind.Run inputs schedule further seed) = file_of inputs
inputs_file (Kind.Again of from inputs schedule) = file_of inputs

abbrev pub schedule_file : Kind → Option (List ℕ)
schedule_file Kind.Check = None
schedule_file (Kind.Run inputs schedule further seed) = schedule
schedule_file (Kind.Again of from inputs schedule) = schedule

-- The file of this name was read, beside a file of tests.
abbrev pub IsRead : Held → List ℕ → List ℕ → Type 0
IsRead held file name = (bytes : List ℕ) × HasRead held (beside file name) bytes

-- Each file that a test names was read: the definition, and its inputs and its schedule where they are files.
pub record AreRead (held : Held) (file definition : List ℕ) (test : Test) : Type 0 where
  pub of_definition : IsRead held file definition
  pub of_inputs : IfSome (inputs_file test.kind) (λ name. IsRead held file name)
  pub of_schedule : IfSome (schedule_file test.kind) (λ name. IsRead held file name)

-- A file of tests was read, and each file that one of its tests names.
pub record HasReadTests (held : Held) (file : List ℕ) : Type 0 where
  pub bytes : List ℕ
  pub suite : Suite
  pub read : HasRead held file bytes
  pub tests : suite_in bytes ≡ Ok suite
  pub named : AllByRecursion (λ (test : Test). AreRead held file suite.definition test) suite.tests

-- EACH FILE THAT THE WORDS NAME WAS READ, and each that one of its tests names.
pub record HasReadAll (held : Held) (words : List (List ℕ)) : Type 0 where
  pub wish : Wish
  pub asked : wish_of words ≡ Some wish
  pub read : AllByRecursion (λ (file : List ℕ). HasReadTests held file) wish.files
