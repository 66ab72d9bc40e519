-- What the words of the command ask for.
use Rattle.std.specs.Prelude.{ℕ, List, [], ◌∷◌, Bool, true, false, Option, Some, None, if◌then◌else◌, bytes_eq, codes}
use Rattle.wf_tests.specs.declared.words.Asked.{Asked}

pub record Wish : Type 0 where
  -- the report is wanted in the form that is named after JUnit
  pub junit : Bool
  -- the files of tests
  pub files : List (List ℕ)

abbrev pub with_files : List (List ℕ) → Option Wish
with_files [] = None
with_files (file ∷ files) = Some (record { junit = true; files = file ∷ files })

-- the words `[--junit] FILE..`, with one file at least
abbrev pub wish_of : List (List ℕ) → Option Wish
wish_of [] = None
wish_of (first ∷ rest) =
    if bytes_eq first (codes "--junit") then with_files rest else Some (record { junit = false; files = first ∷ rest })

abbrev pub wish_tree : Asked → Wish
wish_tree asked = record { junit = asked.junit; files = asked.files.now }
