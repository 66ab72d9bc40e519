-- That the files of tests were read, with the files that they name; or why no test runs.
use Rattle.std.specs.Prelude.{◌≡◌, ◌⊎◌, ℕ, ◌<◌, List, [], ◌∷◌, ◌++◌, length, None, Some, Ok, Err, IfSome, IsSomeAnd}
use Rattle.wf_outside.specs.Outside.{Held}
use Rattle.wf_tests.specs.Names.{beside}
use Rattle.wf_tests.specs.Reading.{suite_in}
use Rattle.wf_tests.specs.Sources.{source_named}
use Rattle.wf_tests.specs.declared.loaded.Loaded.{Loaded}
use Rattle.wf_tests.specs.declared.sources.Sources.{Sources}
use Rattle.wf_tests.specs.declared.stop.Stop.{Stop}

-- The file of this name was read, and has these bytes: where the files tell, they are what it holds.
abbrev pub HasRead : Held → List ℕ → List ℕ → Type 0
HasRead None name bytes = Unit {0}
HasRead (Some bytes_of) name bytes = bytes_of name ≡ Some bytes

-- Each file among these was read, beside the file of tests.
abbrev pub AreSources : Held → List ℕ → Sources → Type 0
AreSources held file sources =
    (name : List ℕ) → IfSome (source_named sources name) (λ bytes. HasRead held (beside file name) bytes)

-- A file of tests was read, and the files that it names.
pub record IsLoaded (held : Held) (file : List ℕ) (loaded : Loaded) : Type 0 where
  pub bytes : List ℕ
  pub read : HasRead held file bytes
  pub named : loaded.file ≡ file
  pub tests : suite_in bytes ≡ Ok loaded.suite
  pub sources : AreSources held file loaded.sources

-- The file of this name has more bytes than it may: 4 MiB, or 64 MiB where it is one of inputs or of a schedule.
abbrev pub IsLong : Held → List ℕ → Type 0
IsLong None name = Unit {0}
IsLong (Some bytes_of) name = IsSomeAnd (bytes_of name) (λ bytes. 4194304 < length bytes)

-- Files of tests were read, one after the other.
abbrev pub AreLoaded : Held → List (List ℕ) → List Loaded → Type 0
AreLoaded held [] [] = Unit {0}
AreLoaded held (file ∷ files) (loaded ∷ others) = IsLoaded held file loaded × AreLoaded held files others
AreLoaded held files others = ⊥

-- Why no test runs, and what became of the list of names whose reads failed.
abbrev pub Stopped : Held → List (List ℕ) → List (List ℕ) → Stop → Type 0
Stopped held old new (Stop.CannotRead name) = new ≡ old ++ name ∷ []
Stopped held old new (Stop.TooLong name) = (new ≡ old) × IsLong held name
Stopped held old new (Stop.NoTests file words) =
    (new ≡ old) × ((bytes : List ℕ) × HasRead held file bytes × (suite_in bytes ≡ Err words))
Stopped held old new Stop.Memory = (new ≡ old) ⊎ ((name : List ℕ) × (new ≡ old ++ name ∷ []))
