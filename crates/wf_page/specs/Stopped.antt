-- Why nothing is said of files, as contracts see it.
use Rattle.std.specs.Prelude.{◌≡◌, ◌⊎◌, ℕ, List, [], ◌∷◌, ◌++◌, Option, None, Some}
use Rattle.wf_page.specs.Served.{IsAsked}
use Rattle.wf_page.specs.Words.{Asked}
use Rattle.wf_page.specs.declared.loading.Stop as code

-- a read stopped: of this name, which was then put behind the failed ones; or memory ran out, and it may have been put there
abbrev pub StopsAt : List (List ℕ) → List (List ℕ) → List ℕ → code.Stop → Type 0
StopsAt old new name (code.TheVariants.CannotRead n) = (n ≡ name) × (new ≡ old ++ name ∷ [])
StopsAt old new name code.TheVariants.Memory = (new ≡ old) ⊎ (new ≡ old ++ name ∷ [])

abbrev pub StopsAtEarlier : List (List ℕ) → List (List ℕ) → Option (List ℕ) → code.Stop → Type 0
StopsAtEarlier old new None stop = ⊥
StopsAtEarlier old new (Some name) stop = StopsAt old new name stop

-- one of the names that are asked for
abbrev pub StopsAmong : List (List ℕ) → List (List ℕ) → Asked → code.Stop → Type 0
StopsAmong old new asked (code.TheVariants.CannotRead n) = IsAsked asked n × (new ≡ old ++ n ∷ [])
StopsAmong old new asked code.TheVariants.Memory = (new ≡ old) ⊎ ((name : List ℕ) × IsAsked asked name × (new ≡ old ++ name ∷ []))
