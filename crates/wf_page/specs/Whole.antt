-- What is said where the files tell, and what a sink has taken of it where no file failed and the sink didn't.
use Rattle.std.specs.Prelude.{◌≡◌, ◌⊎◌, ℕ, List, Option, Some}
use Rattle.std.specs.Io.KnownBytes.{Appends}
use Rattle.wf_page.specs.Judged.{Files, SaidTree, judged}
use Rattle.wf_page.specs.Served.{MayGiveAll, out_of_memory}
use Rattle.wf_page.specs.Words.{Asked, asked_of}

-- this is said of the files that the words ask for
pub record Judges (bytes_of : List ℕ → Option (List ℕ)) (words : List (List ℕ)) (said : SaidTree) : Type 0 where
  pub asked : Asked
  pub files : Files
  pub asks : asked_of words ≡ Some asked
  pub gives : MayGiveAll (Some bytes_of) asked files
  pub says : judged files ≡ said

-- its status is answered and all of its text written, or memory ran out
abbrev pub IsSaid : SaidTree → Option (List ℕ) → Option (List ℕ) → ℕ → Type 0
IsSaid said before after result =
    ((result ≡ said.status) × Appends before after said.text) ⊎ ((result ≡ 5) × Appends before after out_of_memory)
