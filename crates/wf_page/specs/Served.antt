-- How a call ends, and what it wrote.
use Rattle.std.specs.Prelude.{◌≡◌, ◌⊎◌, ℕ, ◌≤◌, List, [], ◌∷◌, ◌++◌}
use Rattle.std.specs.Prelude.{length, Option, None, Some, IfSome, codes, if◌then◌else◌, nat_le, option_map}
use Rattle.wf_json.specs.Json.{string}
use Rattle.wf_outside.specs.Outside.{Held}
use Rattle.wf_talk.specs.Written.{Writes}
use Rattle.wf_page.specs.Judged.{Files, judged, say}
use Rattle.wf_page.specs.Words.{Asked, asked_of}

-- a file's bytes, or None where there are more than limit
abbrev pub within : ℕ → List ℕ → Option (List ℕ)
within limit bytes = if nat_le (length bytes) limit then Some bytes else None

-- what a read of a name may give: where the files tell, what they hold, else any bytes within the limit, or None
abbrev pub MayGive : Held → ℕ → List ℕ → Option (List ℕ) → Type 0
MayGive None limit name file = IfSome file (λ bytes. length bytes ≤ limit)
MayGive (Some bytes_of) limit name file = option_map (within limit) (bytes_of name) ≡ Some file

-- 4 MiB for a definition, 64 MiB for records
abbrev pub definition_limit : ℕ
definition_limit = 4194304

abbrev pub log_limit : ℕ
log_limit = 67108864

-- what the read of an earlier record may give, where one is named
abbrev pub MayGiveEarlier : Held → Option (List ℕ) → Option (Option (List ℕ)) → Type 0
MayGiveEarlier held None file = file ≡ None
MayGiveEarlier held (Some name) None = ⊥
MayGiveEarlier held (Some name) (Some file) = MayGive held log_limit name file

-- what the reads of all files may give
pub record MayGiveAll (held : Held) (asked : Asked) (files : Files) : Type 0 where
  pub definition : MayGive held definition_limit asked.definition files.definition
  pub log : MayGive held log_limit asked.log files.log
  pub earlier : MayGiveEarlier held asked.earlier files.earlier

-- one of the names
abbrev pub IsAsked : Asked → List ℕ → Type 0
IsAsked asked name = (asked.definition ≡ name) ⊎ (asked.log ≡ name) ⊎ (asked.earlier ≡ Some name)

-- How a call ends: its words are none of a call, something is said of the files, a file of this name couldn't be read, or there was no
-- memory.
pub data Outcome : Type 0 where
  Misused : Outcome
  Says : ℕ → List ℕ → Outcome
  Unread : List ℕ → Outcome
  Spent : Outcome

abbrev pub usage : List ℕ
usage = codes "usage: wfpage DEF [EARLIER] RECORD\n"

abbrev pub cannot_read : List ℕ → List ℕ
cannot_read name = codes "cannot read " ++ (string name ++ 10 ∷ [])

abbrev pub out_of_memory : List ℕ
out_of_memory = codes "out of memory\n"

abbrev pub status_of : Outcome → ℕ
status_of Misused = 2
status_of (Says status text) = status
status_of (Unread name) = 3
status_of Spent = 5

abbrev pub text_of : Outcome → List ℕ
text_of Misused = usage
text_of (Says status text) = text
text_of (Unread name) = cannot_read name
text_of Spent = out_of_memory

-- what is asked comes to this outcome, and does this to the list of failed names
abbrev pub Reaches : Held → Asked → List (List ℕ) → List (List ℕ) → Outcome → Type 0
Reaches held asked old new Misused = ⊥
Reaches held asked old new (Says status text) =
    (new ≡ old) × ((files : Files) × MayGiveAll held asked files × (judged files ≡ say status text))
Reaches held asked old new (Unread name) = IsAsked asked name × (new ≡ old ++ name ∷ [])
Reaches held asked old new Spent = (new ≡ old) ⊎ ((name : List ℕ) × IsAsked asked name × (new ≡ old ++ name ∷ []))

-- and words, where None stands for those that ask for nothing
abbrev pub Comes : Held → Option Asked → List (List ℕ) → List (List ℕ) → Outcome → Type 0
Comes held None old new outcome = (outcome ≡ Misused) × (new ≡ old)
Comes held (Some asked) old new outcome = Reaches held asked old new outcome

-- the whole of a call
pub record Serves (held : Held) (words : List (List ℕ)) (old new : List (List ℕ)) (before after : Option (List ℕ)) (result : ℕ)
    : Type 0 where
  pub outcome : Outcome
  pub comes : Comes held (asked_of words) old new outcome
  pub writes : Writes before after (status_of outcome) (text_of outcome) result
