-- A TALK FROM ITS FIRST BYTE TO ITS LAST.
use Rattle.std.specs.Prelude.{◌≡◌, ℕ, ◌<◌, ◌≤◌, List, [], ◌∷◌, ◌++◌, Option, codes, length, take}
use Rattle.std.specs.Io.KnownBytes.{Consumes, IsAtEnd}
use Rattle.wf_answers.specs.Inputs.{InputsTree}
use Rattle.wf_lines.specs.Lines.{lines_of}
use Rattle.wf_talk.specs.Hearing.{Goes, Hearing, Over}
use Rattle.wf_talk.specs.Keys.{open_lines}
use Rattle.wf_talk.specs.Says.{Says}
use Rattle.wf_talk.specs.Standing.{Standing}
use Rattle.wf_talk.specs.Whole.{rest_of, whole_lines}
use Rattle.wf_talk.specs.Written.{AppendsAtLeast, Writes}

-- the most bytes that are taken
abbrev pub most_bytes : ℕ
most_bytes = 67108864

abbrev pub input_ended : List ℕ
input_ended = codes "input ended\n"

abbrev pub too_long : List ℕ
too_long = codes "session too long\n"

abbrev pub cannot_read_input : List ℕ
cannot_read_input = codes "cannot read input\n"

abbrev pub out_of_memory : List ℕ
out_of_memory = codes "out of memory\n"

-- HOW A TALK ENDS once these bytes were given and so many are left: with this status, and this whole text.
pub data Closes (Stands : InputsTree → Standing → Type 0) (inputs : InputsTree) (given : List ℕ) (left : Option (List ℕ)) : ℕ → List ℕ
    → Type 0
  where
    -- It is over at once, or with the line that the last byte completes.
    over : {said : List ℕ} {status : ℕ} → rest_of given ≡ [] → Says Stands inputs (whole_lines given) said (Over status)
        → Closes Stands inputs given left status said
    -- The input ends, and it is over with the bytes behind the last line feed.
    over_at_end : {said : List ℕ} {status : ℕ} → IsAtEnd left → length given < most_bytes
        → Says Stands inputs (lines_of given) said (Over status) → Closes Stands inputs given left status said
    -- The input ends, and attempts wait for their answers.
    still_open : {said : List ℕ} {h : Hearing} → IsAtEnd left → length given < most_bytes
        → Says Stands inputs (lines_of given) said (Goes h)
        → Closes Stands inputs given left 9 (said ++ (open_lines h.wanted ++ input_ended))
    -- No more bytes are taken.
    too_many : {said : List ℕ} {h : Hearing} → length given ≡ most_bytes → Says Stands inputs (whole_lines given) said (Goes h)
        → Closes Stands inputs given left 6 (said ++ too_long)
    -- The source fails.
    unread : {said : List ℕ} {h : Hearing} → length given < most_bytes → Says Stands inputs (whole_lines given) said (Goes h)
        → Closes Stands inputs given left 3 (said ++ cannot_read_input)
    -- Memory runs out behind some of the lines,
    spent : {said : List ℕ} {h : Hearing} (count : ℕ) → Says Stands inputs (take count (whole_lines given)) said (Goes h)
        → Closes Stands inputs given left 5 (said ++ out_of_memory)
    -- or before anything is said.
    spent_at_once : given ≡ [] → Closes Stands inputs given left 5 out_of_memory
    -- The sink fails.
    unwritten : {said : List ℕ} {h : Hearing} → Says Stands inputs (whole_lines given) said (Goes h)
        → Closes Stands inputs given left 4 said

-- The sink took all that is said over these bytes.
pub record HasSaid (Stands : InputsTree → Standing → Type 0) (inputs : InputsTree) (taken taken' : Option (List ℕ)) (given : List ℕ) :
    Type 0 where
  pub said : List ℕ
  pub h : Hearing
  pub says : Says Stands inputs (whole_lines given) said (Goes h)
  pub taken_all : AppendsAtLeast taken taken' said

-- THE WHOLE TALK: what the source gave, what was said, and that each byte was asked for only when all was taken that those before it say.
pub record Talks (Stands : InputsTree → Standing → Type 0) (inputs : InputsTree) (left left' : Option (List ℕ))
    (taken taken' : Option (List ℕ))
    (result : ℕ) : Type 0 where
  pub given : List ℕ
  pub status : ℕ
  pub said : List ℕ
  pub gave : Consumes left left' given
  pub within : length given ≤ most_bytes
  pub closes : Closes Stands inputs given left' status said
  pub writes : Writes taken taken' status said result
  pub before : (front back : List ℕ) (b : ℕ) → given ≡ front ++ b ∷ back → HasSaid Stands inputs taken taken' front
