-- ONE BYTE MORE: what it does to a talk that knows something, and has the bytes of a line that no line feed has ended yet.
use Rattle.std.specs.Prelude.{◌≡◌, ◌≢◌, ◌⊎◌, ◌<◌, ℕ, List, [], ◌∷◌, ◌++◌, Option, None, Some, length}
use Rattle.std.specs.Io.KnownBytes.{Appends, Consumes, IsAtEnd, Keeps}
use Rattle.wf_outside.specs.Outside.{Rose}
use Rattle.wf_answers.specs.Inputs.{InputsTree}
use Rattle.wf_talk.specs.Hearing.{After, Goes, Hearing, Over}
use Rattle.wf_talk.specs.Keys.{open_lines}
use Rattle.wf_talk.specs.Says.{Hears, Says}
use Rattle.wf_talk.specs.Standing.{Standing}
use Rattle.wf_talk.specs.Talks.{HasSaid, cannot_read_input, input_ended, out_of_memory}
use Rattle.wf_talk.specs.Whole.{rest_of, whole_lines}
use Rattle.wf_talk.specs.Written.{Writes}

-- the next byte was given, or the input has ended
abbrev pub Gives : Option (List ℕ) → Option (List ℕ) → Option ℕ → Type 0
Gives left left' (Some b) = Consumes left left' (b ∷ [])
Gives left left' None = Keeps left left' × IsAtEnd left'

-- what the sink's count did in a call: as it was where the talk goes on; else 4 is answered only where it has risen or stands at its
-- last value, and always where it grew
abbrev pub SinkDid : ℕ → ℕ → Option ℕ → Type 0
SinkDid before now None = now ≡ before
SinkDid before now (Some status) = (status ≡ 4 → Rose before now) × (before < now → status ≡ 4)

-- what the source's count did: as it was where the talk goes on; else 3 is answered only where it has risen or stands at its
-- last value, and 3 or 4 where it grew
abbrev pub SourceDid : ℕ → ℕ → Option ℕ → Type 0
SourceDid before now None = now ≡ before
SourceDid before now (Some status) = (status ≡ 3 → Rose before now) × (before < now → (status ≡ 3) ⊎ (status ≡ 4))

-- what is said of the bytes behind the last line feed as the input ends: they are a line where there are any
abbrev pub HearsRest : (InputsTree → Standing → Type 0) → Hearing → List ℕ → List ℕ → After → Type 0
HearsRest Stands h [] said next = (said ≡ []) × (next ≡ Goes h)
HearsRest Stands h (b ∷ rest) said next = Hears Stands h (b ∷ rest) said next

-- what is said at last
abbrev pub IsLast : After → List ℕ → ℕ → List ℕ → Type 0
IsLast (Goes h) said status text = (status ≡ 9) × (text ≡ said ++ (open_lines h.wanted ++ input_ended))
IsLast (Over s) said status text = (status ≡ s) × (text ≡ said)

abbrev pub Finishes : (InputsTree → Standing → Type 0) → Hearing → List ℕ → ℕ → List ℕ → Type 0
Finishes Stands h rest status text =
    (said : List ℕ) × (next : After) × HearsRest Stands h rest said next × IsLast next said status text

module _ (Stands : InputsTree → Standing → Type 0) (h : Hearing) (rest : List ℕ) where
  -- How a talk ends with a line that its line feed has ended,
  pub data LineStops : ℕ → List ℕ → Type 0 where
    line_is_last : {said : List ℕ} {status : ℕ} → Hears Stands h rest said (Over status) → LineStops status said
    line_unwritten : {said : List ℕ} (h' : Hearing) → Hears Stands h rest said (Goes h') → LineStops 4 said
    line_unheard : LineStops 5 out_of_memory

  -- or with a byte,
  pub data ByteStops : ℕ → ℕ → List ℕ → Type 0 where
    at_feed : {status : ℕ} {said : List ℕ} → LineStops status said → ByteStops 10 status said
    byte_unheard : {b : ℕ} → ByteStops b 5 out_of_memory

  -- or as the input ends.
  pub data EndStops : ℕ → List ℕ → Type 0 where
    finished : {status : ℕ} {said : List ℕ} → Finishes Stands h rest status said → EndStops status said
    end_unheard : EndStops 5 out_of_memory

  -- How it ends with its next byte, or without one.
  pub data Stops : List ℕ → Option (List ℕ) → ℕ → List ℕ → Type 0 where
    at_byte : {b : ℕ} {left : Option (List ℕ)} {status : ℕ} {said : List ℕ} → ByteStops b status said → Stops (b ∷ []) left status said
    at_end : {left : Option (List ℕ)} {status : ℕ} {said : List ℕ} → IsAtEnd left → EndStops status said → Stops [] left status said
    byte_unread : {left : Option (List ℕ)} → Stops [] left 3 cannot_read_input

  -- ---- what the calls of the loop do, with what the sink takes

  -- all was taken that is said of a line, and the talk goes on
  abbrev pub EndsLine : Option (List ℕ) → Option (List ℕ) → Hearing → Type 0
  EndsLine taken taken' h' = (said : List ℕ) × Hears Stands h rest said (Goes h') × Appends taken taken' said

  -- all was taken that is said of a byte, and the talk goes on
  abbrev pub HearsByte : ℕ → Option (List ℕ) → Option (List ℕ) → Hearing → List ℕ → Type 0
  HearsByte b taken taken' h' rest' = ((b ≡ 10) × EndsLine taken taken' h' × (rest' ≡ []))
      ⊎ ((b ≢ 10) × Keeps taken taken' × (h' ≡ h) × (rest' ≡ rest ++ b ∷ []))

  -- the same of the next byte
  abbrev pub TakesByte : Option (List ℕ) → Option (List ℕ) → Option (List ℕ) → Option (List ℕ) → Hearing → List ℕ → Type 0
  TakesByte left left' taken taken' h' rest' = (b : ℕ) × Consumes left left' (b ∷ []) × HearsByte b taken taken' h' rest'

  -- what was taken of what is said at last, which is told by a relation
  abbrev pub Took : (ℕ → List ℕ → Type 0) → Option (List ℕ) → Option (List ℕ) → ℕ → Type 0
  Took Ends taken taken' result = (status : ℕ) × (said : List ℕ) × Ends status said × Writes taken taken' status said result

  abbrev pub StopsAtLine : Option (List ℕ) → Option (List ℕ) → ℕ → Type 0
  StopsAtLine taken taken' result = Took LineStops taken taken' result

  abbrev pub StopsAtByte : ℕ → Option (List ℕ) → Option (List ℕ) → ℕ → Type 0
  StopsAtByte b taken taken' result = Took (ByteStops b) taken taken' result

  abbrev pub StopsAtEnd : Option (List ℕ) → Option (List ℕ) → ℕ → Type 0
  StopsAtEnd taken taken' result = Took EndStops taken taken' result

  abbrev pub StopsSo : Option (List ℕ) → Option (List ℕ) → Option (List ℕ) → Option (List ℕ) → ℕ → Type 0
  StopsSo left left' taken taken' result = (given : List ℕ) × Consumes left left' given × Took (Stops given left') taken taken' result

-- A TALK IN ITS MIDST: so many bytes were given, and all was taken that they say.
pub record Listens (Stands : InputsTree → Standing → Type 0) (inputs : InputsTree) (left left' taken taken' : Option (List ℕ)) (h : Hearing)
    (rest : List ℕ) (count : ℕ) : Type 0 where
  pub given : List ℕ
  pub said : List ℕ
  pub gave : Consumes left left' given
  pub counted : length given ≡ count
  pub says : Says Stands inputs (whole_lines given) said (Goes h)
  pub rest_is : rest_of given ≡ rest
  pub wrote : Appends taken taken' said
  pub before : (front back : List ℕ) (b : ℕ) → given ≡ front ++ b ∷ back → HasSaid Stands inputs taken taken' front
