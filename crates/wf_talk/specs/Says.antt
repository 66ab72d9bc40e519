-- WHAT A TALK SAYS OVER LINES, by a relation that tells where the run stands with some inputs.
use Rattle.std.specs.Prelude.{◌≡◌, ℕ, List, [], ◌∷◌, ◌++◌}
use Rattle.wf_answers.specs.Inputs.{InputsTree}
use Rattle.wf_talk.specs.Hearing.{After, Goes, Hearing, accepting, counting, left_by, opening, refused_line, refusing, told}
use Rattle.wf_talk.specs.Line.{Accepted, Heard, Nothing, Refused, heard}
use Rattle.wf_talk.specs.Standing.{Standing}

-- It is said where the run stands.
abbrev pub SaysWhere : (InputsTree → Standing → Type 0) → Hearing → List ℕ → After → Type 0
SaysWhere Stands h text after = (standing : Standing) × Stands h.inputs standing × (text ≡ told h standing) × (after ≡ left_by h standing)

-- What is said of a line that was counted, by what it comes to, and what comes of it.
abbrev pub SaysOf : (InputsTree → Standing → Type 0) → Hearing → Heard → List ℕ → After → Type 0
SaysOf Stands h Nothing text after = (text ≡ []) × (after ≡ Goes h)
SaysOf Stands h (Refused words) text after = (text ≡ refused_line h.number words) × (after ≡ Goes (refusing h))
SaysOf Stands h (Accepted a) text after = SaysWhere Stands (accepting h a) text after

-- What is said of a line, and what comes of it.
abbrev pub Hears : (InputsTree → Standing → Type 0) → Hearing → List ℕ → List ℕ → After → Type 0
Hears Stands h line text after = SaysOf Stands (counting h) (heard h.wanted line) text after

-- What is said over some lines, and what comes of them: at first where the run stands, and then of line after line while the talk goes on.
pub data Says (Stands : InputsTree → Standing → Type 0) (inputs : InputsTree) : List (List ℕ) → List ℕ → After → Type 0 where
  at_first : {text : List ℕ} {after : After} → SaysWhere Stands (opening inputs) text after → Says Stands inputs [] text after
  and_then : {lines : List (List ℕ)} {said : List ℕ} {h : Hearing} {after : After} (line text : List ℕ)
      → Says Stands inputs lines said (Goes h)
      → Hears Stands h line text after → Says Stands inputs (lines ++ line ∷ []) (said ++ text) after
