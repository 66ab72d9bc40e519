-- What a talk knows between two lines, and what it says of a line and of where the run stands.
use Rattle.std.specs.Prelude.{ℕ, suc, List, [], ◌∷◌, ◌++◌, codes, decimal}
use Rattle.wf_answers.specs.Added.{with_added}
use Rattle.wf_answers.specs.AnswerTree.{AnswerTree, Key}
use Rattle.wf_answers.specs.Inputs.{InputsTree}
use Rattle.wf_talk.specs.Keys.{fresh, want_lines}
use Rattle.wf_talk.specs.Standing.{Standing, TooLarge, Waits, Ends}

pub record Hearing : Type 0 where
  -- with the answers that were accepted
  pub inputs : InputsTree
  -- the attempts that wait for their answers
  pub wanted : List Key
  -- how many lines were taken
  pub number : ℕ
  -- how many of them were refused
  pub refused : ℕ

-- Whether the talk goes on, or is over with a status.
pub data After : Type 0 where
  Goes : Hearing → After
  Over : ℕ → After

-- a talk before it says anything
abbrev pub opening : InputsTree → Hearing
opening inputs = record { inputs = inputs; wanted = []; number = 0; refused = 0 }

-- one more line was taken
abbrev pub counting : Hearing → Hearing
counting h = record { inputs = h.inputs; wanted = h.wanted; number = suc h.number; refused = h.refused }

-- it was refused
abbrev pub refusing : Hearing → Hearing
refusing h = record { inputs = h.inputs; wanted = h.wanted; number = h.number; refused = suc h.refused }

-- its answer was accepted
abbrev pub accepting : Hearing → AnswerTree → Hearing
accepting h a = record { inputs = with_added h.inputs a; wanted = h.wanted; number = h.number; refused = h.refused }

-- the run waits for these now
abbrev pub wanting : Hearing → List Key → Hearing
wanting h keys = record { inputs = h.inputs; wanted = keys; number = h.number; refused = h.refused }

-- the line of a line that is refused: its number, and its fault
abbrev pub refused_line : ℕ → List ℕ → List ℕ
refused_line number words = codes "# refused " ++ (decimal number ++ (32 ∷ (words ++ 10 ∷ [])))

-- how many lines were taken, and how many of them refused
abbrev pub summary_line : ℕ → ℕ → List ℕ
summary_line number refused = codes "# session lines " ++ (decimal number ++ (codes " refused " ++ (decimal refused ++ 10 ∷ [])))

abbrev pub too_large : List ℕ
too_large = codes "too large\n"

-- WHAT IS SAID OF WHERE THE RUN STANDS, and whether the talk goes on: attempts are named that are wanted now and weren't before.
abbrev pub told : Hearing → Standing → List ℕ
told h TooLarge = too_large
told h (Waits keys) = want_lines (fresh h.wanted keys)
told h (Ends line) = line ++ summary_line h.number h.refused

abbrev pub left_by : Hearing → Standing → After
left_by h TooLarge = Over 8
left_by h (Waits keys) = Goes (wanting h keys)
left_by h (Ends line) = Over 0
