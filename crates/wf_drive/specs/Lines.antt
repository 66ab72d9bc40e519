-- THE LINES OF A RUN: one for each event.
use Rattle.std.specs.Prelude.{ℕ, suc, List, [], ◌∷◌, ◌++◌, length, codes, decimal}
use Rattle.wf_layers.specs.Machine.{Event}
use Rattle.wf_scheduled.specs.Counts.{number_of}

-- an event's line: its place among the events, from 1, what is told of it, and a line feed
unfoldable pub event_line : ℕ → List ℕ → List ℕ
event_line k told = codes "# " ++ decimal k ++ 32 ∷ told ++ 10 ∷ []

-- the lines of events behind others, where this is told of an event of a number
abbrev pub lines_from : (Event → ℕ → List ℕ) → List Event → List Event → List ℕ
lines_from told before [] = []
lines_from told before (e ∷ es) =
    event_line (suc (length before)) (told e (number_of before e)) ++ lines_from told (before ++ e ∷ []) es

abbrev pub trace_of : (Event → ℕ → List ℕ) → List Event → List ℕ
trace_of told es = lines_from told [] es
