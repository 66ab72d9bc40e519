-- WHAT STANDS AT AN INSTANCE as an event has happened there: the row, the running leaf and the open container, each if there is one. As
-- what has happened is told by that instance alone, it is told of a state that has these everywhere.
use Rattle.std.specs.Prelude.{Option}
use Rattle.wf_layers.specs.Machine.{Opening, Running, State}

abbrev pub standing : {Row Begun Decision Verdict : Type 0} → Option Row → Option (Running Begun) → Option (Opening Decision Verdict)
    → State Row Begun Decision Verdict
standing row leaf open_there = record { rows = λ x. row; running = λ x. leaf; opens = λ x. open_there }
