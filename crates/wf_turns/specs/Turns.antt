-- HOW MANY TURNS A ROW TELLS: so often the action was tried, or so many iterations it had.
use Rattle.std.specs.Prelude.{ℕ, ◌+◌, length}
use Rattle.wf_record.specs.Cost.{iterations}
use Rattle.wf_record.specs.Record.{Row}

abbrev pub turns : Row → ℕ
turns r = length r.attempts + iterations r.inputs r.outputs
