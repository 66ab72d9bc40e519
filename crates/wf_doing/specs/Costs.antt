-- WHAT A RUN COSTS: what it was started with, and each of its rows.
use Rattle.std.specs.Prelude.{ℕ, ◌+◌, []}
use Rattle.wf_val.specs.ValueTree.{members, object, weight}
use Rattle.wf_record.specs.Cost.{row_cost}
use Rattle.wf_record.specs.Record.{Row}
use Rattle.wf_closing.specs.Starts.{StartTree}
use Rattle.wf_doing.specs.Places.{named}

-- A row costs the same whatever its address is.
abbrev pub cost_of_row : Row → ℕ
cost_of_row row = row_cost (record { address = named [] []; row = row })

-- what a run costs before its first event
abbrev pub first_cost : StartTree → ℕ
first_cost start = 64 + weight start.trigger + weight (object (members start.parameters))
