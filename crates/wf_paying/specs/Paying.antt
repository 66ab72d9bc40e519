-- WHAT A DEFINITION COSTS: what its run was started with, and the rows that it means, or that a resubmission means.
use Rattle.std.specs.Prelude.{ℕ, sum_by}
use Rattle.wf_layers.specs.Address.{Table}
use Rattle.wf_def.specs.DefTree.{DefTree}
use Rattle.wf_doing.specs.Costs as costs
use Rattle.wf_turns.specs.Record.{rows_of}
use Rattle.wf_record.specs.Cost.{row_cost}
use Rattle.wf_record.specs.Record.{Row}
use Rattle.wf_turns.specs.Starts.{StartTree}

-- a row, and what a run costs before its first event
abbrev pub cost_of_row : Row → ℕ
cost_of_row = costs.cost_of_row

abbrev pub first_cost : StartTree → ℕ
first_cost = costs.first_cost

-- what all rows of a table cost together
abbrev pub rows_meant : DefTree → Table Row → ℕ
rows_meant d known = sum_by row_cost (rows_of d known)
