-- WHAT A RUN COSTS AT LEAST, whatever its actions come to.
use Rattle.std.specs.Prelude.{◌≡◌, ℕ, ◌+◌, ◌*◌, [], length, Some, true}
use Rattle.wf_layers.specs.Address.{Table, address}
use Rattle.wf_layers.specs.Definition.{has_own}
use Rattle.wf_def.specs.ActionTree.{actions_in}
use Rattle.wf_def.specs.DefTree.{DefTree}
use Rattle.wf_record.specs.Record.{Row}
use Rattle.wf_meant_laws.specs.Points.{graph_of}

-- 64 for itself, and 64 for the row of each action of the graph at the top: that of one which didn't run is there as well
abbrev pub least_cost : DefTree → ℕ
least_cost d = 64 * (1 + length (actions_in d.top))

-- Each action of the graph at the top has a row.
abbrev pub EachHasARow : DefTree → Table Row → Type 0
EachHasARow d rows = (n : ℕ) → has_own (graph_of d) n ≡ true → (row : Row) × (rows (address n []) ≡ Some row)
