-- What holds of the actions of a run, whatever it was made from.
use Rattle.std.specs.Prelude.{◌≡◌, ◌<◌, ◌≤◌, ◌+◌, ◌*◌, ◌^◌, ℕ, suc}
use Rattle.wf_asks.specs.Known.{writer}
use Rattle.wf_catalog.specs.Leaf.{BegunTree}
use Rattle.wf_layers.specs.Address.{Address}
use Rattle.wf_layers.specs.Bound.{TellsTurns}
use Rattle.wf_layers.specs.Definition.{Turns}
use Rattle.wf_layers.specs.Meaning.{meaning}
use Rattle.wf_layers.specs.Variables.{OneOrder}
use Rattle.wf_catalog.specs.Answering.{table_by}
use Rattle.wf_catalog.specs.Record.{record_of_table}
use Rattle.wf_record.specs.Cost.{cost}
use Rattle.wf_record.specs.Record.{Row}
use Rattle.wf_paying.specs.Turns.{turns}
use Rattle.wf_paying.specs.Paying.{cost_of_row}
use Rattle.wf_actions.specs.Meant.{definition_of, depth, environment_of, fee, graph, rows_meant, source, writes}
use Rattle.wf_actions.specs.declared.actions.Actions.{Actions}

-- Their loops can go, and no leaf makes more attempts than a number can count; the writers of each variable are in one order; rows tell
-- their attempts and iterations, and cost more with these.
pub record KeepsOrder (a : Actions) : Type 0 where
  pub going : Turns (graph a)
  pub counted : (x : Address) (b : BegunTree) → (source a).tries x b < 2 ^ 64
  pub ordered : (v : ℕ) → OneOrder (graph a) (source a) (writer (writes a) v) (meaning (source a) (depth a) (graph a))
  pub told : TellsTurns (graph a) (source a) (meaning (source a) (depth a) (graph a)) turns
  pub priced : (r : Row) → 64 * suc (turns r) ≤ cost_of_row r

-- What a run costs by its start and its rows is at most what the record costs that has these rows.
abbrev pub CostsWhatItMeans : Actions → Type 0
CostsWhatItMeans a =
    fee a + rows_meant a ≤ cost (record_of_table (definition_of a) (environment_of a) (table_by (definition_of a) (source a)))
