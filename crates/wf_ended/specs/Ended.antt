-- A RUN THAT HAS ENDED, whether it was started anew or made from an older one.
use Rattle.std.specs.Prelude.{◌≡◌, ℕ, Option}
use Rattle.wf_layers.specs.Address.{Address, Table}
use Rattle.wf_layers.specs.Source.{Source}
use Rattle.wf_layers.specs.Variables.{IsLastWritten}
use Rattle.wf_asks.specs.Known.{writer}
use Rattle.wf_def.specs.DefTree.{DefTree}
use Rattle.wf_record.specs.Record.{Row}
use Rattle.wf_opening.specs.Decisions.{DecisionTree}
use Rattle.wf_opening.specs.Verdicts.{VerdictTree}
use Rattle.wf_catalog.specs.Leaf.{BegunTree}
use Rattle.wf_catalog.specs.Environment.{Environment}
use Rattle.wf_catalog.specs.Answering.{table_by}
use Rattle.wf_catalog.specs.Points.{graph_of}
use Rattle.wf_sight_laws.specs.Answered.{IsAnswered}
use Rattle.wf_sight_laws.specs.Writes.{writes}

-- In an environment the actions of a definition answer by some source; each row that it means is there, and of each variable the store has
-- the last writer among them.
pub record HasEnded (d : DefTree) (e : Environment) (rows : Table Row) (store : ℕ → Option Address) : Type 0 where
  pub answers : Source Row BegunTree DecisionTree VerdictTree
  pub answered : IsAnswered d e answers
  pub whole : (y : Address) → rows y ≡ table_by d answers y
  pub last : (v : ℕ) → IsLastWritten (graph_of d) answers (writer (writes d) v) rows (store v)
