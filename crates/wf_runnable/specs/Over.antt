-- A RUN IN WHICH NOTHING MAY HAPPEN any more, by the actions that act in it.
use Rattle.std.specs.Prelude.{◌≡◌, ℕ, List}
use Rattle.wf_asks.specs.Known.{store_in, writer}
use Rattle.wf_asks.specs.declared.known.OpenAt.{OpenAt}
use Rattle.wf_asks.specs.declared.known.RowAt.{RowAt}
use Rattle.wf_asks.specs.declared.known.WriterAt.{WriterAt}
use Rattle.wf_done.specs.DoneSeen.{begun_tree}
use Rattle.wf_done.specs.Leaf.{BegunTree}
use Rattle.wf_done.specs.declared.leaf.Begun.{Begun}
use Rattle.wf_layers.specs.Address.{Address}
use Rattle.wf_layers.specs.Machine as machine
use Rattle.wf_layers.specs.Meaning.{meaning}
use Rattle.wf_layers.specs.Variables.{IsLastWritten}
use Rattle.wf_opening.specs.DecisionSeen.{decision_tree, verdict_tree}
use Rattle.wf_opening.specs.Decisions.{DecisionTree}
use Rattle.wf_opening.specs.Verdicts.{VerdictTree}
use Rattle.wf_opening.specs.declared.decide.Decision.{Decision}
use Rattle.wf_opening.specs.declared.verdict.Verdict.{Verdict}
use Rattle.wf_record.specs.Record as recorded
use Rattle.wf_record.specs.declared.row.Row.{Row}
use Rattle.wf_actions.specs.Shown.{shown}
use Rattle.wf_tables.specs.declared.entries.LeafAt.{LeafAt}
use Rattle.wf_actions.specs.Seen.{row_content, rows_seen}
use Rattle.wf_actions.specs.Meant.{depth, graph, source, writes}
use Rattle.wf_actions.specs.declared.actions.Actions.{Actions}

-- a state as it is kept, with the actions; and as the laws see it
abbrev pub Lists : Type 0
Lists = List (RowAt Row) × (List (LeafAt Begun) × (List (OpenAt Decision Verdict) × List WriterAt))

abbrev pub Moment : Type 0
Moment = machine.State recorded.Row BegunTree DecisionTree VerdictTree

abbrev pub moment : Lists → Moment
moment h = shown row_content begun_tree decision_tree verdict_tree h

-- nothing may happen any more
abbrev pub IsAtLast : Actions → Lists → Type 0
IsAtLast a h = machine.IsOver (graph a) (source a) (moment h)

-- The rows are those that the actions mean, and the store has the last writer of each variable among them.
pub record AreLeft (a : Actions) (rows : List (RowAt Row)) (store : List WriterAt) : Type 0 where
  pub whole : (y : Address) → rows_seen rows y ≡ meaning (source a) (depth a) (graph a) y
  pub last : (v : ℕ) → IsLastWritten (graph a) (source a) (writer (writes a) v) (rows_seen rows) (store_in store v)
