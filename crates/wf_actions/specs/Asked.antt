-- What the machine asks of the actions of a run, and what it promises as it asks.
use Rattle.std.specs.Prelude.{◌≡◌, ℕ, Bool, false, List, Option, Some, nat_lt}
use Rattle.wf_asks.specs.Instances.{address_of, rows_in}
use Rattle.wf_asks.specs.Known.{HoldsLast, HoldsLastAtTest, IsInformed, IsInformedAtTest, opens_in, store_in}
use Rattle.wf_asks.specs.declared.instance.Instance.{Instance}
use Rattle.wf_asks.specs.declared.known.OpenAt.{OpenAt}
use Rattle.wf_asks.specs.declared.known.RowAt.{RowAt}
use Rattle.wf_asks.specs.declared.known.WriterAt.{WriterAt}
use Rattle.wf_catalog.specs.Leaf.{BegunTree}
use Rattle.wf_layers.specs.Address.{Table}
use Rattle.wf_layers.specs.Definition.{Kind, Leaf, Graph, Until, kind_of}
use Rattle.wf_layers.specs.Machine.{IsContainer}
use Rattle.wf_opening.specs.DecisionSeen.{decision_tree, verdict_tree}
use Rattle.wf_opening.specs.Decisions.{DecisionTree}
use Rattle.wf_opening.specs.Verdicts.{VerdictTree}
use Rattle.wf_opening.specs.declared.decide.Decision.{Decision}
use Rattle.wf_opening.specs.declared.verdict.Verdict.{Verdict}
use Rattle.wf_record.specs.Record as recorded
use Rattle.wf_record.specs.declared.row.Row.{Row}
use Rattle.wf_sight_laws.specs.Seen.{row_content}
use Rattle.wf_actions.specs.Meant.{depth, graph, source, writes}
use Rattle.wf_actions.specs.declared.actions.Actions.{Actions}

-- ---- what is known

abbrev pub rows_known : List (RowAt Row) → Table recorded.Row
rows_known rows = rows_in row_content rows

module _ (a : Actions) (rows : List (RowAt Row)) (opens : List (OpenAt Decision Verdict)) where
  -- an action of this kind sees what the rows are meant to be
  abbrev pub Informed : Kind → Instance → Type 0
  Informed kind place =
      IsInformed (graph a) (depth a) (source a) (rows_known rows) (opens_in decision_tree verdict_tree opens) place.action place.at kind

  abbrev pub InformedInside : Instance → Type 0
  InformedInside place =
      (kind : Kind) → kind_of (graph a) place.action ≡ Some kind → IsContainer kind × Informed kind place

  module _ (store : List WriterAt) where
    -- and of each variable that it may read the store has the last writer
    abbrev pub Last : Kind → Instance → Type 0
    Last kind place =
        HoldsLast (graph a) (depth a) (source a) (writes a) (rows_known rows) (store_in store) place.action kind place.at

    abbrev pub InformedToOpen : Instance → Type 0
    InformedToOpen place =
        (kind : Kind) → kind_of (graph a) place.action ≡ Some kind → IsContainer kind × Informed kind place × Last kind place

    abbrev pub InformedToTest : Instance → ℕ → Type 0
    InformedToTest place index =
        (most : ℕ) → (g : Graph) → kind_of (graph a) place.action ≡ Some (Until most g)
        → IsInformedAtTest (graph a) (depth a) (source a) (rows_known rows) (opens_in decision_tree verdict_tree opens) place.action
        place.at most g index
        × HoldsLastAtTest (graph a) (depth a) (source a) (writes a) (rows_known rows) (store_in store) place.action most g place.at index

-- it isn't closed again with what it had decided
abbrev pub IsAnew : Actions → Instance → Type 0
IsAnew a place = (source a).reclosed place.action ≡ false

-- ---- what they answer

abbrev pub start_of : Actions → Instance → List (RowAt Row) → BegunTree
start_of a place rows = (source a).start (address_of place) (rows_known rows)

abbrev pub tries_another : Actions → Instance → BegunTree → ℕ → Bool
tries_another a place begun made = nat_lt made ((source a).tries (address_of place) begun)

abbrev pub finish_of : Actions → Instance → BegunTree → List (RowAt Row) → recorded.Row
finish_of a place begun rows = (source a).finish (address_of place) begun (rows_known rows)

abbrev pub decision_of : Actions → Instance → List (RowAt Row) → DecisionTree
decision_of a place rows = (source a).decide (address_of place) (rows_known rows)

abbrev pub test_of : Actions → Instance → ℕ → List (RowAt Row) → VerdictTree
test_of a place index rows = (source a).test (address_of place) index (rows_known rows)

abbrev pub close_of : Actions → Instance → DecisionTree → ℕ → Option VerdictTree → List (RowAt Row) → recorded.Row
close_of a place decision count verdict rows = (source a).close (address_of place) decision count verdict (rows_known rows)

abbrev pub halt_of : Actions → Instance → List (RowAt Row) → Bool
halt_of a place rows = (source a).halts (address_of place) (rows_known rows)
