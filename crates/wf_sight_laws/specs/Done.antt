-- What an action does in what it sees is what the definition means, by any source by which it answers. A container that is closed again
-- isn't asked, but what it would decide is said of it, too.
use Rattle.std.specs.Prelude.{◌≡◌, ℕ, Some}
use Rattle.wf_val.specs.ValueTree.{ValueTree}
use Rattle.wf_layers.specs.Address.{Address}
use Rattle.wf_layers.specs.Definition.{Graph, Kind, Leaf}
use Rattle.wf_layers.specs.Variables.{IsLastWritten}
use Rattle.wf_look.specs.Told.{Told}
use Rattle.wf_def.specs.ActionTree.{ActionTree, action_kind}
use Rattle.wf_def.specs.AllActions.{numbered}
use Rattle.wf_def.specs.DefTree.{DefTree}
use Rattle.wf_asks.specs.Known.{HoldsLast, HoldsLastAtTest, IsInformed, IsInformedAtTest, writer}
use Rattle.wf_meant_laws.specs.Decisions.{decided}
use Rattle.wf_meant_laws.specs.Leaf.{begun}
use Rattle.wf_meant_laws.specs.Tracked.{tracked_value, with_own}
use Rattle.wf_meant_laws.specs.Environment.{Environment, facts_of, last_facts}
use Rattle.wf_meant_laws.specs.Answering.{RowSource, table_by}
use Rattle.wf_meant_laws.specs.Containers.{tested}
use Rattle.wf_meant_laws.specs.Look.{name_of, told_ending, told_to_outputs}
use Rattle.wf_meant_laws.specs.Points.{graph_of}
use Rattle.wf_meant_laws.specs.Record.{depth_of}
use Rattle.wf_meant_laws.specs.Source.{source, tracked_of}
use Rattle.wf_sight.specs.Laws.{run_of}
use Rattle.wf_sight.specs.Sight.{KnownTree, seen_at, seen_by_outputs, seen_in_test}
use Rattle.wf_sight_laws.specs.Writes.{writes}

module _ (d : DefTree) (e : Environment) where
  -- what is seen at an instance, and in a test
  abbrev pub seen : Address → KnownTree → Told
  seen x known = seen_at d (run_of e (facts_of e (name_of d x.name))) x known

  abbrev pub seen_tested : Address → ℕ → KnownTree → Told
  seen_tested u j known = seen_in_test d (run_of e (facts_of e (name_of d u.name))) u j known

module _ (d : DefTree) (e : Environment) (m : RowSource) where
  abbrev pub Starts : Type 0
  Starts =
      (x : Address) (known : KnownTree) (a : ActionTree) → numbered x.name d.top ≡ Some a
      → IsInformed (graph_of d) (depth_of d) m known.rows known.opens x.name x.at Leaf
      → HoldsLast (graph_of d) (depth_of d) m (writes d) known.rows known.store x.name Leaf x.at
      → begun (seen d e x known) (action_kind a) ≡ (source d e).start x known.rows

  abbrev pub Decides : Type 0
  Decides =
      (x : Address) (kind : Kind) (known : KnownTree) (a : ActionTree) → numbered x.name d.top ≡ Some a
      → IsInformed (graph_of d) (depth_of d) m known.rows known.opens x.name x.at kind
      → HoldsLast (graph_of d) (depth_of d) m (writes d) known.rows known.store x.name kind x.at
      → decided (seen d e x known) (action_kind a) ≡ (source d e).decide x known.rows

  abbrev pub Tests : Type 0
  Tests =
      (u : Address) (most : ℕ) (g : Graph) (j : ℕ) (known : KnownTree) (a : ActionTree) → numbered u.name d.top ≡ Some a
      → IsInformedAtTest (graph_of d) (depth_of d) m known.rows known.opens u.name u.at most g j
      → HoldsLastAtTest (graph_of d) (depth_of d) m (writes d) known.rows known.store u.name most g u.at j
      → tested (seen_tested d e u j known) (action_kind a) ≡ (source d e).test u j known.rows

  -- Tracked properties read no variable: so they need no store.
  abbrev pub Tracks : Type 0
  Tracks =
      (x : Address) (kind : Kind) (known : KnownTree) (a : ActionTree) (view : ValueTree) → numbered x.name d.top ≡ Some a
      → IsInformed (graph_of d) (depth_of d) m known.rows known.opens x.name x.at kind
      → tracked_value (with_own view (seen d e x known)) (tracked_of a) ≡ tracked_value (told_ending d e x view known.rows) (tracked_of a)

  -- The section `outputs`, at the end of a run: all rows are there, and the store has the last writer of all, of each variable.
  abbrev pub OutputsSee : Type 0
  OutputsSee =
      (known : KnownTree) → ((y : Address) → known.rows y ≡ table_by d m y)
      → ((v : ℕ) → IsLastWritten (graph_of d) m (writer (writes d) v) known.rows (known.store v))
      → seen_by_outputs d (run_of e (last_facts e)) known ≡ told_to_outputs d e known.rows
