-- The value of a variable is that of the last writer which its reader sees. So an engine may keep, in place of all writers, the last that
-- has ended (`store_holds_the_last` of wf_layers).
use Rattle.std.specs.Prelude.{◌≡◌, ◌⊎◌, ℕ, List, Option, Some}
use Rattle.wf_layers.specs.Address.{Address, SeenIn, Table, address}
use Rattle.wf_layers.specs.Definition.{Graph, Kind, Until, kind_of}
use Rattle.wf_layers.specs.Variables.{IsLastSeen, SeenByTest, WritersHaveOrder}
use Rattle.wf_seen_laws.specs.DefTree.{DefTree}
use Rattle.wf_seen_laws.specs.Turns.{IsInstance}
use Rattle.wf_instance.specs.Variables.{ReadsIt, WritesIt}
use Rattle.wf_record.specs.Record.{Row}
use Rattle.wf_instance.specs.Answering.{RowSource}
use Rattle.wf_instance.specs.Points.{Point, graph_of, point_of, point_of_test}
use Rattle.wf_instance.specs.MeantVariables.{variable_at}
use Rattle.wf_meant_laws.specs.Writers.{value_at, writes_to}

module _ (d : DefTree) (m : RowSource) (rows : Table Row) where
  -- at a point that sees these addresses, whatever is known beside their rows
  abbrev pub LastIsRead : Point → (Address → Type 0) → Type 0
  LastIsRead p Sees =
      (v : List ℕ) (writer : Option Address) → IsLastSeen (graph_of d) m (writes_to d v) rows Sees writer
      → (known : Table Row) → ((y : Address) → Sees y → known y ≡ rows y) → variable_at d p known v ≡ value_at v known writer

  -- as a leaf starts, while it runs, and as a container opens
  abbrev pub LastIsReadAtInstances : Type 0
  LastIsReadAtInstances = (x : Address) → LastIsRead (point_of d x) (SeenIn (graph_of d) x)

  -- as an Until is tested after its iteration k
  abbrev pub LastIsReadAtTests : Type 0
  LastIsReadAtTests =
      (n : ℕ) (i : List ℕ) (most : ℕ) (h : Graph) (k : ℕ) → kind_of (graph_of d) n ≡ Some (Until most h)
      → IsInstance (graph_of d) (address n i)
      → LastIsRead (point_of_test d (address n i) k) (SeenByTest (graph_of d) n i h k)

  -- each writer of a variable is in what reads or writes it, in one order with it, or excludes it
  abbrev pub AccessesHaveOrder : Type 0
  AccessesHaveOrder =
      (v : List ℕ) (n : ℕ) (i : List ℕ) (kind : Kind) → kind_of (graph_of d) n ≡ Some kind → IsInstance (graph_of d) (address n i)
      → ReadsIt d v n ⊎ WritesIt d v n → WritersHaveOrder (graph_of d) m (writes_to d v) rows n kind i
