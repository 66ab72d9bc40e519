-- What holds of the variables of a definition by their numbers.
use Rattle.std.specs.Prelude.{◌≡◌, ◌⊎◌, ℕ, List, Some}
use Rattle.wf_layers.specs.Address.{Address, Table}
use Rattle.wf_layers.specs.Definition.{Graph, Kind}
use Rattle.wf_def.specs.DefTree.{DefTree}
use Rattle.wf_meant_laws.specs.AcceptedLawsVariables.{ReadsIt, WritesIt}
use Rattle.wf_asks.specs.Known.{HoldsLast, HoldsLastAtTest, IsInformed, IsInformedAtTest, MayRead, writer}
use Rattle.wf_record.specs.Record.{Row}
use Rattle.wf_meant_laws.specs.Answering.{RowSource}
use Rattle.wf_meant_laws.specs.Points.{graph_of, point_of, point_of_test}
use Rattle.wf_meant_laws.specs.Record.{depth_of}
use Rattle.wf_meant_laws.specs.Variables.{variable_at}
use Rattle.wf_meant_laws.specs.Store.{Accesses}
use Rattle.wf_meant_laws.specs.Writers.{writes_to}
use Rattle.wf_sight.specs.Sight.{KnownTree}
use Rattle.wf_sight.specs.CatalogVariables.{variable_number}
use Rattle.wf_sight.specs.Variables.{variable_in}
use Rattle.wf_sight_laws.specs.Writes.{writes}

-- the rows write, by numbers, what they give, by names
abbrev pub WriteWhatTheyGive : DefTree → Table Row → Type 0
WriteWhatTheyGive d rows =
    (k : List ℕ) (v : ℕ) → variable_number d k ≡ Some v → (y : Address) (row : Row) → rows y ≡ Some row
    → writer (writes d) v y row ≡ writes_to d k y row

module _ (d : DefTree) (m : RowSource) where
  -- what reads or writes a variable may read it
  abbrev pub AccessesMayRead : Type 0
  AccessesMayRead =
      (k : List ℕ) (v : ℕ) → variable_number d k ≡ Some v → (n : ℕ) (i : List ℕ) (kind : Kind) → Accesses d k n i kind
      → MayRead (graph_of d) (depth_of d) m (writes d) v n kind i

  -- where what is known is what the machine promises, the last writer in the store gave the value that the meaning finds
  abbrev pub IsTold : Type 0
  IsTold =
      (x : Address) (kind : Kind) (known : KnownTree)
      → IsInformed (graph_of d) (depth_of d) m known.rows known.opens x.name x.at kind
      → HoldsLast (graph_of d) (depth_of d) m (writes d) known.rows known.store x.name kind x.at
      → (k : List ℕ) → ReadsIt d k x.name ⊎ WritesIt d k x.name
      → variable_in d known.rows known.store k ≡ variable_at d (point_of d x) known.rows k

  abbrev pub IsToldInTest : Type 0
  IsToldInTest =
      (u : Address) (most : ℕ) (g : Graph) (j : ℕ) (known : KnownTree)
      → IsInformedAtTest (graph_of d) (depth_of d) m known.rows known.opens u.name u.at most g j
      → HoldsLastAtTest (graph_of d) (depth_of d) m (writes d) known.rows known.store u.name most g u.at j
      → (k : List ℕ) → ReadsIt d k u.name ⊎ WritesIt d k u.name
      → variable_in d known.rows known.store k ≡ variable_at d (point_of_test d u j) known.rows k
