-- What a store tells that keeps of a variable the address of the writer that was the last to end: the variable, wherever it is looked up.
use Rattle.std.specs.Prelude.{◌≡◌, ◌⊎◌, ℕ, List, Option, None, Some}
use Rattle.wf_layers.specs.Address.{Address, address}
use Rattle.wf_layers.specs.Definition.{Graph, Kind, Leaf, Need, Until, kind_of}
use Rattle.wf_layers.specs.Machine.{Event, IsDecided, IsThere, MayTest, Opening, Running, State, fresh}
use Rattle.wf_layers.specs.Variables.{Stores}
use Rattle.wf_seen_laws.specs.DefTree.{DefTree}
use Rattle.wf_seen_laws.specs.Turns.{IsInstance}
use Rattle.wf_instance.specs.Variables.{ReadsIt, WritesIt}
use Rattle.wf_instance.specs.Decisions.{DecisionTree}
use Rattle.wf_instance.specs.Verdicts.{VerdictTree}
use Rattle.wf_instance.specs.Leaf.{BegunTree}
use Rattle.wf_record.specs.Record.{Row}
use Rattle.wf_instance.specs.Environment.{Environment}
use Rattle.wf_instance.specs.Points.{Point, graph_of, point_of, point_of_test}
use Rattle.wf_instance.specs.Source.{source}
use Rattle.wf_instance.specs.MeantVariables.{variable_at}
use Rattle.wf_meant_laws.specs.Writers.{value_at, writes_to}

abbrev pub Moment : Type 0
Moment = State Row BegunTree DecisionTree VerdictTree

-- an instance of an action of this kind that reads or writes the variable
pub record Accesses (d : DefTree) (v : List ℕ) (n : ℕ) (i : List ℕ) (kind : Kind) : Type 0 where
  pub is : kind_of (graph_of d) n ≡ Some kind
  pub instance : IsInstance (graph_of d) (address n i)
  pub accesses : ReadsIt d v n ⊎ WritesIt d v n

module _ (d : DefTree) (e : Environment) (v : List ℕ) (s : Moment) (writer : Option Address) where
  -- what a look at a point finds in the rows that are there
  abbrev pub Tells : Point → Type 0
  Tells p = variable_at d p s.rows v ≡ value_at v s.rows writer

  pub record StoreTells : Type 0 where
    -- as an action is decided: a leaf that starts, a container that opens
    pub decided : (n : ℕ) (i : List ℕ) (after : List Need) (kind : Kind) → IsDecided (graph_of d) (source d e) s n i after kind
        → Accesses d v n i kind → Tells (point_of d (address n i))
    -- while a leaf runs, to its end
    pub running : (n : ℕ) (i : List ℕ) (w : Running BegunTree) → s.running (address n i) ≡ Some w → Accesses d v n i Leaf
        → Tells (point_of d (address n i))
    -- as an Until is tested after its iteration j
    pub tested : (n : ℕ) (i : List ℕ) (after : List Need) (most : ℕ) (h : Graph) (w : Opening DecisionTree VerdictTree) (j : ℕ)
        → IsThere (graph_of d) (source d e) s n i after (Until most h) → s.opens (address n i) ≡ Some w
        → MayTest (source d e) (Until most h) i w s.rows j → Accesses d v n i (Until most h) → Tells (point_of_test d (address n i) j)

-- whatever events led to the moment
abbrev pub StoresTell : DefTree → Environment → Type 0
StoresTell d e =
    (v : List ℕ) (es : List Event) (s : Moment) (writer : Option Address)
    → Stores (graph_of d) (source d e) (writes_to d v) fresh es s None writer → StoreTells d e v s writer
