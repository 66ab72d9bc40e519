-- THE SOURCES OF A DEFINITION'S ROWS, whatever rows they keep of an older run: that of a run of its own keeps none, that of a resubmission
-- some.
use Rattle.std.specs.Prelude.{◌≡◌, ℕ, true, false, Option, Some}
use Rattle.wf_refs.specs.Address.{Address, Table}
use Rattle.wf_refs.specs.Definition.{Kind, Foreach, Until, kind_of}
use Rattle.wf_refs.specs.Meaning as layered_meaning
use Rattle.wf_refs.specs.Source.{Source}
use Rattle.wf_refs.specs.AllActions.{numbered}
use Rattle.wf_refs.specs.DefTree.{DefTree}
use Rattle.wf_environment.specs.Record.{Row}
use Rattle.wf_says.specs.Decisions.{DecisionTree}
use Rattle.wf_says.specs.Verdicts.{VerdictTree}
use Rattle.wf_done.specs.Leaf.{BegunTree}
use Rattle.wf_environment.specs.Environment.{Environment}
use Rattle.wf_meant.specs.Points.{graph_of}
use Rattle.wf_meant.specs.Record.{depth_of}
use Rattle.wf_meant.specs.Resubmitted.{said_by}
use Rattle.wf_meant.specs.Source.{source}

abbrev pub RowSource : Type 0
RowSource = Source Row BegunTree DecisionTree VerdictTree

-- the rows that a source means
abbrev pub table_by : DefTree → RowSource → Table Row
table_by d m = layered_meaning.meaning m (depth_of d) (graph_of d)

abbrev pub IsLoop : Kind → Type 0
IsLoop (Foreach pace g) = Unit {0}
IsLoop (Until most g) = Unit {0}
IsLoop kind = ⊥

-- By this source the actions of the definition answer in the environment. Of what may be kept of an older run it says only that a container
-- which isn't closed again decides as it is there, that one which is decides what some row of it says, and that no loop is closed again.
pub record AnswersAs (d : DefTree) (e : Environment) (m : RowSource) : Type 0 where
  pub status : m.status ≡ (source d e).status
  pub skipped : m.skipped ≡ (source d e).skipped
  pub start : m.start ≡ (source d e).start
  pub tries : m.tries ≡ (source d e).tries
  pub finish : m.finish ≡ (source d e).finish
  pub decide : (x : Address) (known : Table Row) → m.reclosed x.name ≡ false → m.decide x known ≡ (source d e).decide x known
  pub recalls : (x : Address) (known : Table Row) → m.reclosed x.name ≡ true
      → (row : Option Row) × (m.decide x known ≡ said_by (numbered x.name d.top) row)
  pub taken : m.taken ≡ (source d e).taken
  pub items : m.items ≡ (source d e).items
  pub test : m.test ≡ (source d e).test
  pub ends : m.ends ≡ (source d e).ends
  pub close : m.close ≡ (source d e).close
  pub halts : m.halts ≡ (source d e).halts
  pub loops : (n : ℕ) (kind : Kind) → kind_of (graph_of d) n ≡ Some kind → IsLoop kind → m.reclosed n ≡ false
