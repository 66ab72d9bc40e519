-- WHAT IS READ OFF THE ROWS of a definition, as the laws on the shape of records ask for it; and what is recalled by them.
use Rattle.std.specs.Prelude.{◌≡◌, ℕ, Option, Some, None}
use Rattle.wf_layers.specs.Address.{Address, Table}
use Rattle.wf_layers.specs.Definition.{Scope, Choice, Branches, Graph, kind_of}
use Rattle.wf_layers.specs.Shape.{Reading}
use Rattle.wf_known_laws.specs.ActionTree.{ActionTree, action_kind}
use Rattle.wf_known_laws.specs.AllActions.{numbered}
use Rattle.wf_known_laws.specs.DefTree.{DefTree}
use Rattle.wf_record.specs.Record.{Row}
use Rattle.wf_meant.specs.Decisions.{taken}
use Rattle.wf_meant.specs.Environment.{Environment}
use Rattle.wf_meant.specs.Points.{graph_of}
use Rattle.wf_meant.specs.Resubmitted.{said_by}
use Rattle.wf_meant.specs.Source.{source}
use Rattle.wf_meant.specs.SaysTold.{items_said, rounds_said, taken_by}

-- by the kind of the action; a number that no action has takes no branch
abbrev pub taken_in : Option ActionTree → Row → ℕ
taken_in None row = 0
taken_in (Some a) row = taken_by (action_kind a) row

abbrev pub reading : DefTree → Reading Row
reading d = record { taken = λ n row. taken_in (numbered n d.top) row; items = items_said; rounds = rounds_said }

-- What is recalled by the row of a container that is closed again is what it decided: a Scope decides nothing, and of an If or a Switch
-- that took no branch nothing inside it ran.
pub record RecallsWithin (d : DefTree) (e : Environment) (f : Table Row) : Type 0 where
  pub scopes : (x : Address) (g : Graph) → kind_of (graph_of d) x.name ≡ Some (Scope g)
      → said_by (numbered x.name d.top) (Some ((source d e).close x ((source d e).decide x f) 0 None f)) ≡ (source d e).decide x f
  pub choices : (x : Address) (bs : Branches) → kind_of (graph_of d) x.name ≡ Some (Choice bs)
      → (taken ((source d e).decide x f) ≡ 0 → ⊥)
      → said_by (numbered x.name d.top) (Some ((source d e).close x ((source d e).decide x f) 0 None f)) ≡ (source d e).decide x f
