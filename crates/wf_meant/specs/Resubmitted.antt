-- WHAT A RESUBMISSION MEANS: the record of a run that does a set of actions of an older run anew, and all that depends on them.
use Rattle.std.specs.Prelude.{ℕ, Bool, List, Option, None, Some, Ok, option_map, nat_eq}
use Rattle.std.specs.List.{list_any}
use Rattle.wf_refs.specs.Address.{Address, Table}
use Rattle.wf_refs.specs.Meaning as layered_meaning
use Rattle.wf_refs.specs.Redo.{closed_again, redone}
use Rattle.wf_refs.specs.Resubmission.{pin}
use Rattle.wf_refs.specs.Source.{Source}
use Rattle.wf_refs.specs.ActionTree.{ActionTree, action_kind, KindTree, branch, switch, switch_else}
use Rattle.wf_refs.specs.AllActions.{numbered}
use Rattle.wf_refs.specs.DefTree.{DefTree}
use Rattle.wf_done.specs.Inputs.{InputsTree}
use Rattle.wf_environment.specs.Record.{RecordTree, Row, RowTree, find_row}
use Rattle.wf_says.specs.Decisions.{DecisionTree, nothing, chosen_as, held_as}
use Rattle.wf_says.specs.Verdicts.{VerdictTree}
use Rattle.wf_done.specs.Leaf.{BegunTree}
use Rattle.wf_environment.specs.Environment.{Environment, fresh}
use Rattle.wf_meant.specs.Look.{instance}
use Rattle.wf_meant.specs.Points.{graph_of}
use Rattle.wf_meant.specs.Record.{depth_of, record_of_table}
use Rattle.wf_meant.specs.Source.{source}

-- the rows of a record, by the numbers of their actions
abbrev pub rows_by : DefTree → List RowTree → Table Row
rows_by d rows x = option_map (λ r. r.row) (find_row (instance d x) rows)

-- What the row of a container says that it decided, by what it kept. A Scope decides nothing, and no loop is closed again.
abbrev pub said : KindTree → Row → DecisionTree
said (branch test yes' no') row = held_as (Ok row.inputs)
said (switch on cases) row = chosen_as cases (Ok row.inputs)
said (switch_else on cases default) row = chosen_as cases (Ok row.inputs)
said kind row = nothing

abbrev pub said_by : Option ActionTree → Option Row → DecisionTree
said_by None row = nothing
said_by (Some a) None = nothing
said_by (Some a) (Some row) = said (action_kind a) row

abbrev pub recalled : DefTree → List RowTree → Address → DecisionTree
recalled d rows x = said_by (numbered x.name d.top) (rows_by d rows x)

-- It goes by the new inputs; but the trigger and the parameters are those of the older run.
abbrev pub resubmitted : RecordTree → InputsTree → Environment
resubmitted r i = fresh (record { run = i.run; seed = i.seed; trigger = r.trigger; parameters = r.parameters }) i

-- of the actions of these numbers
abbrev pub is_chosen : List ℕ → ℕ → Bool
is_chosen from n = list_any (nat_eq n) from

-- What is redone starts anew, the containers round it are closed again with what they had decided, and all other rows are kept.
abbrev pub pinned_source : DefTree → RecordTree → InputsTree → List ℕ → Source Row BegunTree DecisionTree VerdictTree
pinned_source d r i from =
    pin (source d (resubmitted r i)) (source d (resubmitted r i)) (redone (graph_of d) (depth_of d) (is_chosen from))
    (closed_again (graph_of d) (depth_of d) (is_chosen from)) (rows_by d r.rows) (recalled d r.rows)

abbrev pub pinned_table : DefTree → RecordTree → InputsTree → List ℕ → Table Row
pinned_table d r i from = layered_meaning.meaning (pinned_source d r i from) (depth_of d) (graph_of d)

unfoldable pub pinned : DefTree → RecordTree → InputsTree → List ℕ → RecordTree
pinned d r i from = record_of_table d (resubmitted r i) (pinned_table d r i from)
