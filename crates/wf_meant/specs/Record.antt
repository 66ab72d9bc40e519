-- WHAT A DEFINITION MEANS: the record that a run of it leaves.
use Rattle.std.specs.Prelude.{ℕ, Bool, true, false, ◌&&◌, List, [], ◌∷◌, length, flat_map, filter, filter_map, count_by, Option, None, Some}
use Rattle.std.specs.Prelude.{option_map, codes, if◌then◌else◌}
use Rattle.wf_val.specs.Get.{get}
use Rattle.wf_val.specs.ValueTree.{ValueTree, null, object, no_members}
use Rattle.wf_refs.specs.Looked.{or_null}
use Rattle.wf_refs.specs.Address.{Address, Table, address}
use Rattle.wf_refs.specs.ActionTree.{ActionTree, action_kind, action_number, KindTree, response, actions_in}
use Rattle.wf_refs.specs.AllActions.{all_actions}
use Rattle.wf_refs.specs.DefTree.{DefTree}
use Rattle.wf_refs.specs.Names.{graph_names}
use Rattle.wf_environment.specs.Record.{RecordTree, Row, RowTree}
use Rattle.wf_environment.specs.RunStatus.{RunStatus}
use Rattle.wf_says.specs.Simple.{run_status_of}
use Rattle.wf_environment.specs.Ending.{Ending, ending, section}
use Rattle.wf_environment.specs.Environment.{Environment, last_facts}
use Rattle.wf_meant.specs.Containers.{has_succeeded, is_terminate}
use Rattle.wf_meant.specs.Look.{instance, told_to_outputs}
use Rattle.wf_meant.specs.Points.{is_before, point_of_outputs}
use Rattle.wf_meant.specs.References.{upto}
use Rattle.wf_meant.specs.Source.{table_of}
use Rattle.wf_meant.specs.Status.{graph_status}
use Rattle.wf_meant.specs.Variables.{instances_at}

-- ---- rows

abbrev pub row_at : DefTree → Table Row → Address → Option RowTree
row_at d known x = option_map (λ row. record { address = instance d x; row = row }) (known x)

-- in the order of their addresses: the numbers of actions go by their names, and the instances of one by their indexes
abbrev pub rows_of : DefTree → Table Row → List RowTree
rows_of d known =
    flat_map (λ n. filter_map (row_at d known) (instances_at d (point_of_outputs d) known n)) (upto (length (graph_names d.top)))

-- ---- what ends a run, and what it responds

-- of actions outside of loops the first in the order
abbrev pub sooner : DefTree → Option ActionTree → ActionTree → Option ActionTree
sooner d None a = Some a
sooner d (Some best) a = if is_before d (action_number a) (action_number best) then Some a else Some best

abbrev pub first_from : DefTree → Option ActionTree → List ActionTree → Option ActionTree
first_from d best [] = best
first_from d best (a ∷ as') = first_from d (sooner d best a) as'

abbrev pub row_outside : Table Row → ActionTree → Option Row
row_outside known a = known (address (action_number a) [])

abbrev pub row_found : Table Row → Option ActionTree → Option Row
row_found known None = None
row_found known (Some a) = row_outside known a

-- the row of the first of a kind that has Succeeded
abbrev pub first_succeeded : DefTree → (KindTree → Bool) → Table Row → Option Row
first_succeeded d is known =
    row_found known (first_from d None (filter (λ a. is (action_kind a) && has_succeeded (row_outside known a)) (all_actions d.top)))

abbrev pub is_response : KindTree → Bool
is_response (response inputs) = true
is_response kind = false

-- the outputs of the first Response, or null where none Succeeded
abbrev pub responded : Option Row → ValueTree
responded None = null
responded (Some row) = row.outputs

-- A Terminate that Succeeded gives the run its status, and where that is Failed the error that it has.
abbrev pub error_given : RunStatus → ValueTree → ValueTree
error_given RunStatus.Failed inputs = or_null (get (codes "runError") inputs)
error_given status inputs = null

abbrev pub ended_by : Option RunStatus → ValueTree → Ending
ended_by None inputs = record { status = RunStatus.Failed; error = null; outputs = object no_members }
ended_by (Some status) inputs = record { status = status; error = error_given status inputs; outputs = object no_members }

-- Else it ends as the graph at the top does, and gives out the section `outputs`, which is evaluated last, also where the graph Failed.
abbrev pub plain_ending : DefTree → Environment → Table Row → Ending
plain_ending d e known = ending (graph_status (actions_in d.top) [] known) (section (told_to_outputs d e known) d.outputs)

abbrev pub ending_by : DefTree → Environment → Table Row → Option Row → Ending
ending_by d e known None = plain_ending d e known
ending_by d e known (Some row) = ended_by (run_status_of row.inputs) row.inputs

abbrev pub ending_of : DefTree → Environment → Table Row → Ending
ending_of d e known = ending_by d e known (first_succeeded d is_terminate known)

-- ---- the record

-- of a run whose actions have these rows
abbrev pub record_of_table : DefTree → Environment → Table Row → RecordTree
record_of_table d e known = let end : Ending = ending_of d e known in record {
  run = (last_facts e).run;
  digest = d.digest;
  trigger = e.start.trigger;
  parameters = e.start.parameters;
  status = end.status;
  error = end.error;
  response = responded (first_succeeded d is_response known);
  outputs = end.outputs;
  rows = rows_of d known;
}

-- Depths: how many actions are before an action. They fall along every entry of a `runAfter`, as being before is an order.
abbrev pub depth_of : DefTree → ℕ → ℕ
depth_of d n = count_by (λ m. is_before d m n) (upto (length (graph_names d.top)))

unfoldable pub meaning : DefTree → Environment → RecordTree
meaning d e = record_of_table d e (table_of d e (depth_of d))
