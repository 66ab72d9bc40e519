-- The record of a table in two environments that were started alike and tell the section `outputs` the same.
use Rattle.std.proofs.Common.{◌≡◌, [], Option, Some, None, codes, refl, ap}
use Rattle.wf_layers.specs.Address.{Table}
use Rattle.wf_look.specs.Told.{Told}
use Rattle.wf_def.specs.ActionTree.{actions_in}
use Rattle.wf_def.specs.DefTree.{DefTree}
use Rattle.wf_record.specs.Record.{Row}
use Rattle.wf_environment.specs.Ending.{Ending, ending, section}
use Rattle.wf_environment.specs.Environment.{Environment, last_facts}
use Rattle.wf_turns.specs.Containers.{is_terminate}
use Rattle.wf_turns.specs.Look.{told_to_outputs}
use Rattle.wf_turns.specs.Points.{point_of_outputs}
use Rattle.wf_turns.specs.Record.{ending_by, first_succeeded, record_of_table}
use Rattle.wf_turns.specs.Status.{graph_status}
use Rattle.wf_anew.specs.Same.{SameWords}
use Rattle.wf_anew.proofs.ToldLemmas.{SameStart, told_same}

module _ (d : DefTree) (e e' : Environment) (start : SameStart e.start e'.start) (last : SameWords (last_facts e) (last_facts e'))
    (known : Table Row) where
  outputs_same : told_to_outputs d e known ≡ told_to_outputs d e' known
  outputs_same =
      told_same d e.start e'.start (last_facts e) (last_facts e') start last (codes "@outputs") (point_of_outputs d) [] None known

  ended_same : (o : Option Row) → ending_by d e known o ≡ ending_by d e' known o
  ended_same None = ap (λ (l : Told). ending (graph_status (actions_in d.top) [] known) (section l d.outputs)) outputs_same
  ended_same (Some row) = refl

  pub record_same : record_of_table d e known ≡ record_of_table d e' known
  record_same = λ i. let end : Ending = ended_same (first_succeeded d is_terminate known) i in
      record (record_of_table d e known) {
        run = last.run i;
        trigger = start.trigger i;
        parameters = start.parameters i;
        status = end.status;
        error = end.error;
        outputs = end.outputs;
      }
