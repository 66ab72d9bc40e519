use Rattle.std.proofs.Common.{arith}
use Rattle.wf_catalog.specs.Answering.{table_by}
use Rattle.wf_actions.specs.Meant.{definition_of, environment_of, source}
use Rattle.wf_actions.proofs.laws.runs_cost_no_more_than_their_records.Goals as goal

pub returns : goal.returns
returns c = λ a.
    let costs = c.a_record_costs_its_rows.ensures (definition_of a) (environment_of a) (table_by (definition_of a) (source a)) in
    omega (arith, costs)
