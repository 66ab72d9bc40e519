use Rattle.wf_actions.specs.Meant.{definition_of, environment_of, source}
use Rattle.wf_actions.proofs.pays.are_paid.Goals as goal

pub returns-clause-priced : goal.returns-clause-priced
returns-clause-priced c =
    let a = c.args.actions.now in
    c.runs_cost_what_rows_are_meant.ensures (definition_of a) c.always_read.ensures c.always_checked.ensures.holds (environment_of a)
    (source a) c.are_answered.ensures
