use Rattle.std.proofs.Common.{ap, ◌∙◌}
use Rattle.wf_standing.specs.Seen.{initialised_found}
use Rattle.wf_standing.proofs.InitialLemmas.{found-without}
use Rattle.wf_standing.proofs.initials.taken.Goals as goal

pub returns-in-Some-clause-rest : goal.returns-in-Some-clause-rest
returns-in-Some-clause-rest c k =
    ap (λ l. initialised_found l k) c.take.ensures.rest
    ∙ found-without c.args.name.now k c.args.variables.now c.as_slice-in_order.ensures.in_order

pub returns-in-None-clause-rest : goal.returns-in-None-clause-rest
returns-in-None-clause-rest c k =
    ap (λ l. initialised_found l k) c.take.ensures.rest
    ∙ found-without c.args.name.now k c.args.variables.now c.as_slice-in_order.ensures.in_order
