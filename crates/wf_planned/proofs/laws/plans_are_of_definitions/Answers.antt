use Rattle.std.proofs.Common.{ℕ, ◌<◌, subst}
use Rattle.wf_planned.proofs.PlannedLemmas.{as_many, times_once}
use Rattle.wf_planned.proofs.laws.plans_are_of_definitions.Goals as goal

pub returns : goal.returns
returns c = λ d r.
    let once = c.numbers_stand_once.ensures d r in
    let names = c.actions_are_named_once.ensures d r in record {
      plan = c.plans_are_of_their_graphs.ensures d.top once
          (λ n there. subst (λ (m : ℕ). n < m) (as_many d.top) (c.numbers_are_below.ensures d r n there)) names;
      names_once = times_once d.top once names;
    }
