use Rattle.wf_accepted_laws.proofs.LoopLemmas.{all-ask}
use Rattle.wf_accepted_laws.proofs.SeenLemmas.{none-first_broken}
use Rattle.wf_accepted_laws.proofs.loops_asked_of_are_round.Goals as goal

pub returns : goal.returns
returns c = λ d r none.
    all-ask d (c.containers_are_those_of_the_order.ensures d.top (c.numbers_stand_once.ensures d r))
    (c.the_first_broken_rule.ensures.none d (none-first_broken d none)).1.1.1.1.1.0
