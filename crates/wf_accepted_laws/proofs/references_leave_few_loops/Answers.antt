use Rattle.wf_accepted_laws.proofs.LoopLemmas.{all-leave-few}
use Rattle.wf_accepted_laws.proofs.SeenLemmas.{none-first_broken}
use Rattle.wf_accepted_laws.proofs.references_leave_few_loops.Goals as goal

pub returns : goal.returns
returns c = λ d r none.
    all-leave-few d (c.containers_are_those_of_the_order.ensures d.top (c.numbers_stand_once.ensures d r))
    (c.the_first_broken_rule.ensures.none d (none-first_broken d none)).1.1.1.1.1.1.1.1.1.0
