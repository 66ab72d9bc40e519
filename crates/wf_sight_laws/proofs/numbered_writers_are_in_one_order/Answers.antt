use Rattle.wf_sight_laws.proofs.OrderLemmas.{may_read, one_order}
use Rattle.wf_sight_laws.proofs.numbered_writers_are_in_one_order.Goals as goal

pub returns-clause-writers : goal.returns-clause-writers
returns-clause-writers c = λ d r none e m answers rows stand v.
    one_order d m (c.numbers_stand_once.ensures d r) (c.variables_are_in_one_order.ensures d r none)
    c.names_are_those_named.ensures.same e answers rows stand v

pub returns-clause-readers : goal.returns-clause-readers
returns-clause-readers c = λ d r none m k v number n i kind a.
    may_read d m (c.numbers_stand_once.ensures d r) (c.variables_are_in_one_order.ensures d r none)
    c.names_are_those_named.ensures.same k v number n i kind a
