use Rattle.wf_meant_laws.proofs.AccessLemmas.{have_order, one_order}
use Rattle.wf_meant_laws.proofs.writers_are_in_one_order.Goals as goal

pub returns-clause-writers : goal.returns-clause-writers
returns-clause-writers c = λ d r none e m answers rows stand v.
    one_order d m (c.numbers_stand_once.ensures d r)
    (c.variables_are_in_one_order.ensures d r none) c.names_are_those_named.ensures.same rows
    stand e answers v

pub returns-clause-readers : goal.returns-clause-readers
returns-clause-readers c = λ d r none m rows stand.
    have_order d m (c.numbers_stand_once.ensures d r) (c.variables_are_in_one_order.ensures d r none)
    c.names_are_those_named.ensures.same rows stand
