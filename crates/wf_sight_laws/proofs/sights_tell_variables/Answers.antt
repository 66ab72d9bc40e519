use Rattle.wf_layers.specs.Address.{SeenIn}
use Rattle.wf_layers.specs.Definition.{Until}
use Rattle.wf_layers.specs.Variables.{SeenByTest}
use Rattle.wf_meant_laws.specs.Answering.{table_by}
use Rattle.wf_meant_laws.specs.Points.{graph_of, point_of, point_of_test}
use Rattle.wf_sight_laws.proofs.LastLemmas.{told_by_number}
use Rattle.wf_sight_laws.proofs.OpenLemmas.{accesses_there}
use Rattle.wf_sight_laws.proofs.sights_tell_variables.Goals as goal

pub returns-clause-at : goal.returns-clause-at
returns-clause-at c = λ d r none e m answered x kind known informed last k how.
    let meant = table_by d m in
    let a = accesses_there d m (c.numbers_stand_once.ensures d r) known.opens informed.graph x.name x.at informed.after kind
    informed.is_open informed.is_in k how in
    told_by_number d m meant (c.rows_write_what_they_give.ensures d meant answered.whole answered.given) (SeenIn (graph_of d) x)
    known.rows informed.there (point_of d x)
    (c.the_last_writer_is_read.ensures.at_instances d r none m meant answered.whole x) known.store k
    (λ v number. last v (c.numbered_writers_are_in_one_order.ensures.readers d r none m k v number x.name x.at kind a))

pub returns-clause-in_test : goal.returns-clause-in_test
returns-clause-in_test c = λ d r none e m answered u most g j known informed last k how.
    let meant = table_by d m in
    let a = accesses_there d m (c.numbers_stand_once.ensures d r) known.opens informed.graph u.name u.at informed.after (Until most g)
    informed.is_open informed.is_in k how in
    told_by_number d m meant (c.rows_write_what_they_give.ensures d meant answered.whole answered.given)
    (SeenByTest (graph_of d) u.name u.at g j) known.rows informed.there (point_of_test d u j)
    (c.the_last_writer_is_read.ensures.at_tests d r none m meant answered.whole u.name u.at most g j a.is a.instance) known.store k
    (λ v number. last v (c.numbered_writers_are_in_one_order.ensures.readers d r none m k v number u.name u.at (Until most g) a))
