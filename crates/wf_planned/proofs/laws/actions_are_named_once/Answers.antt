use Rattle.wf_planned.proofs.NamedLemmas.{all_once}
use Rattle.wf_planned.proofs.laws.actions_are_named_once.Goals as goal

pub returns : goal.returns
returns c = λ d r. all_once d.top (c.numbers_stand_once.ensures d r) (c.each_graph_has_depths.ensures d r)
    (c.entries_are_numbered.ensures d r) (c.entries_stand_in_order.ensures d r)
