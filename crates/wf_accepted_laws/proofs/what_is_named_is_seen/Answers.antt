use Rattle.wf_known_laws.specs.Layered.{layered}
use Rattle.wf_accepted_laws.proofs.InstanceLemmas.{all-at-addresses}
use Rattle.wf_accepted_laws.proofs.what_is_named_is_seen.Goals as goal

pub returns : goal.returns
returns c = λ d r none.
    let once = c.numbers_stand_once.ensures d r in
    let closed = c.entries_stay_in_their_graph.ensures d r in
    all-at-addresses d (c.what_is_before_is_seen.ensures (layered d.top) once closed)
    (c.what_stands_inside_goes_along.ensures.before (layered d.top) once)
    (c.what_stands_inside_goes_along.ensures.contains (layered d.top) once) (c.references_are_seen.ensures d r none)
