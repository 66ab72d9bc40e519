use Rattle.std.specs.Prelude.{length}
use Rattle.wf_meant.specs.Layered.{layered}
use Rattle.wf_meant.specs.Names.{graph_names}
use Rattle.wf_instance.proofs.DepthLemmas.{depths_fall}
use Rattle.wf_instance.proofs.depths_are_how_many_are_before.Goals as goal

pub returns : goal.returns
returns c = λ d r.
    let g = layered d.top in
    let once = c.numbers_stand_once.ensures d r in
    let closed = c.entries_stay_in_their_graph.ensures d r in
    let below = c.numbers_are_below.ensures d r in
    let depths = c.actions_have_depths.ensures d r in
    depths_fall d closed (λ x y. c.order_is_exact.ensures.before (length (graph_names d.top)) g below closed x y)
    (c.before_is_an_order.ensures.transitive g once closed)
    (c.before_is_an_order.ensures.never_itself g depths.0 once closed depths.1) below
