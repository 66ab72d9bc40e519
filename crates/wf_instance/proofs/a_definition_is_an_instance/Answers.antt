use Rattle.std.specs.Prelude.{length}
use Rattle.wf_meant.specs.Layered.{layered}
use Rattle.wf_meant.specs.Names.{graph_names}
use Rattle.wf_instance.proofs.EndLemmas.{ends_alone}
use Rattle.wf_instance.proofs.RuleLemmas.{is_instance}
use Rattle.wf_instance.proofs.a_definition_is_an_instance.Goals as goal

pub returns : goal.returns
returns c = λ d r none e.
    let g = layered d.top in
    let once = c.numbers_stand_once.ensures d r in
    let closed = c.entries_stay_in_their_graph.ensures d r in
    let below = c.numbers_are_below.ensures d r in
    let depths = c.actions_have_depths.ensures d r in
    is_instance d (record {
      once = once;
      closed = closed;
      turns = c.loops_may_turn.ensures d r;
      below = below;
      exact = λ x y. c.order_is_exact.ensures.before (length (graph_names d.top)) g below closed x y;
      along = c.before_is_an_order.ensures.transitive g once closed;
      never = c.before_is_an_order.ensures.never_itself g depths.0 once closed depths.1;
      before_seen = c.what_is_before_is_seen.ensures g once closed;
      seen_inside = c.what_a_container_sees_is_seen_inside.ensures g once;
      inside = c.what_an_until_contains_is_in_its_iterations.ensures.held g once;
      named_seen = c.what_is_named_is_seen.ensures d r none;
      actions = c.standings_are_the_actions.ensures d.top;
      found = c.read_actions_have_their_numbers.ensures d r;
      same = c.names_are_those_named.ensures.same;
      ends = ends_alone d (c.standings_are_the_actions.ensures d.top) (c.ends_stand_in_no_loop.ensures d r none);
    }) (record {
      starts = c.what_an_action_does_is_local.ensures.begun;
      tracks = c.what_an_action_does_is_local.ensures.tracked;
      decides = c.what_a_container_decides_is_local.ensures.decided;
      tests = c.what_a_container_decides_is_local.ensures.tested;
    }) e
