use Rattle.wf_events.specs.PlanSeen.{plan_tree}
use Rattle.wf_steps.proofs.OpeningLemmas.{decide_is_anew, decide_is_informed, open_goes, open_kept, open_last}
use Rattle.wf_steps.proofs.state.State.open_up.Goals as goal

pub decide-requires : goal.decide-requires
decide-requires g c =
    let s = c.self.inside in
    let a = g.A.Acts in
    let may = rw (← c.self.view_is) at c.requires in record {
      informed = decide_is_informed a.row_tree a.begun_tree a.decision_tree a.verdict_tree (a.graph s.acts.now) (a.source s.acts.now)
          (a.depth s.acts.now) (a.writes s.acts.now) s.rows.0 s.running.0 s.opens.0 s.store.0 s.waits.0 s.lacks.0 s.ready.0
          c.self.invariant.1 c.args.place.now may c.is_instance.ensures.ordered;
      anew = decide_is_anew a.row_tree a.begun_tree a.decision_tree a.verdict_tree (a.graph s.acts.now) (a.source s.acts.now)
          (a.depth s.acts.now) (a.writes s.acts.now) s.rows.0 s.running.0 s.opens.0 s.store.0 s.waits.0 s.lacks.0 s.ready.0
          c.self.invariant.1 c.args.place.now may;
    }

pub enter_graph-requires-clause-last : goal.enter_graph-requires-clause-last
enter_graph-requires-clause-last g c =
    let s = c.self.inside in
    let a = g.A.Acts in
    let may = rw (← c.self.view_is) at c.requires in
    open_last a.row_tree a.begun_tree a.decision_tree a.verdict_tree (a.graph s.acts.now) (a.source s.acts.now)
    (a.depth s.acts.now) (a.writes s.acts.now) s.rows.0 s.running.0 s.opens.0 s.store.0 s.waits.0 s.lacks.0 s.ready.0
    c.self.invariant.1 c.args.place.now may (plan_tree s.plan.now) c.self.invariant.0
    c.in_ok-decision.decision c.in_ok-decision.ensures c.taken-taken.result c.taken-taken.ensures c.in_ok-passed.passed.items
    c.in_ok-passed.ensures
    c.in_ok-entering.entering c.in_ok-entering.ensures c.put.new.self.0
    (rw (c.in_ok-make_room-2.ensures.items, c.in_ok-instance.ensures) at c.put.ensures.items)

pub invariant_of-self-2 : goal.invariant_of-self-2
invariant_of-self-2 g c =
    let s = c.self.inside in
    let a = g.A.Acts in
    let may = rw (← c.self.view_is) at c.requires in
    let looks = rw (
      c.put_rows.ensures,
      c.in_ok-make_room.ensures.items,
      c.put.ensures.items,
      c.in_ok-make_room-2.ensures.items,
      c.in_ok-instance.ensures,
      c.in_ok-make_room-3.ensures.ready,
    ) at c.enter_graph.ensures.events in
    rw (
      c.put_rows.ensures,
      c.in_ok-make_room.ensures.items,
      c.put.ensures.items,
      c.in_ok-make_room-2.ensures.items,
      c.in_ok-instance.ensures,
    ) (
      c.self.invariant.0,
      open_kept a.row_tree a.begun_tree a.decision_tree a.verdict_tree (a.graph s.acts.now) (a.source s.acts.now)
          (a.depth s.acts.now) (a.writes s.acts.now) s.rows.0 s.running.0 s.opens.0 s.store.0 s.waits.0 s.lacks.0 s.ready.0
          c.self.invariant.1 c.args.place.now may (plan_tree s.plan.now) c.self.invariant.0
          c.in_ok-decision.decision c.in_ok-decision.ensures c.taken-taken.result c.taken-taken.ensures c.in_ok-passed.passed.items
          c.in_ok-passed.ensures
          c.in_ok-entering.entering c.in_ok-entering.ensures c.enter_graph.new.waits.0 c.enter_graph.new.lacks.0 c.enter_graph.new.ready.0
          (rw c.in_ok-make_room-3.ensures.waits at c.enter_graph.ensures.waits)
          (rw c.in_ok-make_room-3.ensures.lacks at c.enter_graph.ensures.lacks) looks,
    )

pub returns-clause-ok : goal.returns-clause-ok
returns-clause-ok g c =
    let s = c.self.inside in
    let a = g.A.Acts in
    let may = rw (← c.self.view_is) at c.requires in
    rw (
      ← c.self.view_is,
      c.put_rows.ensures,
      c.in_ok-make_room.ensures.items,
      c.put.ensures.items,
      c.in_ok-make_room-2.ensures.items,
      c.in_ok-instance.ensures,
    )
    (open_goes a.row_tree a.begun_tree a.decision_tree a.verdict_tree (a.graph s.acts.now) (a.source s.acts.now)
    (a.depth s.acts.now) (a.writes s.acts.now) s.rows.0 s.running.0 s.opens.0 s.store.0 s.waits.0 s.lacks.0 s.ready.0
    c.self.invariant.1 c.args.place.now may (plan_tree s.plan.now) c.self.invariant.0
    c.in_ok-decision.decision c.in_ok-decision.ensures c.taken-taken.result c.taken-taken.ensures c.in_ok-passed.passed.items
    c.in_ok-passed.ensures)
