use Rattle.wf_events.specs.PlanSeen.{plan_tree}
use Rattle.wf_steps.proofs.BeginLemmas.{begin_goes, begin_is_below, begin_kept, begin_last, few_left}
use Rattle.wf_steps.proofs.state.State.begin.Goals as goal

pub begin_iteration-requires-clause-next : goal.begin_iteration-requires-clause-next
begin_iteration-requires-clause-next g c =
    let s = c.self.inside in
    let a = g.A.Acts in
    let may = rw (← c.self.view_is) at c.requires in
    rw c.in_ok-make_room.ensures.items
    (begin_is_below a.row_tree a.begun_tree a.decision_tree a.verdict_tree (a.graph s.acts.now) (a.source s.acts.now)
    (a.depth s.acts.now) (a.writes s.acts.now) s.rows.0 s.running.0 s.opens.0 s.store.0 s.waits.0 s.lacks.0 s.ready.0
    c.self.invariant.1 c.args.place.now may (plan_tree s.plan.now) c.self.invariant.0)

pub begin_iteration-requires-clause-unfinished : goal.begin_iteration-requires-clause-unfinished
begin_iteration-requires-clause-unfinished g c =
    let s = c.self.inside in
    let a = g.A.Acts in
    let may = rw (← c.self.view_is) at c.requires in
    rw c.in_ok-make_room.ensures.items
    (few_left a.row_tree a.begun_tree a.decision_tree a.verdict_tree (a.graph s.acts.now) (a.source s.acts.now)
    (a.depth s.acts.now) (a.writes s.acts.now) s.rows.0 s.running.0 s.opens.0 s.store.0 s.waits.0 s.lacks.0 s.ready.0
    c.self.invariant.1 c.args.place.now may (plan_tree s.plan.now) c.self.invariant.0)

pub enter_graph-requires-clause-last : goal.enter_graph-requires-clause-last
enter_graph-requires-clause-last g c =
    let s = c.self.inside in
    let a = g.A.Acts in
    let may = rw (← c.self.view_is) at c.requires in
    begin_last a.row_tree a.begun_tree a.decision_tree a.verdict_tree (a.graph s.acts.now) (a.source s.acts.now)
    (a.depth s.acts.now) (a.writes s.acts.now) s.rows.0 s.running.0 s.opens.0 s.store.0 s.waits.0 s.lacks.0 s.ready.0
    c.self.invariant.1 c.args.place.now may (plan_tree s.plan.now) c.self.invariant.0
    (rw c.in_ok-make_room.ensures.items at c.begin_iteration.ensures.in_order)
    c.next_index-next.result c.next_index-next.ensures c.in_ok-entering.entering
    c.in_ok-entering.ensures
    c.begin_iteration.new.opens.0 (rw c.in_ok-make_room.ensures.items at c.begin_iteration.ensures.opens)

pub invariant_of-self-2 : goal.invariant_of-self-2
invariant_of-self-2 g c =
    let s = c.self.inside in
    let a = g.A.Acts in
    let may = rw (← c.self.view_is) at c.requires in
    let looks = rw (c.begin_iteration.ensures.opens, c.in_ok-make_room.ensures.items, c.in_ok-make_room-2.ensures.ready)
    at c.enter_graph.ensures.events in
    rw (c.begin_iteration.ensures.opens, c.in_ok-make_room.ensures.items) (
      c.self.invariant.0,
      begin_kept a.row_tree a.begun_tree a.decision_tree a.verdict_tree (a.graph s.acts.now) (a.source s.acts.now)
          (a.depth s.acts.now) (a.writes s.acts.now) s.rows.0 s.running.0 s.opens.0 s.store.0 s.waits.0 s.lacks.0 s.ready.0
          c.self.invariant.1 c.args.place.now may (plan_tree s.plan.now) c.self.invariant.0
          (rw c.in_ok-make_room.ensures.items at c.begin_iteration.ensures.in_order)
          c.next_index-next.result c.next_index-next.ensures c.in_ok-entering.entering
          c.in_ok-entering.ensures
          c.enter_graph.new.waits.0 c.enter_graph.new.lacks.0 c.enter_graph.new.ready.0
          (rw c.in_ok-make_room-2.ensures.waits at c.enter_graph.ensures.waits)
          (rw c.in_ok-make_room-2.ensures.lacks at c.enter_graph.ensures.lacks) looks,
    )

pub returns-clause-ok : goal.returns-clause-ok
returns-clause-ok g c =
    let s = c.self.inside in
    let a = g.A.Acts in
    let may = rw (← c.self.view_is) at c.requires in
    rw (← c.self.view_is, c.begin_iteration.ensures.opens, c.in_ok-make_room.ensures.items)
    (begin_goes a.row_tree a.begun_tree a.decision_tree a.verdict_tree (a.graph s.acts.now) (a.source s.acts.now)
    (a.depth s.acts.now) (a.writes s.acts.now) s.rows.0 s.running.0 s.opens.0 s.store.0 s.waits.0 s.lacks.0 s.ready.0
    c.self.invariant.1 c.args.place.now may (plan_tree s.plan.now) c.self.invariant.0
    (rw c.in_ok-make_room.ensures.items at c.begin_iteration.ensures.in_order))
