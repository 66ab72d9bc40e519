use Rattle.wf_events.specs.PlanSeen.{plan_tree}
use Rattle.wf_steps.proofs.TestLemmas.{index_is, none_open, test_leads, test_is_informed, test_kept}
use Rattle.wf_steps.proofs.state.State.test.Goals as goal

pub test-requires : goal.test-requires
test-requires g c =
    let s = c.self.inside in
    let a = g.A.Acts in
    let may = rw (← c.self.view_is) at c.requires in record {
      informed = test_is_informed a.row_tree a.begun_tree a.decision_tree a.verdict_tree (a.graph s.acts.now) (a.source s.acts.now)
          (a.depth s.acts.now) (a.writes s.acts.now) s.rows.0 s.running.0 s.opens.0 s.store.0 s.waits.0 s.lacks.0 s.ready.0
          c.self.invariant.1 c.args.place.now may c.is_instance.ensures.ordered c.saturating_sub.result
          (index_is a.row_tree a.begun_tree a.decision_tree a.verdict_tree (a.graph s.acts.now) (a.source s.acts.now)
          (a.depth s.acts.now) (a.writes s.acts.now) s.rows.0 s.running.0 s.opens.0 s.store.0 s.waits.0 s.lacks.0 s.ready.0
          c.self.invariant.1 c.args.place.now may
          c.next_index-next.result c.saturating_sub.result c.next_index-next.ensures c.saturating_sub.ensures);
    }

pub invariant_of-self-in-Some : goal.invariant_of-self-in-Some
invariant_of-self-in-Some g c =
    let s = c.self.inside in
    let a = g.A.Acts in
    let may = rw (← c.self.view_is) at c.requires in
    let looks = rw (c.in_ok-itself.ensures, c.in_ok-make_room-2.ensures.items) at c.set_event.ensures.events in
    rw (c.put.ensures.items, c.with_test.ensures, c.in-Some.ensures.rest, c.in_ok-make_room.ensures.items) (
      c.self.invariant.0,
      test_kept a.row_tree a.begun_tree a.decision_tree a.verdict_tree (a.graph s.acts.now) (a.source s.acts.now)
          (a.depth s.acts.now) (a.writes s.acts.now) s.rows.0 s.running.0 s.opens.0 s.store.0 s.waits.0 s.lacks.0 s.ready.0
          c.self.invariant.1 c.args.place.now may (rw c.in_ok-make_room.ensures.items at c.in-Some.ensures.in_order) c.in-Some.open
          (rw c.in_ok-make_room.ensures.items at c.in-Some.ensures.item) c.in_ok-verdict.verdict c.saturating_sub.result
          (index_is a.row_tree a.begun_tree a.decision_tree a.verdict_tree (a.graph s.acts.now) (a.source s.acts.now)
          (a.depth s.acts.now) (a.writes s.acts.now) s.rows.0 s.running.0 s.opens.0 s.store.0 s.waits.0 s.lacks.0 s.ready.0
          c.self.invariant.1 c.args.place.now may
          c.next_index-next.result c.saturating_sub.result c.next_index-next.ensures c.saturating_sub.ensures) c.in_ok-verdict.ensures
          (plan_tree s.plan.now) c.self.invariant.0 c.next_index-next.result c.next_index-next.ensures c.count_of.result c.count_of.ensures
          c.tested_kind-kind.result c.tested_kind-kind.ensures c.set_event.new.ready.0 looks,
    )

pub returns-in-Some-clause-ok : goal.returns-in-Some-clause-ok
returns-in-Some-clause-ok g c =
    let s = c.self.inside in
    let a = g.A.Acts in
    let may = rw (← c.self.view_is) at c.requires in
    rw (← c.self.view_is)
    (test_leads a.row_tree a.begun_tree a.decision_tree a.verdict_tree (a.graph s.acts.now) (a.source s.acts.now)
    (a.depth s.acts.now) (a.writes s.acts.now) s.rows.0 s.running.0 s.opens.0 s.store.0 s.waits.0 s.lacks.0 s.ready.0
    c.self.invariant.1 c.args.place.now may (rw c.in_ok-make_room.ensures.items at c.in-Some.ensures.in_order) c.in-Some.open
    (rw c.in_ok-make_room.ensures.items at c.in-Some.ensures.item) c.in_ok-verdict.verdict c.saturating_sub.result
    (index_is a.row_tree a.begun_tree a.decision_tree a.verdict_tree (a.graph s.acts.now) (a.source s.acts.now)
    (a.depth s.acts.now) (a.writes s.acts.now) s.rows.0 s.running.0 s.opens.0 s.store.0 s.waits.0 s.lacks.0 s.ready.0
    c.self.invariant.1 c.args.place.now may
    c.next_index-next.result c.saturating_sub.result c.next_index-next.ensures c.saturating_sub.ensures) c.in_ok-verdict.ensures
    c.put.new.self.0 (rw (c.with_test.ensures, c.in-Some.ensures.rest, c.in_ok-make_room.ensures.items) at c.put.ensures.items))

pub invariant_of-self-in-None-1 : goal.invariant_of-self-in-None-1
invariant_of-self-in-None-1 g c =
    let s = c.self.inside in
    let a = g.A.Acts in
    let may = rw (← c.self.view_is) at c.requires in
    absurd (none_open a.row_tree a.begun_tree a.decision_tree a.verdict_tree (a.graph s.acts.now) (a.source s.acts.now)
    (a.depth s.acts.now) (a.writes s.acts.now) s.rows.0 s.running.0 s.opens.0 s.store.0 s.waits.0 s.lacks.0 s.ready.0
    c.self.invariant.1 c.args.place.now may (rw c.in_ok-make_room.ensures.items at c.in-None.ensures.item))

pub returns-in-None-clause-ok : goal.returns-in-None-clause-ok
returns-in-None-clause-ok g c =
    let s = c.self.inside in
    let a = g.A.Acts in
    let may = rw (← c.self.view_is) at c.requires in
    absurd (none_open a.row_tree a.begun_tree a.decision_tree a.verdict_tree (a.graph s.acts.now) (a.source s.acts.now)
    (a.depth s.acts.now) (a.writes s.acts.now) s.rows.0 s.running.0 s.opens.0 s.store.0 s.waits.0 s.lacks.0 s.ready.0
    c.self.invariant.1 c.args.place.now may (rw c.in_ok-make_room.ensures.items at c.in-None.ensures.item))
