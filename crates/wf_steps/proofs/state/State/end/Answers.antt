use Rattle.std.proofs.Common.{◌∙◌}
use Rattle.wf_events.specs.Known.{store_in}
use Rattle.wf_events.specs.PlanSeen.{plan_tree}
use Rattle.wf_steps.proofs.EndLemmas.{end_goes, end_is_informed, end_kept, none_ends}
use Rattle.wf_steps.proofs.state.State.end.Goals as goal

pub ending-requires : goal.ending-requires
ending-requires g c =
    let s = c.self.inside in
    let a = g.A.Acts in
    let may = rw (← c.self.view_is) at c.requires in
    end_is_informed a.row_tree a.begun_tree a.decision_tree a.verdict_tree (a.graph s.acts.now) (a.source s.acts.now)
    (a.depth s.acts.now) (a.writes s.acts.now) s.rows.0 s.running.0 s.opens.0 s.store.0 s.waits.0 s.lacks.0 s.ready.0
    c.self.invariant.1 c.args.place.now may c.in-Some.leaf.now c.in-Some.ensures

pub invariant_of-self-in-Some : goal.invariant_of-self-in-Some
invariant_of-self-in-Some g c =
    let s = c.self.inside in
    let a = g.A.Acts in
    let may = rw (← c.self.view_is) at c.requires in
    rw (c.put.ensures.items, c.in_ok-ending-in-Some.ensures.place, c.in_ok-make_room-in-Some.ensures.rows, c.take_leaf.ensures.rest) (
      c.self.invariant.0,
      end_kept a.row_tree a.begun_tree a.decision_tree a.verdict_tree (a.graph s.acts.now) (a.source s.acts.now)
          (a.depth s.acts.now) (a.writes s.acts.now) s.rows.0 s.running.0 s.opens.0 s.store.0 s.waits.0 s.lacks.0 s.ready.0
          c.self.invariant.1 c.args.place.now may c.in-Some.leaf.now c.in-Some.ensures c.take_leaf.ensures.in_order
          c.in_ok-ending-in-Some.ending.row c.in_ok-ending-in-Some.ensures.row c.count_and_settle.new.opens.0
          (rw c.in_ok-make_room-in-Some.ensures.opens at c.count_and_settle.ensures.opens) (plan_tree s.plan.now) c.self.invariant.0
          c.put_writers.new.store.0
          (λ v. (rw c.in_ok-make_room-in-Some-2.ensures.items at (c.put_writers.ensures v))
          ∙ c.in_ok-ending-in-Some.ensures.writers (store_in s.store.0) v)
          c.count_and_settle.new.waits.0 c.count_and_settle.new.lacks.0 c.count_and_settle.new.ready.0
          (rw (
            c.put.ensures.items,
            c.in_ok-ending-in-Some.ensures.place,
            c.in_ok-make_room-in-Some.ensures.rows,
            c.in_ok-make_room-in-Some.ensures.opens,
            c.in_ok-make_room-in-Some.ensures.ready,
          ) at c.count_and_settle.ensures.settled),
    )

pub returns-in_ok-make_room-in-Some-2-clause-ok : goal.returns-in_ok-make_room-in-Some-2-clause-ok
returns-in_ok-make_room-in-Some-2-clause-ok g c =
    let s = c.self.inside in
    let a = g.A.Acts in
    let may = rw (← c.self.view_is) at c.requires in
    rw (
      ← c.self.view_is,
      c.put.ensures.items,
      c.in_ok-ending-in-Some.ensures.place,
      c.in_ok-make_room-in-Some.ensures.rows,
      c.take_leaf.ensures.rest,
    )
    (end_goes a.row_tree a.begun_tree a.decision_tree a.verdict_tree (a.graph s.acts.now) (a.source s.acts.now)
    (a.depth s.acts.now) (a.writes s.acts.now) s.rows.0 s.running.0 s.opens.0 s.store.0 s.waits.0 s.lacks.0 s.ready.0
    c.self.invariant.1 c.args.place.now may c.in-Some.leaf.now c.in-Some.ensures c.take_leaf.ensures.in_order
    c.in_ok-ending-in-Some.ending.row c.in_ok-ending-in-Some.ensures.row c.count_and_settle.new.opens.0
    (rw c.in_ok-make_room-in-Some.ensures.opens at c.count_and_settle.ensures.opens))

pub returns-in-None-clause-ok : goal.returns-in-None-clause-ok
returns-in-None-clause-ok g c =
    let s = c.self.inside in
    let a = g.A.Acts in
    let may = rw (← c.self.view_is) at c.requires in
    absurd (none_ends a.row_tree a.begun_tree a.decision_tree a.verdict_tree (a.graph s.acts.now) (a.source s.acts.now)
    (a.depth s.acts.now) (a.writes s.acts.now) s.rows.0 s.running.0 s.opens.0 s.store.0 s.waits.0 s.lacks.0 s.ready.0
    c.self.invariant.1 c.args.place.now may c.in-None.ensures)
