use Rattle.wf_events.specs.PlanSeen.{plan_tree}
use Rattle.wf_steps.proofs.SkipLemmas.{skip_goes, skip_kept}
use Rattle.wf_steps.proofs.state.State.skip.Goals as goal

pub invariant_of-self-2 : goal.invariant_of-self-2
invariant_of-self-2 g c =
    let s = c.self.inside in
    let a = g.A.Acts in
    let may = rw (← c.self.view_is) at c.requires in (
      c.self.invariant.0,
      skip_kept a.row_tree a.begun_tree a.decision_tree a.verdict_tree (a.graph s.acts.now) (a.source s.acts.now) (a.depth s.acts.now)
          (a.writes s.acts.now) s.rows.0 s.running.0 s.opens.0 s.store.0 s.waits.0 s.lacks.0 s.ready.0 c.self.invariant.1 c.args.place.now
          may (plan_tree s.plan.now) c.self.invariant.0 c.in_ok-skipping.skipping.block.items c.in_ok-skipping.ensures.block
          c.put_rows.new.rows.0 (rw (c.in_ok-make_room-2.ensures.items, c.in_ok-make_room.ensures.rows) at c.put_rows.ensures)
          c.count_and_settle.new.opens.0 (rw c.in_ok-make_room.ensures.opens at c.count_and_settle.ensures.opens)
          c.count_and_settle.new.waits.0 c.count_and_settle.new.lacks.0 c.count_and_settle.new.ready.0
          (rw (c.in_ok-make_room.ensures.opens, c.in_ok-make_room.ensures.ready) at c.count_and_settle.ensures.settled),
    )

pub returns-clause-ok : goal.returns-clause-ok
returns-clause-ok g c =
    let s = c.self.inside in
    let a = g.A.Acts in
    let may = rw (← c.self.view_is) at c.requires in
    rw (← c.self.view_is)
    (skip_goes a.row_tree a.begun_tree a.decision_tree a.verdict_tree (a.graph s.acts.now) (a.source s.acts.now) (a.depth s.acts.now)
    (a.writes s.acts.now) s.rows.0 s.running.0 s.opens.0 s.store.0 s.waits.0 s.lacks.0 s.ready.0 c.self.invariant.1 c.args.place.now may
    (plan_tree s.plan.now) c.self.invariant.0 c.in_ok-skipping.skipping.block.items c.in_ok-skipping.ensures.block c.put_rows.new.rows.0
    (rw (c.in_ok-make_room-2.ensures.items, c.in_ok-make_room.ensures.rows) at c.put_rows.ensures) c.count_and_settle.new.opens.0
    (rw c.in_ok-make_room.ensures.opens at c.count_and_settle.ensures.opens))
