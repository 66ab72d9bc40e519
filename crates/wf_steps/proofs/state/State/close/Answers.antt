use Rattle.std.proofs.Common.{subst, sym}
use Rattle.wf_layers.specs.Changes.{next_of}
use Rattle.wf_events.specs.Known.{opens_in}
use Rattle.wf_events.specs.PlanSeen.{plan_tree}
use Rattle.wf_events.specs.RowEdits.{AreRowEdits}
use Rattle.wf_steps.proofs.CloseLemmas.{apart, close_goes, close_is_informed, close_kept, edits_taken, none_closes}
use Rattle.wf_steps.proofs.state.State.close.Goals as goal

pub closing-requires : goal.closing-requires
closing-requires g c =
    let s = c.self.inside in
    let a = g.A.Acts in
    let may = rw (← c.self.view_is) at c.requires in
    close_is_informed a.row_tree a.begun_tree a.decision_tree a.verdict_tree (a.graph s.acts.now) (a.source s.acts.now)
    (a.depth s.acts.now) (a.writes s.acts.now) s.rows.0 s.running.0 s.opens.0 s.store.0 s.waits.0 s.lacks.0 s.ready.0
    c.self.invariant.1 c.args.place.now may

pub count_and_settle-requires-clause-edits : goal.count_and_settle-requires-clause-edits
count_and_settle-requires-clause-edits g c =
    let s = c.self.inside in
    let a = g.A.Acts in
    let may = rw (← c.self.view_is) at c.requires in
    let rest = rw c.in_ok-make_room-in-Some.ensures.opens at c.take_open.ensures.rest in
    subst (λ xs. AreRowEdits (plan_tree s.plan.now) (λ x. next_of (opens_in (λ d. d) (λ v. v) xs x)) c.args.place.now
    c.in_ok-closing-in-Some.closing.edits) (sym rest)
    (edits_taken c.args.place.now s.opens.0 (rw c.in_ok-make_room-in-Some.ensures.opens at c.take_open.ensures.in_order)
    (plan_tree s.plan.now)
    (apart a.row_tree a.begun_tree a.decision_tree a.verdict_tree (a.graph s.acts.now) (a.source s.acts.now)
    (a.depth s.acts.now) (a.writes s.acts.now) s.rows.0 s.running.0 s.opens.0 s.store.0 s.waits.0 s.lacks.0 s.ready.0
    c.self.invariant.1 c.args.place.now may (plan_tree s.plan.now) c.self.invariant.0)
    c.in_ok-closing-in-Some.closing.edits c.in_ok-closing-in-Some.ensures.edits)

pub invariant_of-self-in-Some : goal.invariant_of-self-in-Some
invariant_of-self-in-Some g c =
    let s = c.self.inside in
    let a = g.A.Acts in
    let may = rw (← c.self.view_is) at c.requires in
    rw (c.put.ensures.items, c.in_ok-closing-in-Some.ensures.place, c.in_ok-make_room-in-Some.ensures.rows) (
      c.self.invariant.0,
      close_kept a.row_tree a.begun_tree a.decision_tree a.verdict_tree (a.graph s.acts.now) (a.source s.acts.now)
          (a.depth s.acts.now) (a.writes s.acts.now) s.rows.0 s.running.0 s.opens.0 s.store.0 s.waits.0 s.lacks.0 s.ready.0
          c.self.invariant.1 c.args.place.now may c.in-Some.open.now c.in-Some.ensures
          (rw c.in_ok-make_room-in-Some.ensures.opens at c.take_open.ensures.in_order) (plan_tree s.plan.now) c.self.invariant.0
          c.in_ok-closing-in-Some.closing.row c.in_ok-closing-in-Some.ensures.row c.count_and_settle.new.opens.0
          (rw (c.take_open.ensures.rest, c.in_ok-make_room-in-Some.ensures.opens) at c.count_and_settle.ensures.opens)
          c.count_and_settle.new.waits.0 c.count_and_settle.new.lacks.0 c.count_and_settle.new.ready.0
          (rw (
            c.put.ensures.items,
            c.in_ok-closing-in-Some.ensures.place,
            c.in_ok-make_room-in-Some.ensures.rows,
            c.take_open.ensures.rest,
            c.in_ok-make_room-in-Some.ensures.opens,
            c.in_ok-make_room-in-Some.ensures.ready,
          ) at c.count_and_settle.ensures.settled),
    )

pub returns-in_ok-make_room-in-Some-clause-ok : goal.returns-in_ok-make_room-in-Some-clause-ok
returns-in_ok-make_room-in-Some-clause-ok g c =
    let s = c.self.inside in
    let a = g.A.Acts in
    let may = rw (← c.self.view_is) at c.requires in
    rw (← c.self.view_is, c.put.ensures.items, c.in_ok-closing-in-Some.ensures.place, c.in_ok-make_room-in-Some.ensures.rows)
    (close_goes a.row_tree a.begun_tree a.decision_tree a.verdict_tree (a.graph s.acts.now) (a.source s.acts.now)
    (a.depth s.acts.now) (a.writes s.acts.now) s.rows.0 s.running.0 s.opens.0 s.store.0 s.waits.0 s.lacks.0 s.ready.0
    c.self.invariant.1 c.args.place.now may c.in-Some.open.now c.in-Some.ensures
    (rw c.in_ok-make_room-in-Some.ensures.opens at c.take_open.ensures.in_order) (plan_tree s.plan.now) c.self.invariant.0
    c.in_ok-closing-in-Some.closing.row c.in_ok-closing-in-Some.ensures.row c.count_and_settle.new.opens.0
    (rw (c.take_open.ensures.rest, c.in_ok-make_room-in-Some.ensures.opens) at c.count_and_settle.ensures.opens))

pub returns-in-None-clause-ok : goal.returns-in-None-clause-ok
returns-in-None-clause-ok g c =
    let s = c.self.inside in
    let a = g.A.Acts in
    let may = rw (← c.self.view_is) at c.requires in
    absurd (none_closes a.row_tree a.begun_tree a.decision_tree a.verdict_tree (a.graph s.acts.now) (a.source s.acts.now)
    (a.depth s.acts.now) (a.writes s.acts.now) s.rows.0 s.running.0 s.opens.0 s.store.0 s.waits.0 s.lacks.0 s.ready.0
    c.self.invariant.1 c.args.place.now may c.in-None.ensures)
