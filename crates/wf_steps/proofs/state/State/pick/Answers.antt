use Rattle.std.proofs.Common.{◌%◌, arith}
use Rattle.std.proofs.lemmas.Nat.{mod_below}
use Rattle.wf_events.specs.Tables.{state_of}
use Rattle.wf_steps.proofs.OverLemmas.{enabled_at, some_left}
use Rattle.wf_steps.proofs.state.State.pick.Goals as goal

pub nonzero_rem-place : goal.nonzero_rem-place
nonzero_rem-place g c =
    let s = c.self.inside in
    let a = g.A.Acts in
    let going = rw (← c.self.view_is) at c.requires in
    let some = some_left (a.graph s.acts.now) (a.source s.acts.now) (a.depth s.acts.now) (a.writes s.acts.now)
    (state_of a.row_tree a.begun_tree a.decision_tree a.verdict_tree s.rows.0 s.running.0 s.opens.0) s.opens.0 s.store.0 s.waits.0 s.lacks.0 s.ready.0
    c.self.invariant.1 going in
    omega (arith, some, c.len.ensures.count)

pub at-requires : goal.at-requires
at-requires g c =
    let s = c.self.inside in
    let a = g.A.Acts in
    let going = rw (← c.self.view_is) at c.requires in
    let some = some_left (a.graph s.acts.now) (a.source s.acts.now) (a.depth s.acts.now) (a.writes s.acts.now)
    (state_of a.row_tree a.begun_tree a.decision_tree a.verdict_tree s.rows.0 s.running.0 s.opens.0) s.opens.0 s.store.0 s.waits.0 s.lacks.0 s.ready.0
    c.self.invariant.1 going in
    let below = mod_below c.args.place c.len.result (omega (arith, some, c.len.ensures.count)) in
    omega (arith, below, c.len.ensures.count)

pub returns-clause-picked : goal.returns-clause-picked
returns-clause-picked g c =
    let s = c.self.inside in
    rw (← c.self.view_is) (record {
      listed = s.ready.0;
      enabled = record { in_order = c.at.ensures.in_order; each = c.self.invariant.1.enabled };
      picked = rw (← c.len.ensures.count) c.at.ensures.item;
    })

pub returns-clause-enabled : goal.returns-clause-enabled
returns-clause-enabled g c =
    let s = c.self.inside in
    let a = g.A.Acts in
    rw (← c.self.view_is) (enabled_at (a.graph s.acts.now) (a.source s.acts.now) (a.depth s.acts.now) (a.writes s.acts.now)
    (state_of a.row_tree a.begun_tree a.decision_tree a.verdict_tree s.rows.0 s.running.0 s.opens.0) s.opens.0 s.store.0 s.waits.0 s.lacks.0 s.ready.0
    c.self.invariant.1 c.at.ensures.in_order (c.args.place % c.len.result) c.at.result.now c.at.ensures.item)
