use Rattle.wf_events.specs.Tables.{state_of}
use Rattle.wf_steps.proofs.OverLemmas.{over_by, not_over}
use Rattle.wf_steps.proofs.state.State.is_over.Goals as goal

pub returns-clause-over : goal.returns-clause-over
returns-clause-over g c none =
    let s = c.self.inside in
    let a = g.A.Acts in
    rw (← c.self.view_is) (over_by (a.graph s.acts.now) (a.source s.acts.now) (a.depth s.acts.now) (a.writes s.acts.now)
    (state_of a.row_tree a.begun_tree a.decision_tree a.verdict_tree s.rows.0 s.running.0 s.opens.0) s.opens.0 s.store.0 s.waits.0 s.lacks.0 s.ready.0
    c.self.invariant.1 (rw c.len.ensures.count at none))

pub returns-clause-going : goal.returns-clause-going
returns-clause-going g c some =
    let s = c.self.inside in
    let a = g.A.Acts in
    rw (← c.self.view_is) (not_over (a.graph s.acts.now) (a.source s.acts.now) (a.depth s.acts.now) (a.writes s.acts.now)
    (state_of a.row_tree a.begun_tree a.decision_tree a.verdict_tree s.rows.0 s.running.0 s.opens.0) s.opens.0 s.store.0 s.waits.0 s.lacks.0 s.ready.0
    c.self.invariant.1 c.len.ensures.in_order (rw c.len.ensures.count at some))
