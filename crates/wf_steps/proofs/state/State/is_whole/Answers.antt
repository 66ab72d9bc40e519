use Rattle.wf_events.specs.Tables.{state_of}
use Rattle.wf_steps.proofs.WholeLemmas.{whole}
use Rattle.wf_steps.proofs.state.State.is_whole.Goals as goal

pub returns : goal.returns
returns g c =
    let s = c.self.inside in
    let a = g.A.Acts in
    let over = rw (← c.self.view_is) at c.requires in
    rw (← c.self.view_is) (whole (a.graph s.acts.now) (a.depth s.acts.now) (a.source s.acts.now)
    (state_of a.row_tree a.begun_tree a.decision_tree a.verdict_tree s.rows.0 s.running.0 s.opens.0)
    c.is_instance.ensures.going c.self.invariant.1.reached over)
