use Rattle.wf_events.specs.Known.{store_in, writer}
use Rattle.wf_events.specs.Tables.{state_of}
use Rattle.wf_kept.proofs.Stored.{store_is_written}
use Rattle.wf_steps.proofs.state.State.is_last.Goals as goal

pub returns : goal.returns
returns g c =
    let s = c.self.inside in
    let a = g.A.Acts in
    rw (← c.self.view_is) (λ v. store_is_written (a.graph s.acts.now) (a.depth s.acts.now) (a.source s.acts.now)
    (writer (a.writes s.acts.now) v) (c.is_instance.ensures.ordered v)
    (state_of a.row_tree a.begun_tree a.decision_tree a.verdict_tree s.rows.0 s.running.0 s.opens.0) (store_in s.store.0 v)
    (c.self.invariant.1.stored v))
