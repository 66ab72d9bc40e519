use Rattle.wf_steps.proofs.state.State.ready.Goals as goal

pub returns : goal.returns
returns g c = rw (← c.self.view_is) (record { in_order = c.len-count.ensures.in_order; each = c.self.invariant.1.enabled })
