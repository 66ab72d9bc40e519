use Rattle.wf_making.proofs.making.MakingMachine.step.Goals as goal

pub returns-clause-goes : goal.returns-clause-goes
returns-clause-goes g c = rw (← c.self.view_is) c.step.ensures.ok
