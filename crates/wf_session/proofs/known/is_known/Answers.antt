use Rattle.wf_session.proofs.known.is_known.Goals as goal

pub returns-clause-last : goal.returns-clause-last
returns-clause-last c = c.is_known.ensures.last
