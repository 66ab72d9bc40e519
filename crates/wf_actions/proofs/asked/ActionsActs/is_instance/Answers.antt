use Rattle.wf_actions.proofs.asked.ActionsActs.is_instance.Goals as goal

pub returns-clause-going : goal.returns-clause-going
returns-clause-going c = c.keep_order.ensures.going

pub returns-clause-counted : goal.returns-clause-counted
returns-clause-counted c = c.keep_order.ensures.counted

pub returns-clause-ordered : goal.returns-clause-ordered
returns-clause-ordered c = c.keep_order.ensures.ordered

pub returns-clause-told : goal.returns-clause-told
returns-clause-told c = c.keep_order.ensures.told

pub returns-clause-priced : goal.returns-clause-priced
returns-clause-priced c = c.keep_order.ensures.priced
