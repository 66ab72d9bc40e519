use Rattle.wf_history.proofs.listing.judge_line.Goals as goal

pub returns-clause-value : goal.returns-clause-value
returns-clause-value c = (c.in_ok-_value._value, c.in_ok-_value.ensures.value)
