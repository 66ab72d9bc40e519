use Rattle.std.proofs.Common.{arith, rules}
use Rattle.wf_refs.proofs.LoopLemmas.{cond-falls}
use Rattle.wf_refs.proofs.templates.+conditions.Goals as goal

pub in_conditions-in_condition-requires : goal.in_conditions-in_condition-requires
in_conditions-in_condition-requires t c = let less = cond-falls _ _ _ c.loop-condition-test.true c.condition-item.is in search
    (rules, arith)
