use Rattle.std.proofs.Common.{arith, rules}
use Rattle.std.proofs.lemmas.Result.{err_from_is_err_and}
use Rattle.wf_val.specs.declared.function.Fun.{Fun}
use Rattle.wf_eval.proofs.CondLoops.{fault_truths, count-conds}
use Rattle.wf_eval.proofs.cond.+eval_cond.Goals as goal

pub all_hold-eval_cond-requires : goal.all_hold-eval_cond-requires
all_hold-eval_cond-requires g t c = let le = count-conds _ _ _ c.loop-condition-test.true c.condition-item.is in search (rules, arith)

pub any_holds-eval_cond-requires : goal.any_holds-eval_cond-requires
any_holds-eval_cond-requires g t c = let le = count-conds _ _ _ c.loop-condition-test.true c.condition-item.is in search (rules, arith)

pub all_hold-returns-in_err-holds-clause-truth : goal.all_hold-returns-in_err-holds-clause-truth
all_hold-returns-in_err-holds-clause-truth g t c =
    let p = err_from_is_err_and c.from_residual.result c.from_residual.ensures.1 in
    rw (p.1, p.2) (fault_truths Fun.And _ _ _ _ _ _ _ _ _ c.loop-condition-test.true c.condition-item.is c.loop-condition.invariant.same
    c.loop-condition.invariant.so_far c.in_err-holds.ensures.truth)

pub any_holds-returns-in_err-holds-clause-truth : goal.any_holds-returns-in_err-holds-clause-truth
any_holds-returns-in_err-holds-clause-truth g t c =
    let p = err_from_is_err_and c.from_residual.result c.from_residual.ensures.1 in
    rw (p.1, p.2) (fault_truths Fun.Or _ _ _ _ _ _ _ _ _ c.loop-condition-test.true c.condition-item.is c.loop-condition.invariant.same
    c.loop-condition.invariant.so_far c.in_err-holds.ensures.truth)
