use Rattle.std.proofs.Common.{arith, rules}
use Rattle.std.proofs.lemmas.Result.{err_from_is_err_and}
use Rattle.wf_eval.proofs.TreeLoops.{fault_items, memory_items, fault_members, memory_members, count-items, count-members}
use Rattle.wf_eval.proofs.tree.+eval_tree.Goals as goal

pub eval_items-eval_tree-requires : goal.eval_items-eval_tree-requires
eval_items-eval_tree-requires g t c = let le = count-items _ _ _ c.loop-item-test.true c.item-item.is in search (rules, arith)

pub eval_members-eval_tree-requires : goal.eval_members-eval_tree-requires
eval_members-eval_tree-requires g t c = let le = count-members _ _ _ c.loop-member-test.true c.member-item.is in search (rules, arith)

pub eval_items-returns-in_err-eval_tree-clause-values : goal.eval_items-returns-in_err-eval_tree-clause-values
eval_items-returns-in_err-eval_tree-clause-values g t c =
    let p = err_from_is_err_and c.from_residual.result c.from_residual.ensures.1 in
    rw (p.1, p.2) (fault_items _ _ _ _ _ _ _ _ _ _ c.loop-item-test.true c.item-item.is c.loop-item.invariant.same
    c.loop-item.invariant.so_far c.in_err-eval_tree.ensures.value)

pub eval_items-returns-in_err-push-clause-values : goal.eval_items-returns-in_err-push-clause-values
eval_items-returns-in_err-push-clause-values g t c =
    let p = err_from_is_err_and c.from_residual-in_err-push.result c.from_residual-in_err-push.ensures.1 in
    rw (p.1, p.2) (memory_items _ _ _ _ _ _ _ _ _ c.loop-item-test.true c.item-item.is c.loop-item.invariant.same
    c.loop-item.invariant.so_far c.in_ok-eval_tree.ensures.value.1)

pub eval_members-returns-in_err-value-clause-members : goal.eval_members-returns-in_err-value-clause-members
eval_members-returns-in_err-value-clause-members g t c =
    let p = err_from_is_err_and c.from_residual.result c.from_residual.ensures.1 in
    rw (p.1, p.2) (fault_members _ _ _ _ _ _ _ _ _ _ c.loop-member-test.true c.member-item.is c.loop-member.invariant.same
    c.loop-member.invariant.so_far c.in_err-value.ensures.value)

pub eval_members-returns-in_err-name-clause-members : goal.eval_members-returns-in_err-name-clause-members
eval_members-returns-in_err-name-clause-members g t c =
    let p = err_from_is_err_and c.from_residual-in_err-name.result c.from_residual-in_err-name.ensures.1 in
    rw (p.1, p.2) (memory_members _ _ _ _ _ _ _ _ _ c.loop-member-test.true c.member-item.is c.loop-member.invariant.same
    c.loop-member.invariant.so_far c.in_ok-value.ensures.value.1)

pub eval_members-returns-in_err-put-clause-members : goal.eval_members-returns-in_err-put-clause-members
eval_members-returns-in_err-put-clause-members g t c =
    let p = err_from_is_err_and c.from_residual-in_err-put.result c.from_residual-in_err-put.ensures.1 in
    rw (p.1, p.2) (memory_members _ _ _ _ _ _ _ _ _ c.loop-member-test.true c.member-item.is c.loop-member.invariant.same
    c.loop-member.invariant.so_far c.in_ok-value.ensures.value.1)
