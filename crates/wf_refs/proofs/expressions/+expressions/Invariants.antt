use Rattle.std.proofs.Common.{◌≡◌, ◌++◌, ◌+◌, ◌*◌, ◌≤◌, drop, length}
use Rattle.wf_template.specs.ChainSeen.{start_tree}
use Rattle.wf_template.specs.ExprCounts.{expr_count, exprs_count}
use Rattle.wf_template.specs.ExprSeen.{expr_tree}
use Rattle.wf_template.proofs.ChainLemmas.{key_count}
use Rattle.wf_eval.specs.Args.{args_tree}
use Rattle.wf_uses.specs.Uses.{all_uses, uses}
use Rattle.wf_uses.specs.Seen.{found_uses}
use Rattle.wf_refs.proofs.ChainLemmas.{chained_uses, keys_count}
use Rattle.wf_refs.proofs.expressions.+expressions.Given as goal

-- what is found so far, and what the accesses that are left ask for
abbrev pub invariant-in_expression-loop-access : goal.invariant-in_expression-loop-access
invariant-in_expression-loop-access l = record {
  so_far : found_uses l.all.items ++ chained_uses l.accesses.items ≡ found_uses l.fn.found.items ++ uses (expr_tree l.expression);
  keys : keys_count l.accesses.items ≤ expr_count (expr_tree l.expression);
}

abbrev pub decreases-in_expression-loop-access : goal.decreases-in_expression-loop-access
decreases-in_expression-loop-access l = length l.accesses.items

-- what is found so far, and what is left
abbrev pub invariant-in_all-loop-arg : goal.invariant-in_all-loop-arg
invariant-in_all-loop-arg l =
    found_uses l.all.items ++ all_uses (args_tree (drop l.arg-index l.args))
    ≡ found_uses l.fn.found.items ++ all_uses (args_tree l.args)

abbrev pub decreases-in_expression : goal.decreases-in_expression
decreases-in_expression l = 4 * expr_count (expr_tree l.expression.now) + 3

abbrev pub decreases-in_start : goal.decreases-in_start
decreases-in_start l = 4 * expr_count (start_tree l.start) + 2

abbrev pub decreases-in_access : goal.decreases-in_access
decreases-in_access l = 4 * key_count l.access + 1

abbrev pub decreases-in_call : goal.decreases-in_call
decreases-in_call l = 4 * exprs_count (args_tree l.args.now) + 2

abbrev pub decreases-in_all : goal.decreases-in_all
decreases-in_all l = 4 * exprs_count (args_tree l.args.now) + 1
