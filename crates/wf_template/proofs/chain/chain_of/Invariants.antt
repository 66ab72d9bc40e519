use Rattle.std.proofs.Common.{◌≡◌}
use Rattle.wf_template.specs.ExprSeen.{expr_tree}
use Rattle.wf_template.specs.ExprCounts.{expr_count}
use Rattle.wf_template.specs.ChainSeen.{built}
use Rattle.wf_template.proofs.chain.chain_of.Given as goal

-- the accesses so far, on what is left, are the whole
abbrev pub invariant-loop-start : goal.invariant-loop-start
invariant-loop-start l = built (expr_tree l.rest) l.accesses.items ≡ expr_tree l.expression

abbrev pub decreases-loop-start : goal.decreases-loop-start
decreases-loop-start l = expr_count (expr_tree l.rest)
