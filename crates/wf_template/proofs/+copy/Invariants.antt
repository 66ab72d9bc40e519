use Rattle.std.proofs.Common.{◌≡◌, ◌+◌, ◌*◌, length, map, take}
use Rattle.wf_template.specs.ExprSeen.{expr_tree, exprs_seen}
use Rattle.wf_template.specs.ExprCounts.{expr_count, count_of_exprs}
use Rattle.wf_template.specs.ChainSeen.{start_tree, built, chain_tree}
use Rattle.wf_template.proofs.ChainLemmas.{key_count}
use Rattle.wf_template.proofs.+copy.Given as goal

-- the copies so far
abbrev pub invariant-expr::Exprs::copy-loop-item : goal.invariant-expr::Exprs::copy-loop-item
invariant-expr::Exprs::copy-loop-item l = map expr_tree l.copies.items ≡ map expr_tree (take l.item-index l.item-items)

-- what is made, with the accesses that are left, is the whole
abbrev pub invariant-chain::Chain::copy-loop-access : goal.invariant-chain::Chain::copy-loop-access
invariant-chain::Chain::copy-loop-access l = built (expr_tree l.copy) l.accesses.items ≡ chain_tree l.fn.self

abbrev pub decreases-expr::Expr::copy : goal.decreases-expr::Expr::copy
decreases-expr::Expr::copy l = 3 * expr_count (expr_tree l.self.now) + 2

abbrev pub decreases-expr::Exprs::copy : goal.decreases-expr::Exprs::copy
decreases-expr::Exprs::copy l = 3 * count_of_exprs (exprs_seen l.self.now) + 2

abbrev pub decreases-chain::Chain::copy : goal.decreases-chain::Chain::copy
decreases-chain::Chain::copy l = 3 * expr_count (chain_tree l.self) + 1

abbrev pub decreases-chain::Start::copy : goal.decreases-chain::Start::copy
decreases-chain::Start::copy l = 3 * expr_count (start_tree l.self)

abbrev pub decreases-chain::Access::copy_onto : goal.decreases-chain::Access::copy_onto
decreases-chain::Access::copy_onto l = 3 * key_count l.self

abbrev pub decreases-chain::Chain::copy-loop-access : goal.decreases-chain::Chain::copy-loop-access
decreases-chain::Chain::copy-loop-access l = length l.accesses.items
