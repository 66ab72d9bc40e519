use Rattle.std.proofs.Common.{◌≡◌, List, [], ◌∷◌, ◌++◌, map, get_or, arith, rules, sym, ap, ◌∙◌}
use Rattle.wf_template.specs.ExprSeen.{expr_tree, exprs_seen}
use Rattle.wf_template.specs.ExprCounts.{expr_count, count_of_exprs}
use Rattle.wf_template.specs.ChainSeen.{start_tree, accessed, built, chain_tree}
use Rattle.wf_template.specs.declared.expr.Expr.{Expr}
use Rattle.wf_template.proofs.ChainLemmas.{built_snoc, base_le_built, key_le_accessed, item_lt_items}
use Rattle.wf_template.proofs.+copy.Goals as goal

pub chain::Chain::copy-copy-requires : goal.chain::Chain::copy-copy-requires
chain::Chain::copy-copy-requires t c =
    (omega (arith, c.decreases, base_le_built (start_tree c.args.self.start) c.args.self.accesses.items), tt)

pub chain::Chain::copy-copy_onto-requires : goal.chain::Chain::copy-copy_onto-requires
chain::Chain::copy-copy_onto-requires t c =
    let b = expr_tree c.loop-access.copy in
    let a = c.in-Some.access in
    let rest = c.pop.new.self.items in
    let split : c.loop-access.accesses.items ≡ rest ++ a ∷ [] = search rules in
    let whole : built (accessed b a) rest ≡ chain_tree c.args.self = sym (built_snoc b rest a) ∙ (ap (built b) (sym split) ∙ c.loop-access.invariant) in
    (omega (arith, c.decreases, ap expr_count whole, base_le_built (accessed b a) rest, key_le_accessed b a), tt)

pub expr::Exprs::copy-copy-requires : goal.expr::Exprs::copy-copy-requires
expr::Exprs::copy-copy-requires t c =
    let es : List Expr = c.deref-item-items.result.now in
    let whole : count_of_exprs (map expr_tree es) ≡ count_of_exprs (exprs_seen c.args.self.now) = ap (λ xs. count_of_exprs (map expr_tree xs)) c.deref-item-items.ensures.value in
    let same : expr_count (expr_tree c.item-item.result) ≡ expr_count (expr_tree (get_or es c.loop-item.item-index c.item-item.result)) = ap (λ e. expr_count (expr_tree e)) c.item-item.is in
    let here = item_lt_items es c.loop-item.item-index c.item-item.result (omega arith) in
    (omega (arith, c.decreases, whole, same, here), tt)
