use Rattle.std.proofs.Common.{◌≡◌, ◌≤◌, ◌++◌, [], ◌∷◌, List, ap, sym, ◌∙◌, append_assoc, arith, rules}
use Rattle.wf_template.specs.ChainSeen.{start_tree, chain_tree}
use Rattle.wf_template.specs.ExprCounts.{expr_count}
use Rattle.wf_template.specs.ExprSeen.{expr_tree}
use Rattle.wf_template.proofs.ChainLemmas.{key_count, base_le_built}
use Rattle.wf_uses.specs.Uses.{Use, uses}
use Rattle.wf_refs.specs.Seen.{access_uses}
use Rattle.wf_uses.specs.Seen.{found_uses}
use Rattle.wf_refs.proofs.ChainLemmas.{built_uses, chained-snoc, chained_uses, keys_count, keys_count-snoc, keys_le_built}
use Rattle.wf_refs.proofs.LoopLemmas.{arg-falls}
use Rattle.wf_refs.proofs.expressions.+expressions.Goals as goal

pub in_all-in_expression-requires : goal.in_all-in_expression-requires
in_all-in_expression-requires t c = let less = arg-falls _ _ _ c.loop-arg-test.true c.arg-item.is in search (rules, arith)

pub in_expression-in_start-requires : goal.in_expression-in_start-requires
in_expression-in_start-requires t c =
    let s = start_tree c.in_ok-chain.chain.start in
    let whole : chain_tree c.in_ok-chain.chain ≡ expr_tree c.args.expression.now = c.in_ok-chain.ensures in
    let le : expr_count s ≤ expr_count (expr_tree c.args.expression.now) =
    omega (arith, base_le_built s c.in_ok-chain.chain.accesses.items, ap expr_count whole) in
    search (rules, arith)

pub in_expression-loop-access-init : goal.in_expression-loop-access-init
in_expression-loop-access-init t c =
    let s = start_tree c.in_ok-chain.chain.start in
    let left = c.in_ok-chain.chain.accesses.items in
    let whole : chain_tree c.in_ok-chain.chain ≡ expr_tree c.args.expression.now = c.in_ok-chain.ensures in
    let found : List Use = found_uses c.args.found.items in
    record {
      so_far =
          ap (λ (us : List Use). us ++ chained_uses left) c.in_ok-all.ensures
          ∙ append_assoc found (uses s) (chained_uses left)
          ∙ ap (λ (us : List Use). found ++ us) (sym (built_uses s left) ∙ ap uses whole);
      keys = omega (arith, keys_le_built s left, ap expr_count whole);
    }

pub in_expression-in_access-requires : goal.in_expression-in_access-requires
in_expression-in_access-requires t c =
    let a = c.in-Some.access in
    let left = c.pop.new.self.items in
    let split : c.loop-access.accesses.items ≡ left ++ a ∷ [] = search rules in
    let le : key_count a ≤ expr_count (expr_tree c.args.expression.now) =
    omega (arith, ap keys_count split, keys_count-snoc left a, c.loop-access.invariant.keys) in
    search (rules, arith)

pub in_expression-loop-access-preserved : goal.in_expression-loop-access-preserved
in_expression-loop-access-preserved t c =
    let a = c.in-Some.access in
    let left = c.pop.new.self.items in
    let found : List Use = found_uses c.loop-access.all.items in
    let split : c.loop-access.accesses.items ≡ left ++ a ∷ [] = search rules in
    record {
      so_far =
          ap (λ (us : List Use). us ++ chained_uses left) c.in_ok-all-2.ensures
          ∙ append_assoc found (access_uses a) (chained_uses left)
          ∙ sym (ap (λ (us : List Use). found ++ us) (ap chained_uses split ∙ chained-snoc left a))
          ∙ c.loop-access.invariant.so_far;
      keys = omega (arith, ap keys_count split, keys_count-snoc left a, c.loop-access.invariant.keys);
    }
