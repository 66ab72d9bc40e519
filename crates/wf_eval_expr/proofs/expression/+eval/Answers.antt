use Rattle.std.proofs.Common.{true, sym, ◌≡◌, ◌≤◌, ◌++◌, [], ◌∷◌, refl, ap, ◌∙◌, arith, rules}
use Rattle.std.proofs.lemmas.Result.{err_from_is_err_and}
use Rattle.wf_val.specs.Seen.{tree}
use Rattle.wf_template.specs.ChainSeen.{start_tree, chain_tree}
use Rattle.wf_template.specs.ExprCounts.{expr_count}
use Rattle.wf_template.specs.ExprSeen.{expr_tree}
use Rattle.wf_template.proofs.ChainLemmas.{key_count, base_le_built}
use Rattle.wf_folds.specs.Pairing.{is_pairing}
use Rattle.wf_folds.specs.Paired.{nothing_paired, with_value, paired_answer}
use Rattle.wf_folds.specs.United.{nothing_united, with_argument, united_answer}
use Rattle.wf_look.specs.Collected.{nothing, with_item, collected_answer}
use Rattle.wf_look.specs.Rows.{fitted}
use Rattle.wf_look.specs.Args.{args_tree}
use Rattle.wf_eval_expr.specs.Value.{runs}
use Rattle.wf_eval_expr.proofs.Grow.{value-grows, handed_draw}
use Rattle.wf_eval_expr.proofs.Chains.{fault_of_start, fault_of_access, start_value, access_value, through, keys_count, keys_count-snoc}
use Rattle.wf_eval_expr.proofs.Chains.{keys_le_built}
use Rattle.wf_eval_expr.proofs.CollectedLemmas.{collected-whole}
use Rattle.wf_eval_expr.proofs.FoldLemmas.{fault_folded, memory_folded, folded_end, folded_fitted}
use Rattle.wf_eval_expr.proofs.FoldsLemmas.{paired-whole, united-whole, paired-way}
use Rattle.wf_eval_expr.proofs.JoinedLemmas.{fault_texts, memory_texts, texts_end, some-argument}
use Rattle.wf_eval_expr.proofs.Loops.{count-item, fault_all, memory_all, early_stops, early_goes_on, early_ends, fault_if, if-few}
use Rattle.wf_eval_expr.proofs.Meeting.{of_memory, of_fault}
use Rattle.wf_eval_expr.proofs.expression.+eval.Goals as goal

pub eval_all-eval_expr-requires : goal.eval_all-eval_expr-requires
eval_all-eval_expr-requires g t c = let le = count-item _ _ _ c.loop-arg-test.true c.arg-item.is in search (rules, arith)

pub eval_early-eval_expr-answer-requires : goal.eval_early-eval_expr-answer-requires
eval_early-eval_expr-answer-requires g t c = let le = count-item _ _ _ c.loop-arg-test.true c.arg-item.is in search (rules, arith)

pub eval_joined-eval_expr-requires : goal.eval_joined-eval_expr-requires
eval_joined-eval_expr-requires g t c = let le = count-item _ _ _ c.loop-arg-test.true c.arg-item.is in search (rules, arith)

pub eval_joined-returns-in_err-value-clause-value : goal.eval_joined-returns-in_err-value-clause-value
eval_joined-returns-in_err-value-clause-value g t c =
    let p = err_from_is_err_and c.from_residual.result c.from_residual.ensures.1 in
    rw (p.1, p.2) (fault_texts _ _ _ _ _ _ _ _ _ _ c.loop-arg-test.true c.arg-item.is c.loop-arg.invariant.same
    c.loop-arg.invariant.so_far c.in_err-value.ensures.value)

pub eval_joined-returns-in_err-part-clause-value : goal.eval_joined-returns-in_err-part-clause-value
eval_joined-returns-in_err-part-clause-value g t c =
    let p = err_from_is_err_and c.from_residual-in_err-part.result c.from_residual-in_err-part.ensures.1 in
    rw (p.1, p.2) (memory_texts _ _ _ _ _ _ _ _ _ c.loop-arg-test.true c.arg-item.is c.loop-arg.invariant.same
    c.loop-arg.invariant.so_far c.in_ok-value.ensures.value.1)

pub eval_joined-returns-in_err-push-clause-value : goal.eval_joined-returns-in_err-push-clause-value
eval_joined-returns-in_err-push-clause-value g t c =
    let p = err_from_is_err_and c.from_residual-in_err-push.result c.from_residual-in_err-push.ensures.1 in
    rw (p.1, p.2) (memory_texts _ _ _ _ _ _ _ _ _ c.loop-arg-test.true c.arg-item.is c.loop-arg.invariant.same
    c.loop-arg.invariant.so_far c.in_ok-value.ensures.value.1)

pub eval_joined-returns-clause-value : goal.eval_joined-returns-clause-value
eval_joined-returns-clause-value g t c =
    texts_end _ _ _ _ _ _ _ (some-argument c.args.args.now (sym c.is_empty.ensures ∙ c.if-is_empty.false)) c.loop-arg-test.false
    c.loop-arg.invariant.so_far c.answer.ensures

pub eval_collected-eval_expr-requires : goal.eval_collected-eval_expr-requires
eval_collected-eval_expr-requires g t c = let le = count-item _ _ _ c.loop-arg-test.true c.arg-item.is in search (rules, arith)

pub eval_collected-returns-in_err-eval_expr-clause-value : goal.eval_collected-returns-in_err-eval_expr-clause-value
eval_collected-returns-in_err-eval_expr-clause-value g t c =
    let p = err_from_is_err_and c.from_residual.result c.from_residual.ensures.1 in
    rw (p.1, p.2) (fault_folded with_item collected_answer nothing _ _ _ _ _ _ _ _ _ _ _ (collected-whole _ _ _)
    c.loop-arg-test.true c.arg-item.is c.loop-arg.invariant.same c.loop-arg.invariant.so_far c.in_err-eval_expr.ensures.value)

pub eval_collected-returns-in_err-push-clause-value : goal.eval_collected-returns-in_err-push-clause-value
eval_collected-returns-in_err-push-clause-value g t c =
    let p = err_from_is_err_and c.from_residual-in_err-push.result c.from_residual-in_err-push.ensures.1 in
    rw (p.1, p.2) (memory_folded with_item collected_answer nothing _ _ _ _ _ _ _ _ _ _ (collected-whole _ _ _)
    c.loop-arg-test.true c.arg-item.is c.loop-arg.invariant.same c.loop-arg.invariant.so_far c.in_ok-eval_expr.ensures.value.1)

pub eval_collected-returns-clause-value : goal.eval_collected-returns-clause-value
eval_collected-returns-clause-value g t c =
    folded_end with_item collected_answer nothing _ _ _ _ _ _ _ _ (collected-whole _ _ _) c.loop-arg-test.false
    c.loop-arg.invariant.so_far c.answer.ensures

pub eval_paired-eval_expr-requires : goal.eval_paired-eval_expr-requires
eval_paired-eval_expr-requires g t c = let le = count-item _ _ _ c.loop-arg-test.true c.arg-item.is in search (rules, arith)

pub eval_paired-returns-in_err-value-clause-value : goal.eval_paired-returns-in_err-value-clause-value
eval_paired-returns-in_err-value-clause-value g t c =
    let p = err_from_is_err_and c.from_residual.result c.from_residual.ensures.1 in
    rw (p.1, p.2) (fault_folded with_value (λ q. fitted (paired_answer q)) (nothing_paired c.args.function) _ _ _ _ _ _ _ _ _ _ _
    (paired-whole c.args.function c.requires _ _ _)
    c.loop-arg-test.true c.arg-item.is c.loop-arg.invariant.same c.loop-arg.invariant.so_far c.in_err-value.ensures.value)

pub eval_paired-returns-in_err-paired-clause-value : goal.eval_paired-returns-in_err-paired-clause-value
eval_paired-returns-in_err-paired-clause-value g t c =
    let p = err_from_is_err_and c.from_residual-in_err-paired.result c.from_residual-in_err-paired.ensures.1 in
    rw (p.1, p.2) (memory_folded with_value (λ q. fitted (paired_answer q)) (nothing_paired c.args.function) _ _ _ _ _ _ _ _ _ _
    (paired-whole c.args.function c.requires _ _ _)
    c.loop-arg-test.true c.arg-item.is c.loop-arg.invariant.same c.loop-arg.invariant.so_far c.in_ok-value.ensures.value.1)

pub eval_paired-returns-clause-value : goal.eval_paired-returns-clause-value
eval_paired-returns-clause-value g t c =
    folded_fitted with_value paired_answer (nothing_paired c.args.function) _ _ _ _ _ _ _ _ _
    (paired-whole c.args.function c.requires _ _ _) c.loop-arg-test.false
    c.loop-arg.invariant.so_far c.answer.ensures c.fitted.ensures

pub eval_united-eval_expr-requires : goal.eval_united-eval_expr-requires
eval_united-eval_expr-requires g t c = let le = count-item _ _ _ c.loop-arg-test.true c.arg-item.is in search (rules, arith)

pub eval_united-returns-in_err-value-clause-value : goal.eval_united-returns-in_err-value-clause-value
eval_united-returns-in_err-value-clause-value g t c =
    let p = err_from_is_err_and c.from_residual.result c.from_residual.ensures.1 in
    rw (p.1, p.2) (fault_folded with_argument (λ q. fitted (united_answer q)) nothing_united _ _ _ _ _ _ _ _ _ _ _
    (united-whole _ _ _)
    c.loop-arg-test.true c.arg-item.is c.loop-arg.invariant.same c.loop-arg.invariant.so_far c.in_err-value.ensures.value)

pub eval_united-returns-in_err-united-clause-value : goal.eval_united-returns-in_err-united-clause-value
eval_united-returns-in_err-united-clause-value g t c =
    let p = err_from_is_err_and c.from_residual-in_err-united.result c.from_residual-in_err-united.ensures.1 in
    rw (p.1, p.2) (memory_folded with_argument (λ q. fitted (united_answer q)) nothing_united _ _ _ _ _ _ _ _ _ _
    (united-whole _ _ _)
    c.loop-arg-test.true c.arg-item.is c.loop-arg.invariant.same c.loop-arg.invariant.so_far c.in_ok-value.ensures.value.1)

pub eval_united-returns-clause-value : goal.eval_united-returns-clause-value
eval_united-returns-clause-value g t c =
    folded_fitted with_argument united_answer nothing_united _ _ _ _ _ _ _ _ _
    (united-whole _ _ _) c.loop-arg-test.false
    c.loop-arg.invariant.so_far c.answer.ensures c.fitted.ensures

pub eval_known-eval_paired-requires : goal.eval_known-eval_paired-requires
eval_known-eval_paired-requires g t c =
    let is : is_pairing c.args.function ≡ true = paired-way c.args.function (sym c.way_of.ensures ∙ c.in-Paired.is) in
    search (rules, arith, is)

pub eval_all-returns-in_err-eval_expr-clause-values : goal.eval_all-returns-in_err-eval_expr-clause-values
eval_all-returns-in_err-eval_expr-clause-values g t c =
    let p = err_from_is_err_and c.from_residual.result c.from_residual.ensures.1 in
    rw (p.1, p.2) (fault_all _ _ _ _ _ _ _ _ _ _ c.loop-arg-test.true c.arg-item.is c.loop-arg.invariant.same c.loop-arg.invariant.so_far
    c.in_err-eval_expr.ensures.value)

pub eval_all-returns-in_err-push-clause-values : goal.eval_all-returns-in_err-push-clause-values
eval_all-returns-in_err-push-clause-values g t c =
    let p = err_from_is_err_and c.from_residual-in_err-push.result c.from_residual-in_err-push.ensures.1 in
    rw (p.1, p.2) (memory_all _ _ _ _ _ _ _ _ _ c.loop-arg-test.true c.arg-item.is c.loop-arg.invariant.same c.loop-arg.invariant.so_far
    c.in_ok-eval_expr.ensures.value.1)

pub eval_drawn-returns-in_err-values-clause-value : goal.eval_drawn-returns-in_err-values-clause-value
eval_drawn-returns-in_err-values-clause-value g t c =
    let p = err_from_is_err_and c.from_residual.result c.from_residual.ensures.1 in
    let l = g.L.Look.told c.args.look.now in
    rw (p.1, p.2) (handed_draw l c.args.function (runs l (args_tree c.args.args.now)) (g.L.Look.drawn c.args.look.now) _ _
    c.in_err-values.ensures.values)

pub eval_early-returns-in-Some-clause-value : goal.eval_early-returns-in-Some-clause-value
eval_early-returns-in-Some-clause-value g t c =
    early_stops _ _ _ _ _ _ _ _ _ _ _ _ c.loop-arg-test.true c.arg-item.is c.loop-arg.invariant.same c.loop-arg.invariant.so_far
    c.eval_expr-answer.ensures.value c.in-Some.ensures

pub eval_early-loop-arg-preserved : goal.eval_early-loop-arg-preserved
eval_early-loop-arg-preserved g t c = record {
  so_far = early_goes_on _ _ _ _ _ _ _ _ _ _ _ c.loop-arg-test.true c.arg-item.is c.loop-arg.invariant.same c.loop-arg.invariant.so_far
      c.eval_expr-answer.ensures.value c.in_default.ensures;
  same = c.eval_expr-answer.ensures.same ∙ c.loop-arg.invariant.same;
  held = c.eval_expr-answer.ensures.held ∙ c.loop-arg.invariant.held;
  counted = omega arith;
}

pub eval_early-returns-clause-value : goal.eval_early-returns-clause-value
eval_early-returns-clause-value g t c =
    early_ends _ _ _ _ _ _ _ _ c.loop-arg-test.false c.loop-arg.invariant.so_far c.at_end.ensures

pub eval_if-returns-in_err-eval_expr-in-len3-up-clause-value : goal.eval_if-returns-in_err-eval_expr-in-len3-up-clause-value
eval_if-returns-in_err-eval_expr-in-len3-up-clause-value g t c =
    let p = err_from_is_err_and c.from_residual.result c.from_residual.ensures.1 in
    rw (p.1, p.2) (fault_if _ _ _ _ _ _ c.in-len3-up.len_at_least c.test-item.is c.in_err-eval_expr-in-len3-up.ensures.value)

pub eval_if-returns-in_default-clause-value : goal.eval_if-returns-in_default-clause-value
eval_if-returns-in_default-clause-value g t c =
    rw (if-few (g.L.Look.told c.args.look.now) c.args.args.now (g.L.Look.drawn c.args.look.now) c.in_default.len_below)
    (rw c.wrong_type.ensures (of_fault _ _ _ refl refl refl))

pub eval_expr-returns-in_err-chain-clause-value : goal.eval_expr-returns-in_err-chain-clause-value
eval_expr-returns-in_err-chain-clause-value g t c =
    let p = err_from_is_err_and c.from_residual.result c.from_residual.ensures.1 in
    rw (p.1, p.2) (of_memory _ _ (value-grows (g.L.Look.told c.args.look.now) (expr_tree c.args.e.now) (g.L.Look.drawn c.args.look.now)))

pub eval_expr-eval_start-requires : goal.eval_expr-eval_start-requires
eval_expr-eval_start-requires g t c =
    let s = start_tree c.in_ok-chain.chain.start in
    let whole : chain_tree c.in_ok-chain.chain ≡ expr_tree c.args.e.now = c.in_ok-chain.ensures in
    let le : expr_count s ≤ expr_count (expr_tree c.args.e.now) =
    omega (arith, base_le_built s c.in_ok-chain.chain.accesses.items, ap expr_count whole) in
    search (rules, arith)

pub eval_expr-returns-in_err-value-clause-value : goal.eval_expr-returns-in_err-value-clause-value
eval_expr-returns-in_err-value-clause-value g t c =
    let p = err_from_is_err_and c.from_residual-in_err-value.result c.from_residual-in_err-value.ensures.1 in
    rw (p.1, p.2) (fault_of_start _ (start_tree c.in_ok-chain.chain.start) c.in_ok-chain.chain.accesses.items _ _ _ _
    c.in_ok-chain.ensures c.in_err-value.ensures.value)

pub eval_expr-loop-access-init : goal.eval_expr-loop-access-init
eval_expr-loop-access-init g t c =
    let s = start_tree c.in_ok-chain.chain.start in
    let rest = c.in_ok-chain.chain.accesses.items in
    let whole : chain_tree c.in_ok-chain.chain ≡ expr_tree c.args.e.now = c.in_ok-chain.ensures in
    record {
      so_far = start_value (g.L.Look.told c.args.look.now) s rest (expr_tree c.args.e.now) (g.L.Look.drawn c.args.look.now)
          (tree c.in_ok-value.value) (g.L.Look.drawn c.eval_start.new.look) whole c.in_ok-value.ensures.value;
      same = c.in_ok-value.ensures.same;
      held = c.in_ok-value.ensures.held;
      keys = omega (arith, keys_le_built s rest, ap expr_count whole);
    }

pub eval_expr-eval_access-requires : goal.eval_expr-eval_access-requires
eval_expr-eval_access-requires g t c =
    let a = c.in-Some.access in
    let rest = c.pop.new.self.items in
    let split : c.loop-access.accesses.items ≡ rest ++ a ∷ [] = search rules in
    let le : key_count a ≤ expr_count (expr_tree c.args.e.now) =
    omega (arith, ap keys_count split, keys_count-snoc rest a, c.loop-access.invariant.keys) in
    search (rules, arith)

pub eval_expr-returns-in_err-value-2-clause-value : goal.eval_expr-returns-in_err-value-2-clause-value
eval_expr-returns-in_err-value-2-clause-value g t c =
    let p = err_from_is_err_and c.from_residual-in_err-value-2.result c.from_residual-in_err-value-2.ensures.1 in
    let a = c.in-Some.access in
    let rest = c.pop.new.self.items in
    let split : c.loop-access.accesses.items ≡ rest ++ a ∷ [] = search rules in
    rw (p.1, p.2) (fault_of_access _ _ rest c.loop-access.accesses.items a (tree c.loop-access.value)
    (g.L.Look.drawn c.loop-access.look) _ _ _ split c.loop-access.invariant.same c.loop-access.invariant.so_far
    c.in_err-value-2.ensures.value)

pub eval_expr-loop-access-preserved : goal.eval_expr-loop-access-preserved
eval_expr-loop-access-preserved g t c =
    let a = c.in-Some.access in
    let rest = c.pop.new.self.items in
    let split : c.loop-access.accesses.items ≡ rest ++ a ∷ [] = search rules in
    record {
      so_far = access_value (g.L.Look.told c.args.look.now) (g.L.Look.told c.loop-access.look) rest c.loop-access.accesses.items a
          (tree c.loop-access.value) (g.L.Look.drawn c.loop-access.look) (tree c.in_ok-value-2.value)
          (g.L.Look.drawn c.eval_access.new.look) _ split c.loop-access.invariant.same c.loop-access.invariant.so_far
          c.in_ok-value-2.ensures.value;
      same = c.in_ok-value-2.ensures.same ∙ c.loop-access.invariant.same;
      held = c.in_ok-value-2.ensures.held ∙ c.loop-access.invariant.held;
      keys = omega (arith, ap keys_count split, keys_count-snoc rest a, c.loop-access.invariant.keys);
    }

pub eval_expr-returns-clause-value : goal.eval_expr-returns-clause-value
eval_expr-returns-clause-value g t c =
    let none : c.loop-access.accesses.items ≡ [] = search rules in
    through (g.L.Look.told c.args.look.now) c.loop-access.accesses.items (tree c.loop-access.value)
    (g.L.Look.drawn c.loop-access.look) _ none c.loop-access.invariant.so_far
