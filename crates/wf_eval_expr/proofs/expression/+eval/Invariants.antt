use Rattle.std.proofs.Common.{◌≡◌, ◌+◌, ◌*◌, ◌≤◌, drop, length, [], Ok}
use Rattle.wf_val.specs.Seen.{tree}
use Rattle.wf_template.specs.ExprCounts.{expr_count, exprs_count}
use Rattle.wf_template.specs.ExprSeen.{expr_tree}
use Rattle.wf_template.specs.ChainSeen.{start_tree}
use Rattle.wf_template.proofs.ChainLemmas.{key_count}
use Rattle.wf_look.specs.Args.{args_tree}
use Rattle.wf_eval_expr.specs.Seen.{chained}
use Rattle.wf_look.specs.Collected.{nothing, with_item}
use Rattle.wf_folds.specs.Paired.{nothing_paired, with_value}
use Rattle.wf_folds.specs.PairedSeen.{paired_seen}
use Rattle.wf_folds.specs.United.{nothing_united, with_argument}
use Rattle.wf_folds.specs.UnitedSeen.{united_seen}
use Rattle.wf_eval_expr.specs.Folded.{folded}
use Rattle.wf_eval_expr.specs.MeasuredRuns.{measured}
use Rattle.wf_look.specs.Outcomes.{all_after}
use Rattle.wf_eval_expr.specs.Value.{value, runs, early}
use Rattle.wf_eval_expr.proofs.Chains.{keys_count}
use Rattle.wf_eval_expr.proofs.expression.+eval.Given as goal

-- what the accesses that are left make of the value so far is the whole
abbrev pub invariant-eval_expr-loop-access : goal.invariant-eval_expr-loop-access
invariant-eval_expr-loop-access g l = record {
  so_far :
      chained (g.L.Look.told l.fn.look) l.accesses.items (Ok (tree l.value), g.L.Look.drawn l.look)
      ≡ value (g.L.Look.told l.fn.look) (expr_tree l.e) (g.L.Look.drawn l.fn.look);
  same : g.L.Look.told l.look ≡ g.L.Look.told l.fn.look;
  held : g.L.Look.held l.look ≡ g.L.Look.held l.fn.look;
  keys : keys_count l.accesses.items ≤ expr_count (expr_tree l.e);
}

abbrev pub decreases-eval_expr-loop-access : goal.decreases-eval_expr-loop-access
decreases-eval_expr-loop-access g l = length l.accesses.items

abbrev pub invariant-eval_all-loop-arg : goal.invariant-eval_all-loop-arg
invariant-eval_all-loop-arg g l = record {
  so_far :
      all_after (runs (g.L.Look.told l.initial.look) (args_tree (drop l.arg-index l.args))) l.values (g.L.Look.drawn l.look)
      ≡ all_after (runs (g.L.Look.told l.initial.look) (args_tree l.args)) [] (g.L.Look.drawn l.initial.look);
  same : g.L.Look.told l.look ≡ g.L.Look.told l.initial.look;
  held : g.L.Look.held l.look ≡ g.L.Look.held l.initial.look;
}

-- what the arguments that are left make behind the text so far is the whole
abbrev pub invariant-eval_joined-loop-arg : goal.invariant-eval_joined-loop-arg
invariant-eval_joined-loop-arg g l = record {
  so_far :
      measured (runs (g.L.Look.told l.initial.look) (args_tree (drop l.arg-index l.args))) l.text (g.L.Look.drawn l.look)
      ≡ measured (runs (g.L.Look.told l.initial.look) (args_tree l.args)) ([], 0) (g.L.Look.drawn l.initial.look);
  same : g.L.Look.told l.look ≡ g.L.Look.told l.initial.look;
  held : g.L.Look.held l.look ≡ g.L.Look.held l.initial.look;
}

-- what the arguments that are left make behind the items so far is the whole
abbrev pub invariant-eval_collected-loop-arg : goal.invariant-eval_collected-loop-arg
invariant-eval_collected-loop-arg g l = record {
  so_far :
      folded with_item (runs (g.L.Look.told l.initial.look) (args_tree (drop l.arg-index l.args))) l.items (g.L.Look.drawn l.look)
      ≡ folded with_item (runs (g.L.Look.told l.initial.look) (args_tree l.args)) nothing (g.L.Look.drawn l.initial.look);
  same : g.L.Look.told l.look ≡ g.L.Look.told l.initial.look;
  held : g.L.Look.held l.look ≡ g.L.Look.held l.initial.look;
}

-- what the arguments that are left make with what is kept so far is the whole
abbrev pub invariant-eval_paired-loop-arg : goal.invariant-eval_paired-loop-arg
invariant-eval_paired-loop-arg g l = record {
  so_far :
      folded with_value (runs (g.L.Look.told l.initial.look) (args_tree (drop l.arg-index l.args))) (paired_seen l.paired)
      (g.L.Look.drawn l.look)
      ≡ folded with_value (runs (g.L.Look.told l.initial.look) (args_tree l.args)) (nothing_paired l.fn.function)
      (g.L.Look.drawn l.initial.look);
  same : g.L.Look.told l.look ≡ g.L.Look.told l.initial.look;
  held : g.L.Look.held l.look ≡ g.L.Look.held l.initial.look;
}

abbrev pub invariant-eval_united-loop-arg : goal.invariant-eval_united-loop-arg
invariant-eval_united-loop-arg g l = record {
  so_far :
      folded with_argument (runs (g.L.Look.told l.initial.look) (args_tree (drop l.arg-index l.args))) (united_seen l.united)
      (g.L.Look.drawn l.look)
      ≡ folded with_argument (runs (g.L.Look.told l.initial.look) (args_tree l.args)) nothing_united (g.L.Look.drawn l.initial.look);
  same : g.L.Look.told l.look ≡ g.L.Look.told l.initial.look;
  held : g.L.Look.held l.look ≡ g.L.Look.held l.initial.look;
}

abbrev pub invariant-eval_early-loop-arg : goal.invariant-eval_early-loop-arg
invariant-eval_early-loop-arg g l = record {
  so_far :
      early l.function (runs (g.L.Look.told l.initial.look) (args_tree (drop l.arg-index l.args))) l.place (g.L.Look.drawn l.look)
      ≡ early l.function (runs (g.L.Look.told l.initial.look) (args_tree l.args)) 0 (g.L.Look.drawn l.initial.look);
  same : g.L.Look.told l.look ≡ g.L.Look.told l.initial.look;
  held : g.L.Look.held l.look ≡ g.L.Look.held l.initial.look;
  counted : l.place ≡ l.arg-index;
}

abbrev pub decreases-eval_expr : goal.decreases-eval_expr
decreases-eval_expr g l = 8 * expr_count (expr_tree l.e.now) + 6

abbrev pub decreases-eval_start : goal.decreases-eval_start
decreases-eval_start g l = 8 * expr_count (start_tree l.start) + 5

abbrev pub decreases-eval_access : goal.decreases-eval_access
decreases-eval_access g l = 8 * key_count l.access + 4

abbrev pub decreases-eval_call : goal.decreases-eval_call
decreases-eval_call g l = 8 * exprs_count (args_tree l.args.now) + 4

abbrev pub decreases-eval_known : goal.decreases-eval_known
decreases-eval_known g l = 8 * exprs_count (args_tree l.args.now) + 3

abbrev pub decreases-eval_drawn : goal.decreases-eval_drawn
decreases-eval_drawn g l = 8 * exprs_count (args_tree l.args.now) + 2

abbrev pub decreases-eval_all : goal.decreases-eval_all
decreases-eval_all g l = 8 * exprs_count (args_tree l.args.now) + 1

abbrev pub decreases-eval_joined : goal.decreases-eval_joined
decreases-eval_joined g l = 8 * exprs_count (args_tree l.args.now) + 1

abbrev pub decreases-eval_collected : goal.decreases-eval_collected
decreases-eval_collected g l = 8 * exprs_count (args_tree l.args.now) + 1

abbrev pub decreases-eval_paired : goal.decreases-eval_paired
decreases-eval_paired g l = 8 * exprs_count (args_tree l.args.now) + 1

abbrev pub decreases-eval_united : goal.decreases-eval_united
decreases-eval_united g l = 8 * exprs_count (args_tree l.args.now) + 1

abbrev pub decreases-eval_if : goal.decreases-eval_if
decreases-eval_if g l = 8 * exprs_count (args_tree l.args.now) + 1

abbrev pub decreases-eval_early : goal.decreases-eval_early
decreases-eval_early g l = 8 * exprs_count (args_tree l.args.now) + 1
