use Rattle.std.proofs.Common.{◌≡◌, ◌+◌, ◌*◌, map, drop}
use Rattle.wf_val.specs.declared.function.Fun.{Fun}
use Rattle.wf_template.specs.CondTree.{cond_trees}
use Rattle.wf_template.specs.CondSeen.{cond_tree}
use Rattle.wf_eval_expr.specs.Value.{early}
use Rattle.wf_eval.specs.Truth.{truths_of, cond_count, conds_count}
use Rattle.wf_eval.proofs.cond.+eval_cond.Given as goal

abbrev pub invariant-all_hold-loop-condition : goal.invariant-all_hold-loop-condition
invariant-all_hold-loop-condition g l = record {
  so_far :
      early Fun.And (truths_of (g.L.Look.told l.fn.look)
      (cond_trees (map cond_tree (drop l.condition-index l.conditions)))) l.condition-index (g.L.Look.drawn l.look)
      ≡ early Fun.And (truths_of (g.L.Look.told l.fn.look) (cond_trees (map cond_tree l.conditions))) 0 (g.L.Look.drawn l.fn.look);
  same : g.L.Look.told l.look ≡ g.L.Look.told l.fn.look;
  held : g.L.Look.held l.look ≡ g.L.Look.held l.fn.look;
}

abbrev pub invariant-any_holds-loop-condition : goal.invariant-any_holds-loop-condition
invariant-any_holds-loop-condition g l = record {
  so_far :
      early Fun.Or (truths_of (g.L.Look.told l.fn.look)
      (cond_trees (map cond_tree (drop l.condition-index l.conditions)))) l.condition-index (g.L.Look.drawn l.look)
      ≡ early Fun.Or (truths_of (g.L.Look.told l.fn.look) (cond_trees (map cond_tree l.conditions))) 0 (g.L.Look.drawn l.fn.look);
  same : g.L.Look.told l.look ≡ g.L.Look.told l.fn.look;
  held : g.L.Look.held l.look ≡ g.L.Look.held l.fn.look;
}

abbrev pub decreases-eval_cond : goal.decreases-eval_cond
decreases-eval_cond g l = 2 * cond_count (cond_tree l.c.now)

abbrev pub decreases-all_hold : goal.decreases-all_hold
decreases-all_hold g l = 2 * conds_count (cond_trees (map cond_tree l.conditions.now)) + 1

abbrev pub decreases-any_holds : goal.decreases-any_holds
decreases-any_holds g l = 2 * conds_count (cond_trees (map cond_tree l.conditions.now)) + 1
