-- WHETHER A CONDITION HOLDS in a look.
use Rattle.std.specs.Prelude.{ℕ, ◌+◌, not, List, [], ◌∷◌, Ok, Err}
use Rattle.wf_val.specs.Arguments.{Answer, given, wrong_type}
use Rattle.wf_val.specs.ValueTree.{ValueTree, boolean}
use Rattle.wf_val.specs.declared.function.Fun.{Fun}
use Rattle.wf_template.specs.CondTree.{CondTree, holds, all_of, any_of, not_of, compare_by, CondTrees, no_conds, cond_then}
use Rattle.wf_eval_expr.specs.Outcomes.{Run, then_run, turned}
use Rattle.wf_eval_expr.specs.Rows.{strict_row}
use Rattle.wf_eval.specs.TemplateValue.{template_value}
use Rattle.wf_eval_expr.specs.Told.{Told}
use Rattle.wf_eval.specs.TreeValue.{tree_value}
use Rattle.wf_eval_expr.specs.Value.{early}

-- a condition's own value has to be a truth value
abbrev pub truth : ValueTree → Answer
truth (boolean b) = Ok (boolean b)
truth t = Err (wrong_type Fun.Condition 0)

abbrev pub negated : ValueTree → Answer
negated (boolean b) = Ok (boolean (not b))
negated t = Err (wrong_type Fun.Condition 0)

-- what the function of a comparison gives of two values, which has to be a truth value too
abbrev pub compared : Fun → ValueTree → ValueTree → Answer
compared f t u = given (strict_row f (t ∷ u ∷ [])) truth

-- `and` and `or` go from left to right up to the first that decides; a comparison is its function of the two values
abbrev mutual
  pub truth_of : Told → CondTree → Run
  truth_of l (holds t) n = turned truth (template_value l t n)
  truth_of l (all_of cs) n = early Fun.And (truths_of l cs) 0 n
  truth_of l (any_of cs) n = early Fun.Or (truths_of l cs) 0 n
  truth_of l (not_of c) n = turned negated (truth_of l c n)
  truth_of l (compare_by f left right) n = then_run (tree_value l left n) (λ t m. turned (compared f t) (tree_value l right m))

  pub truths_of : Told → CondTrees → List Run
  truths_of l no_conds = []
  truths_of l (cond_then c cs) = truth_of l c ∷ truths_of l cs

-- how many conditions there are in a condition, itself included: less in each part, so a recursion over conditions ends
abbrev mutual
  pub cond_count : CondTree → ℕ
  cond_count (holds t) = 1
  cond_count (all_of cs) = 1 + conds_count cs
  cond_count (any_of cs) = 1 + conds_count cs
  cond_count (not_of c) = 1 + cond_count c
  cond_count (compare_by f left right) = 1

  pub conds_count : CondTrees → ℕ
  conds_count no_conds = 0
  conds_count (cond_then c cs) = 1 + (cond_count c + conds_count cs)
