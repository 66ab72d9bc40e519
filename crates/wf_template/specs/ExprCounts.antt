-- How large an expression is: itself and its parts, and one for each argument; more than each part, so a recursion ends.
use Rattle.std.specs.Prelude.{ℕ, ◌+◌, List}
use Rattle.wf_template.specs.ExprTree.{ExprTree, literal, call, member, index, ExprTrees, no_exprs, expr_then, expr_trees}

abbrev mutual
  pub expr_count : ExprTree → ℕ
  expr_count (literal v) = 1
  expr_count (call f es) = 1 + exprs_count es
  expr_count (member b f soft) = 1 + expr_count b
  expr_count (index b k soft) = 1 + (expr_count b + expr_count k)

  pub exprs_count : ExprTrees → ℕ
  exprs_count no_exprs = 0
  exprs_count (expr_then e es) = 1 + (expr_count e + exprs_count es)

abbrev pub count_of_exprs : List ExprTree → ℕ
count_of_exprs es = exprs_count (expr_trees es)
