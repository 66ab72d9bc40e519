-- The tree that an `Expr` stands for.
use Rattle.std.specs.Prelude.{List, map}
use Rattle.wf_val.specs.Seen.{tree}
use Rattle.wf_template.specs.ExprTree.{ExprTree, literal, call, member, index, expr_trees}
use Rattle.wf_template.specs.declared.expr.Expr.{Expr, Expr-F, fold-Expr}
use Rattle.wf_template.specs.declared.expr.Expr.TheOpen.{Exprs-F}
use Rattle.wf_template.specs.declared.expr.Exprs.{Exprs, out-Exprs}

-- the top of an expression, whose parts are seen already
abbrev pub expr_step : Expr-F ExprTree (List ExprTree) → ExprTree
expr_step (Expr-F.Lit v) = literal (tree v)
expr_step (Expr-F.Call name args) = call name (expr_trees args)
expr_step (Expr-F.Member base name soft) = member base.value name soft
expr_step (Expr-F.Index base key soft) = index base.value key.value soft

abbrev pub exprs_step : Exprs-F ExprTree (List ExprTree) → List ExprTree
exprs_step a = a.items.items

abbrev pub expr_tree : Expr → ExprTree
expr_tree = fold-Expr ExprTree (List ExprTree) expr_step exprs_step

abbrev pub exprs_seen : Exprs → List ExprTree
exprs_seen es = map expr_tree (out-Exprs es).items.items
