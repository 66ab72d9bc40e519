-- Arguments as they are written.
use Rattle.std.specs.Prelude.{ℕ, List, Option, Some, None, map}
use Rattle.wf_val.specs.ValueTree.{text}
use Rattle.wf_template.specs.ExprSeen.{expr_tree}
use Rattle.wf_template.specs.ExprTree.{ExprTrees, literal, expr_then, expr_trees}
use Rattle.wf_template.specs.declared.expr.Expr.{Expr}

-- the trees of arguments
abbrev pub args_tree : List Expr → ExprTrees
args_tree es = expr_trees (map expr_tree es)

-- the name that a naming function has as its literal
abbrev pub literal_name : ExprTrees → Option (List ℕ)
literal_name (expr_then (literal (text name)) es) = Some name
literal_name es = None
