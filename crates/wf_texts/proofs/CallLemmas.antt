-- The arguments of a call are counted as they stand.
use Rattle.std.proofs.Common.{◌≡◌, ◌≤◌, ◌<◌, ℕ, zero, suc, List, [], ◌∷◌, length, get_or, map, false, refl, arith}
use Rattle.wf_template.specs.ExprCounts.{expr_count, exprs_count}
use Rattle.wf_template.specs.ExprSeen.{expr_tree}
use Rattle.wf_template.specs.ExprTree.{expr_trees}
use Rattle.wf_template.specs.declared.expr.Expr.{Expr}
use Rattle.wf_texts.specs.Calls.{arg_count, is_name}

pub arguments : (es : List Expr) → arg_count (expr_trees (map expr_tree es)) ≡ length es
arguments [] = refl
arguments (e ∷ es) = omega (arith, arguments es)

pub many_arguments : (es : List Expr) → 2 ≤ length es → false ≡ is_name (expr_trees (map expr_tree es))
many_arguments [] many = absurd (omega arith)
many_arguments (e ∷ []) many = absurd (omega arith)
many_arguments (e ∷ f ∷ es) many = refl

-- an argument is smaller than the arguments in a row
pub argument-smaller : (xs : List Expr) (i : ℕ) (x : Expr) → i < length xs → x ≡ get_or xs i x
    → expr_count (expr_tree x) < exprs_count (expr_trees (map expr_tree xs))
argument-smaller xs i x lt e = rw e (go xs i x lt)
  where
    go : (ys : List Expr) (j : ℕ) (d : Expr) → j < length ys
        → expr_count (expr_tree (get_or ys j d)) < exprs_count (expr_trees (map expr_tree ys))
    go [] j d within = absurd (omega arith)
    go (y ∷ ys) zero d within = omega arith
    go (y ∷ ys) (suc j) d within = omega (arith, go ys j d (omega arith))
