-- Accesses in a row.
use Rattle.std.proofs.Common.{◌≡◌, List, [], ◌∷◌, refl, ap}
use Rattle.wf_template.specs.ExprTree.{ExprTree, no_exprs, expr_then, expr_trees}
use Rattle.wf_expr.specs.Reading.{joined}

pub joined_none : (es : List ExprTree) → joined es no_exprs ≡ expr_trees es
joined_none [] = refl
joined_none (e ∷ es) = ap (λ t. expr_then e t) (joined_none es)
