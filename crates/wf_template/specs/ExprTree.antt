-- An expression as contracts see it: a tree over plain lists and numbers (Workflow Definition Language, "Expressions").
-- A name is its bytes in UTF-8. The truth value of an access says whether it was written with `?`.
use Rattle.std.specs.Prelude.{ℕ, Bool, List, [], ◌∷◌}
use Rattle.wf_val.specs.ValueTree.{ValueTree}

mutual
  pub data ExprTree : Type 0 where
    literal : ValueTree → ExprTree
    call : List ℕ → ExprTrees → ExprTree
    member : ExprTree → List ℕ → Bool → ExprTree
    index : ExprTree → ExprTree → Bool → ExprTree

  pub data ExprTrees : Type 0 where
    no_exprs : ExprTrees
    expr_then : ExprTree → ExprTrees → ExprTrees

-- expressions in a row, from a list
abbrev pub expr_trees : List ExprTree → ExprTrees
expr_trees [] = no_exprs
expr_trees (e ∷ es) = expr_then e (expr_trees es)
