-- What loops over parts need: each part is smaller than the whole.
use Rattle.std.proofs.Common.{◌≡◌, ℕ, zero, suc, ◌<◌, ◌≤◌, List, [], ◌∷◌, map, length, get_or, arith}
use Rattle.wf_template.specs.CondSeen.{cond_tree}
use Rattle.wf_template.specs.CondTree.{cond_trees}
use Rattle.wf_template.specs.DataSeen.{data_member, data_tree}
use Rattle.wf_template.specs.DataTree.{data_members, data_trees, members_count, node_count, trees_count}
use Rattle.wf_template.specs.ExprCounts.{expr_count, exprs_count}
use Rattle.wf_template.specs.ExprSeen.{expr_tree}
use Rattle.wf_template.specs.declared.cond.Cond.{Cond}
use Rattle.wf_template.specs.declared.expr.Expr.{Expr}
use Rattle.wf_template.specs.declared.tree.Tree.{Tree}
use Rattle.wf_eval.specs.Args.{args_tree}
use Rattle.wf_eval.specs.Truth.{cond_count, conds_count}

args-fall : (xs : List Expr) (i : ℕ) (d : Expr) → i < length xs → expr_count (expr_tree (get_or xs i d)) < exprs_count (args_tree xs)
args-fall [] i d lt = absurd (omega arith)
args-fall (x ∷ xs) zero d lt = omega arith
args-fall (x ∷ xs) (suc i) d lt = omega (arith, args-fall xs i d (omega arith))

pub arg-falls : (xs : List Expr) (i : ℕ) (x : Expr) → i < length xs → x ≡ get_or xs i x
    → expr_count (expr_tree x) < exprs_count (args_tree xs)
arg-falls xs i x lt is = rw is (args-fall xs i x lt)

trees-fall : (xs : List Tree) (i : ℕ) (d : Tree) → i < length xs
    → node_count (data_tree (get_or xs i d)) ≤ trees_count (data_trees (map data_tree xs))
trees-fall [] i d lt = absurd (omega arith)
trees-fall (x ∷ xs) zero d lt = omega arith
trees-fall (x ∷ xs) (suc i) d lt = omega (arith, trees-fall xs i d (omega arith))

pub tree-falls : (xs : List Tree) (i : ℕ) (x : Tree) → i < length xs → x ≡ get_or xs i x
    → node_count (data_tree x) ≤ trees_count (data_trees (map data_tree xs))
tree-falls xs i x lt is = rw is (trees-fall xs i x lt)

members-fall : (xs : List (List ℕ × Tree)) (i : ℕ) (d : List ℕ × Tree) → i < length xs
    → node_count (data_tree (get_or xs i d).1) ≤ members_count (data_members (map data_member xs))
members-fall [] i d lt = absurd (omega arith)
members-fall (x ∷ xs) zero d lt = omega arith
members-fall (x ∷ xs) (suc i) d lt = omega (arith, members-fall xs i d (omega arith))

pub member-falls : (xs : List (List ℕ × Tree)) (i : ℕ) (x : List ℕ × Tree) → i < length xs → x ≡ get_or xs i x
    → node_count (data_tree x.1) ≤ members_count (data_members (map data_member xs))
member-falls xs i x lt is = rw is (members-fall xs i x lt)

conds-fall : (xs : List Cond) (i : ℕ) (d : Cond) → i < length xs
    → cond_count (cond_tree (get_or xs i d)) < conds_count (cond_trees (map cond_tree xs))
conds-fall [] i d lt = absurd (omega arith)
conds-fall (x ∷ xs) zero d lt = omega arith
conds-fall (x ∷ xs) (suc i) d lt = omega (arith, conds-fall xs i d (omega arith))

pub cond-falls : (xs : List Cond) (i : ℕ) (x : Cond) → i < length xs → x ≡ get_or xs i x
    → cond_count (cond_tree x) < conds_count (cond_trees (map cond_tree xs))
cond-falls xs i x lt is = rw is (conds-fall xs i x lt)
