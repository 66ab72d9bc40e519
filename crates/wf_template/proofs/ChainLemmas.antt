-- Accesses in a row, and how many expressions they hold.
use Rattle.std.proofs.Common.{◌≡◌, ◌+◌, ◌≤◌, ◌<◌, ℕ, List, [], ◌∷◌, ◌++◌, zero, suc, length, map, get_or, refl, ap, arith}
use Rattle.wf_template.specs.ExprTree.{ExprTree}
use Rattle.wf_template.specs.ExprSeen.{expr_tree}
use Rattle.wf_template.specs.ExprCounts.{expr_count, count_of_exprs}
use Rattle.wf_template.specs.ChainSeen.{accessed, built}
use Rattle.wf_template.specs.declared.expr.Expr.{Expr}
use Rattle.wf_template.specs.declared.chain.Access.{Access}

-- more than the key of an access counts
abbrev pub key_count : Access → ℕ
key_count (Access.Member name soft) = 0
key_count (Access.Index key soft) = 1 + expr_count (expr_tree key.now)

pub built_snoc : (b : ExprTree) (rest : List Access) (a : Access) → built b (rest ++ a ∷ []) ≡ built (accessed b a) rest
built_snoc b [] a = refl
built_snoc b (x ∷ rest) a = ap (λ t. accessed t x) (built_snoc b rest a)

pub base_lt_accessed : (b : ExprTree) (a : Access) → expr_count b < expr_count (accessed b a)
base_lt_accessed b (Access.Member name soft) = omega arith
base_lt_accessed b (Access.Index key soft) = omega arith

pub key_le_accessed : (b : ExprTree) (a : Access) → key_count a ≤ expr_count (accessed b a)
key_le_accessed b (Access.Member name soft) = omega arith
key_le_accessed b (Access.Index key soft) = omega arith

pub base_le_built : (b : ExprTree) (rest : List Access) → expr_count b ≤ expr_count (built b rest)
base_le_built b [] = omega arith
base_le_built b (a ∷ rest) = omega (arith, base_le_built b rest, base_lt_accessed (built b rest) a)

pub item_lt_items : (es : List Expr) (i : ℕ) (d : Expr) → i < length es → expr_count (expr_tree (get_or es i d)) < count_of_exprs (map expr_tree es)
item_lt_items [] i d within = absurd (omega arith)
item_lt_items (e ∷ es) zero d within = omega arith
item_lt_items (e ∷ es) (suc i) d within = omega (arith, item_lt_items es i d (omega arith))
