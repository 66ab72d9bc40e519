-- What is left to write while an expression is printed.
use Rattle.std.specs.Prelude.{◌≡◌, ℕ, ◌+◌, ◌*◌, List, [], ◌∷◌, ◌++◌, map, reverse, Option, Some, None, ⊤}
use Rattle.wf_val.specs.WellFormed.{IsWellFormed}
use Rattle.wf_template.specs.ExprTree.{ExprTree, literal, call, member, index, ExprTrees, no_exprs, expr_then, expr_trees}
use Rattle.wf_template.specs.ExprSeen.{expr_tree}
use Rattle.wf_template.specs.ExprCounts.{expr_count, exprs_count}
use Rattle.wf_expr.specs.Printed.{printed, printed_more}
use Rattle.wf_expr.specs.declared.unwritten.Part.{Part}
use Rattle.wf_expr.specs.declared.unwritten.Unwritten.{Unwritten}

-- an expression, bytes as they are, or further arguments with the `)` behind them
pub data PartTree : Type 0 where
  expression : ExprTree → PartTree
  bytes : List ℕ → PartTree
  arguments : ExprTrees → PartTree

abbrev pub part_tree : Part → PartTree
part_tree (Part.Expr e) = expression (expr_tree e.now)
part_tree (Part.Text s) = bytes s.now
part_tree (Part.Args es) = arguments (expr_trees (map expr_tree es.now))

-- the parts in the order in which they are written
abbrev pub unwritten_seen : Unwritten → List PartTree
unwritten_seen u = reverse (map part_tree u.parts.items)

abbrev pub Popped : Option Part → List PartTree → List PartTree → Type 0
Popped None old new = old ≡ []
Popped (Some p) old new = old ≡ part_tree p ∷ new

abbrev pub text_of_part : PartTree → List ℕ
text_of_part (expression e) = printed e
text_of_part (bytes s) = s
text_of_part (arguments es) = printed_more es

abbrev pub text_left : List PartTree → List ℕ
text_left [] = []
text_left (u ∷ us) = text_of_part u ++ text_left us

-- a bound on how many parts are still to be taken: each counts for more than those that it leaves
abbrev pub work_of_part : PartTree → ℕ
work_of_part (expression e) = 3 * expr_count e
work_of_part (bytes s) = 1
work_of_part (arguments es) = 3 * exprs_count es + 1

abbrev pub work_left : List PartTree → ℕ
work_left [] = 0
work_left (u ∷ us) = work_of_part u + work_left us

-- the literals are well formed, as all values are
abbrev mutual
  pub HasWellFormedLiterals : ExprTree → Type 0
  HasWellFormedLiterals (literal v) = IsWellFormed v
  HasWellFormedLiterals (call f es) = HaveWellFormedLiterals es
  HasWellFormedLiterals (member b x soft) = HasWellFormedLiterals b
  HasWellFormedLiterals (index b k soft) = HasWellFormedLiterals b × HasWellFormedLiterals k

  pub HaveWellFormedLiterals : ExprTrees → Type 0
  HaveWellFormedLiterals no_exprs = ⊤
  HaveWellFormedLiterals (expr_then e es) = HasWellFormedLiterals e × HaveWellFormedLiterals es

abbrev pub IsWellFormedPart : PartTree → Type 0
IsWellFormedPart (expression e) = HasWellFormedLiterals e
IsWellFormedPart (bytes s) = ⊤
IsWellFormedPart (arguments es) = HaveWellFormedLiterals es

abbrev pub AreWellFormed : List PartTree → Type 0
AreWellFormed [] = ⊤
AreWellFormed (u ∷ us) = IsWellFormedPart u × AreWellFormed us
