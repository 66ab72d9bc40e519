-- Expressions that worked values share, and what they come to.
use Rattle.std.proofs.Common.{ℕ, List, [], ◌∷◌, true, false}
use Rattle.std.specs.Prelude.{pos, codes}
use Rattle.wf_val.specs.ValueTree.{null, boolean, number, text, list, trees}
use Rattle.wf_template.specs.ExprTree.{ExprTree, literal, call, expr_trees}
use Rattle.wf_look.proofs.WorkedLook.{one_member, somewhere, nowhere}
use Rattle.wf_look.specs.Outcomes.{Outcome}
use Rattle.wf_eval_expr.specs.Value.{value}

abbrev pub int : ℕ → ExprTree
int n = literal (number (pos n))

abbrev pub word : List ℕ → ExprTree
word s = literal (text s)

abbrev pub truth : ExprTree
truth = literal (boolean true)

abbrev pub untruth : ExprTree
untruth = literal (boolean false)

abbrev pub nothing : ExprTree
nothing = literal null

abbrev pub two_items : ExprTree
two_items = literal (list (trees (text (codes "x") ∷ null ∷ [])))

abbrev pub five : ExprTree
five = literal (one_member (codes "a") (number (pos 5)))

abbrev pub of : List ℕ → List ExprTree → ExprTree
of name es = call name (expr_trees es)

-- two that fault
abbrev pub by_zero : ExprTree
by_zero = of (codes "div") (int 1 ∷ int 0 ∷ [])

abbrev pub rest_by_zero : ExprTree
rest_by_zero = of (codes "mod") (int 1 ∷ int 0 ∷ [])

abbrev pub here : ExprTree → Outcome
here e = value somewhere e 7

abbrev pub there : ExprTree → Outcome
there e = value nowhere e 7
