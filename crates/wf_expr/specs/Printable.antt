-- Which expressions a text can write inside n open `(` and `[`: their literals are null, truth values, numbers and texts,
-- their names are those of the grammar, and no more than 64 `(` and `[` are open at once.
use Rattle.std.specs.Prelude.{◌≡◌, ℕ, suc, ◌<◌, ◌⊎◌, List, [], ◌∷◌, All, ⊤}
use Rattle.wf_val.specs.ValueTree.{ValueTree, null, boolean, number, text, list, object}
use Rattle.wf_expr.specs.Kinds.{kind}
use Rattle.wf_expr.specs.declared.kind.Kind.TheVariants.{Letter, Digit}
use Rattle.wf_expr.specs.Grammar.{IsMore, IsFirst}
use Rattle.wf_template.specs.ExprTree.{ExprTree, literal, call, member, index, ExprTrees, no_exprs, expr_then}

abbrev pub IsPrintableValue : ValueTree → Type 0
IsPrintableValue null = ⊤
IsPrintableValue (boolean b) = ⊤
IsPrintableValue (number n) = ⊤
IsPrintableValue (text s) = ⊤
IsPrintableValue (list ts) = ⊥
IsPrintableValue (object ms) = ⊥

-- a letter, and then letters, digits and `_`
abbrev pub IsFunctionName : List ℕ → Type 0
IsFunctionName [] = ⊥
IsFunctionName (c ∷ s) = (kind c ≡ Letter) × All IsMore s

-- a letter, `_` or `$`, and then these and digits
abbrev pub IsMemberMore : ℕ → Type 0
IsMemberMore c = IsFirst c ⊎ (kind c ≡ Digit)

abbrev pub IsMemberName : List ℕ → Type 0
IsMemberName [] = ⊥
IsMemberName (c ∷ s) = IsFirst c × All IsMemberMore s

abbrev mutual
  pub IsPrintable : ℕ → ExprTree → Type 0
  IsPrintable n (literal v) = IsPrintableValue v
  IsPrintable n (call f es) = IsFunctionName f × (n < 64) × ArePrintable (suc n) es
  IsPrintable n (member b x soft) = IsPrintable n b × IsMemberName x
  IsPrintable n (index b k soft) = IsPrintable n b × (n < 64) × IsPrintable (suc n) k

  pub ArePrintable : ℕ → ExprTrees → Type 0
  ArePrintable n no_exprs = ⊤
  ArePrintable n (expr_then e es) = IsPrintable n e × ArePrintable n es
