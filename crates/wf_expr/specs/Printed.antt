-- The text that an expression is printed as, in UTF-8: no white space, and each quote of a quoted text twice.
use Rattle.std.specs.Prelude.{ℕ, Bool, true, false, List, [], ◌∷◌, ◌++◌, ◌==◌, if◌then◌else◌, flat_map}
use Rattle.std.specs.Fmt.{signed_decimal}
use Rattle.wf_val.specs.ValueTree.{ValueTree, null, boolean, number, text, list, object}
use Rattle.wf_template.specs.ExprTree.{ExprTree, literal, call, member, index, ExprTrees, no_exprs, expr_then}
use Rattle.wf_expr.specs.Words.{true_text, false_text, null_text}

-- a quote stands twice in a quoted text, and every other byte once
abbrev pub quoted_byte : ℕ → List ℕ
quoted_byte b = if b == 39 then 39 ∷ 39 ∷ [] else b ∷ []

-- a literal; a list or an object, which no text can write as a literal, is printed as nothing
abbrev pub printed_value : ValueTree → List ℕ
printed_value null = null_text
printed_value (boolean true) = true_text
printed_value (boolean false) = false_text
printed_value (number n) = signed_decimal n
printed_value (text s) = 39 ∷ flat_map quoted_byte s ++ 39 ∷ []
printed_value (list ts) = []
printed_value (object ms) = []

-- what stands before a member's name, `.` or `?.`, and before a key, `[` or `?[`
abbrev pub dot : Bool → List ℕ
dot true = 63 ∷ 46 ∷ []
dot false = 46 ∷ []

abbrev pub bracket : Bool → List ℕ
bracket true = 63 ∷ 91 ∷ []
bracket false = 91 ∷ []

abbrev mutual
  pub printed : ExprTree → List ℕ
  printed (literal v) = printed_value v
  printed (call f es) = f ++ 40 ∷ printed_args es
  printed (member b x soft) = printed b ++ (dot soft ++ x)
  printed (index b k soft) = printed b ++ (bracket soft ++ (printed k ++ 93 ∷ []))

  -- the arguments of a call, and its `)`
  pub printed_args : ExprTrees → List ℕ
  printed_args no_exprs = 41 ∷ []
  printed_args (expr_then e es) = printed e ++ printed_more es

  -- further arguments, each behind a comma, and the `)`
  pub printed_more : ExprTrees → List ℕ
  printed_more no_exprs = 41 ∷ []
  printed_more (expr_then e es) = 44 ∷ printed e ++ printed_more es
