-- Whether a name is a word, or begins one, as tests.
use Rattle.std.specs.Prelude.{ℕ, Bool, true, false, List, [], ◌∷◌, nat_eq, ◌&&◌, ◌||◌, if◌then◌else◌, Option, Some, None}
use Rattle.std.specs.Str.{str_eq_ignore_ascii_case}
use Rattle.wf_template.specs.ExprTree.{ExprTree}
use Rattle.wf_expr.specs.Reading.{boolean_literal, null_literal}
use Rattle.wf_expr.specs.Words.{lower, true_text, false_text, null_text}

abbrev pub is_front : List ℕ → List ℕ → Bool
is_front [] ys = true
is_front (x ∷ xs) [] = false
is_front (x ∷ xs) (y ∷ ys) = nat_eq x y && is_front xs ys

unfoldable pub word_of : List ℕ → Option ExprTree
word_of t = if str_eq_ignore_ascii_case t true_text then Some (boolean_literal true) else if str_eq_ignore_ascii_case t false_text then Some (boolean_literal false) else if str_eq_ignore_ascii_case t null_text then Some null_literal else None

unfoldable pub word_front : List ℕ → Bool
word_front t = is_front (lower t) true_text || (is_front (lower t) false_text || is_front (lower t) null_text)
