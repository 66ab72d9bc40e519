-- The words of expressions, without letter case: true, false and null.
use Rattle.std.specs.Prelude.{◌≡◌, ℕ, true, false, List, [], ◌∷◌, map}
use Rattle.std.specs.Char.{to_ascii_lowercase}
use Rattle.wf_template.specs.ExprTree.{ExprTree}
use Rattle.wf_expr.specs.Reading.{boolean_literal, null_literal}

abbrev pub lower : List ℕ → List ℕ
lower t = map to_ascii_lowercase t

abbrev pub true_text : List ℕ
true_text = 116 ∷ 114 ∷ 117 ∷ 101 ∷ []

abbrev pub false_text : List ℕ
false_text = 102 ∷ 97 ∷ 108 ∷ 115 ∷ 101 ∷ []

abbrev pub null_text : List ℕ
null_text = 110 ∷ 117 ∷ 108 ∷ 108 ∷ []

-- the words and what they stand for
pub data Word : List ℕ → ExprTree → Type 0 where
  is_true : {t : List ℕ} → lower t ≡ true_text → Word t (boolean_literal true)
  is_false : {t : List ℕ} → lower t ≡ false_text → Word t (boolean_literal false)
  is_null : {t : List ℕ} → lower t ≡ null_text → Word t null_literal
