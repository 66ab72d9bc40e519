-- What a text is read as, character by character, and the template that this makes.
use Rattle.std.specs.Prelude.{ℕ, zero, suc, ℤ, pos, negsuc, true, false, ◌^◌, ◌+◌, ◌++◌, Bool, List, [], ◌∷◌}
use Rattle.std.specs.Char.{encode_utf8}
use Rattle.wf_val.specs.ValueTree.{null, boolean, number, text}
use Rattle.wf_template.specs.ExprTree.{ExprTree, literal, ExprTrees, expr_then}
use Rattle.wf_template.specs.TemplateTree.{PieceTree, letters, part, TemplateTree, plain, whole, parts}

-- the literals that a text can write
abbrev pub null_literal : ExprTree
null_literal = literal null

abbrev pub boolean_literal : Bool → ExprTree
boolean_literal b = literal (boolean b)

abbrev pub number_literal : ℤ → ExprTree
number_literal n = literal (number n)

abbrev pub text_literal : List ℕ → ExprTree
text_literal t = literal (text t)

-- a number from its sign and its digits; the sign is true for a minus
abbrev pub signed : Bool → ℕ → ℤ
signed false n = pos n
signed true zero = pos 0
signed true (suc n) = negsuc n

-- below this the digits are in the range of 64 bits with a sign
abbrev pub limit : Bool → ℕ
limit false = 2 ^ 63
limit true = 2 ^ 63 + 1

-- arguments, and the others after them
abbrev pub joined : List ExprTree → ExprTrees → ExprTrees
joined [] es = es
joined (x ∷ xs) es = expr_then x (joined xs es)

-- a character that stands for itself, or an expression that stood in `@{` and `}`, with its length in characters
pub data Item : Type 0 where
  character : ℕ → Item
  embedded : ExprTree → ℕ → Item

-- the text is one expression, or items in a row
pub data Reading : Type 0 where
  whole_of : ExprTree → Reading
  items_of : List Item → Reading

-- a character before pieces joins the piece that it stands at, or begins one
abbrev pub put_character : ℕ → List PieceTree → List PieceTree
put_character c [] = letters (encode_utf8 c) ∷ []
put_character c (letters s ∷ ps) = letters (encode_utf8 c ++ s) ∷ ps
put_character c (part e ∷ ps) = letters (encode_utf8 c) ∷ part e ∷ ps

-- characters that stand together are one piece, so no piece is empty
abbrev pub pieces_of : List Item → List PieceTree
pieces_of [] = []
pieces_of (character c ∷ items) = put_character c (pieces_of items)
pieces_of (embedded e n ∷ items) = part e ∷ pieces_of items

-- a text without an expression is plain
abbrev pub template_of_pieces : List PieceTree → TemplateTree
template_of_pieces [] = plain []
template_of_pieces (letters s ∷ []) = plain s
template_of_pieces ps = parts ps

abbrev pub template_of : Reading → TemplateTree
template_of (whole_of e) = whole e
template_of (items_of items) = template_of_pieces (pieces_of items)
