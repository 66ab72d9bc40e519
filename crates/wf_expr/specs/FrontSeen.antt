-- What the part of a text that is read stands for.
use Rattle.std.specs.Prelude.{ℕ, Option, None, List, [], ◌∷◌, ◌++◌, map, chars, string_bytes}
use Rattle.wf_expr.specs.Reading.{Item, character, embedded}
use Rattle.wf_template.specs.TemplateTree.{PieceTree, letters, part}
use Rattle.wf_expr.specs.Spells.{over}
use Rattle.wf_expr.specs.declared.front.Front.{Front}
use Rattle.wf_expr.specs.declared.front.Section.{Section}

-- each character of the text stands for itself
abbrev pub characters : List ℕ → List Item
characters text = map character (chars text)

abbrev pub sections_seen : List Section → List Item
sections_seen [] = []
sections_seen (s ∷ ss) = characters (string_bytes s.literal) ++ embedded s.expression s.length ∷ sections_seen ss

abbrev pub items_seen : Front → List Item
items_seen f = sections_seen f.sections.items ++ characters (string_bytes f.literal)

-- a text that stands for itself is a piece, unless it is empty
abbrev pub lettered : List ℕ → List PieceTree
lettered [] = []
lettered (b ∷ bs) = letters (b ∷ bs) ∷ []

-- the pieces of sections
abbrev pub sections_pieces : List Section → List PieceTree
sections_pieces [] = []
sections_pieces (s ∷ ss) = lettered (string_bytes s.literal) ++ part s.expression ∷ sections_pieces ss

-- the length of the first expression of sections that is too long
abbrev pub sections_over : List Section → Option ℕ
sections_over [] = None
sections_over (s ∷ ss) = over s.length (sections_over ss)
