-- A text of a definition as contracts see it. A text is its bytes in UTF-8.
use Rattle.std.specs.Prelude.{ℕ, List}
use Rattle.wf_template.specs.ExprTree.{ExprTree}

-- a text that stands for itself, or an expression that joins the text
pub data PieceTree : Type 0 where
  letters : List ℕ → PieceTree
  part : ExprTree → PieceTree

-- a text without expressions, an expression that keeps its type, or a text put together of pieces
pub data TemplateTree : Type 0 where
  plain : List ℕ → TemplateTree
  whole : ExprTree → TemplateTree
  parts : List PieceTree → TemplateTree
