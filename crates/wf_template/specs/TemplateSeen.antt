-- The tree that a `Template` stands for.
use Rattle.std.specs.Prelude.{List, map}
use Rattle.wf_template.specs.ExprSeen.{expr_tree}
use Rattle.wf_template.specs.TemplateTree.{PieceTree, letters, part, TemplateTree, plain, whole, parts}
use Rattle.wf_template.specs.declared.template.Piece.{Piece}
use Rattle.wf_template.specs.declared.template.Pieces.{Pieces}
use Rattle.wf_template.specs.declared.template.Template.{Template}

abbrev pub piece_tree : Piece → PieceTree
piece_tree (Piece.Lit s) = letters s
piece_tree (Piece.Part e) = part (expr_tree e)

abbrev pub pieces_seen : Pieces → List PieceTree
pieces_seen ps = map piece_tree ps.items.items

abbrev pub template_tree : Template → TemplateTree
template_tree (Template.Plain s) = plain s
template_tree (Template.Whole e) = whole (expr_tree e)
template_tree (Template.Parts ps) = parts (pieces_seen ps)
