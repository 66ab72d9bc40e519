-- THE VALUE OF A TEMPLATE in a look.
use Rattle.std.specs.Prelude.{List, [], ◌∷◌, Ok}
use Rattle.wf_val.specs.ValueTree.{text}
use Rattle.wf_template.specs.TemplateTree.{PieceTree, letters, part, TemplateTree, plain, whole, parts}
use Rattle.wf_eval_expr.specs.Outcomes.{Run, turned}
use Rattle.wf_eval_expr.specs.Told.{Told}
use Rattle.wf_eval_expr.specs.Joined.{joined, text_answer}
use Rattle.wf_eval_expr.specs.Value.{value}

-- a piece: a literal text is itself
abbrev pub piece_value : Told → PieceTree → Run
piece_value l (letters s) n = (Ok (text s), n)
piece_value l (part e) n = value l e n

abbrev pub piece_runs : Told → List PieceTree → List Run
piece_runs l [] = []
piece_runs l (p ∷ ps) = piece_value l p ∷ piece_runs l ps

-- no text in between is tested for its size: the whole is, once all pieces have values
abbrev pub template_value : Told → TemplateTree → Run
template_value l (plain s) n = (text_answer s, n)
template_value l (whole e) n = value l e n
template_value l (parts ps) n = turned text_answer (joined (piece_runs l ps) [] n)
