use Rattle.std.proofs.Common.{◌≡◌, ◌++◌, map, drop}
use Rattle.wf_template.specs.TemplateSeen.{piece_tree}
use Rattle.wf_eval.specs.Uses.{piece_uses}
use Rattle.wf_uses.specs.Seen.{found_uses}
use Rattle.wf_refs.proofs.templates.in_pieces.Given as goal

-- what is found so far, and what is left
abbrev pub invariant-loop-piece : goal.invariant-loop-piece
invariant-loop-piece l =
    found_uses l.all.items ++ piece_uses (map piece_tree (drop l.piece-index l.pieces))
    ≡ found_uses l.fn.found.items ++ piece_uses (map piece_tree l.pieces)
