use Rattle.std.proofs.Common.{◌≡◌, map, take}
use Rattle.wf_template.specs.TemplateSeen.{piece_tree}
use Rattle.wf_template.proofs.template.Pieces.copy.Given as goal

-- the copies so far
abbrev pub invariant-loop-item : goal.invariant-loop-item
invariant-loop-item l = map piece_tree l.copies.items ≡ map piece_tree (take l.item-index l.item-items)
