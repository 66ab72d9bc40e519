use Rattle.std.proofs.Common.{◌≡◌, ◌++◌}
use Rattle.wf_expr.specs.FrontSeen.{sections_pieces}
use Rattle.wf_template.specs.TemplateSeen.{pieces_seen}
use Rattle.wf_expr.proofs.front.pieces_of.Given as goal

-- the pieces so far, with those of the sections that are left, are the pieces of all
abbrev pub invariant-loop-section : goal.invariant-loop-section
invariant-loop-section l = pieces_seen l.pieces ++ sections_pieces l.section-iterator.rest.items ≡ sections_pieces l.fn.sections.items
