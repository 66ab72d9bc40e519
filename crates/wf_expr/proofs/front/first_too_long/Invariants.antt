use Rattle.std.proofs.Common.{◌≡◌, drop}
use Rattle.wf_expr.specs.FrontSeen.{sections_over}
use Rattle.wf_expr.proofs.front.first_too_long.Given as goal

-- no expression so far is too long
abbrev pub invariant-loop-section : goal.invariant-loop-section
invariant-loop-section l = sections_over (drop l.section-index l.sections) ≡ sections_over l.sections
