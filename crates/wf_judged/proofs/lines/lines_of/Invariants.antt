use Rattle.std.proofs.Common.{◌≡◌, ◌++◌, length, map}
use Rattle.wf_lines.specs.Lines.{lines_of}
use Rattle.wf_judged.proofs.lines.lines_of.Given as goal

-- the lines so far, and those of what is left
abbrev pub invariant-loop-rest : goal.invariant-loop-rest
invariant-loop-rest l = map (λ r. r.now) l.lines.items ++ lines_of l.rest ≡ lines_of l.text

abbrev pub decreases-loop-rest : goal.decreases-loop-rest
decreases-loop-rest l = length l.rest
