use Rattle.std.proofs.Common.{◌≡◌, ◌++◌, drop, map}
use Rattle.wf_judged.specs.Lines.{joined}
use Rattle.wf_judged.proofs.lines.joined.Given as goal

-- the lines so far, and those that are left
abbrev pub invariant-loop-line : goal.invariant-loop-line
invariant-loop-line l = l.bytes.items ++ joined (map (λ r. r.now) (drop l.line-index l.lines)) ≡ joined (map (λ r. r.now) l.lines)
