use Rattle.std.proofs.Common.{◌≡◌, ◌++◌, drop, map}
use Rattle.wf_judged.specs.Lines.{record_lines}
use Rattle.wf_judged.proofs.lines.record_lines.Given as goal

-- those so far, and those among the lines that are left
abbrev pub invariant-loop-line : goal.invariant-loop-line
invariant-loop-line l =
    map (λ r. r.now) l.records.items ++ record_lines (map (λ r. r.now) (drop l.line-index l.lines))
    ≡ record_lines (map (λ r. r.now) l.lines)
