use Rattle.std.proofs.Common.{◌≡◌, ◌++◌, drop, map}
use Rattle.wf_lines.specs.Lines.{lines_of}
use Rattle.wf_judged.specs.Failures.{all_over}
use Rattle.wf_judged.specs.Why.{why}
use Rattle.wf_judged.proofs.judging.all_over.Given as goal

-- what is told so far, and of the lines that are left
abbrev pub invariant-loop-line : goal.invariant-loop-line
invariant-loop-line l =
    map why l.all ++ all_over l.most l.schedule (map (λ r. r.now) (drop l.line-index l.line-items))
    ≡ map why l.fn.all ++ all_over l.most l.schedule (lines_of l.text)
