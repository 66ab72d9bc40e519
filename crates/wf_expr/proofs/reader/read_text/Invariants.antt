use Rattle.std.proofs.Common.{◌≡◌, drop}
use Rattle.wf_expr.specs.Machine.{scan, start}
use Rattle.wf_expr.specs.ModeSeen.{mode_seen}
use Rattle.wf_expr.specs.StackSeen.{stack_seen}
use Rattle.wf_expr.proofs.reader.read_text.Given as goal

-- what is left, from where the reader stands, gives what the whole text gives
abbrev pub invariant-loop-at : goal.invariant-loop-at
invariant-loop-at l = scan (mode_seen l.mode, stack_seen l.stack) l.at (drop l.at l.text) ≡ scan start 0 l.text
