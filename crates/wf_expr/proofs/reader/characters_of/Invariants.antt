use Rattle.std.proofs.Common.{◌≡◌}
use Rattle.wf_expr.proofs.reader.characters_of.Given as goal

-- the characters so far
abbrev pub invariant-loop-c : goal.invariant-loop-c
invariant-loop-c l = l.characters.items ≡ l.yielded
