use Rattle.std.proofs.Common.{◌≡◌, ◌++◌, drop, map, string_bytes}
use Rattle.wf_tap.specs.Lines.{ended}
use Rattle.wf_tap.specs.Tap.{comment_line}
use Rattle.wf_tap.proofs.tap.write_failures.Given as goal

-- what is written and what is left
abbrev pub invariant-loop-failure : goal.invariant-loop-failure
invariant-loop-failure l =
    string_bytes l.out ++ ended (map comment_line (drop l.failure-index l.failures))
    ≡ string_bytes l.initial.out ++ ended (map comment_line l.failures)
