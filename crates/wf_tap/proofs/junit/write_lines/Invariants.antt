use Rattle.std.proofs.Common.{◌≡◌, ◌++◌, drop, map, string_bytes}
use Rattle.wf_tap.specs.Junit.{xml_line}
use Rattle.wf_tap.specs.Lines.{ended}
use Rattle.wf_tap.proofs.junit.write_lines.Given as goal

-- what is written and what is left
abbrev pub invariant-loop-failure : goal.invariant-loop-failure
invariant-loop-failure l =
    string_bytes l.out ++ ended (map xml_line (drop l.failure-index l.failures))
    ≡ string_bytes l.initial.out ++ ended (map xml_line l.failures)
