use Rattle.std.proofs.Common.{◌≡◌, ◌++◌, drop, flat_map, string_bytes}
use Rattle.wf_tap.specs.Junit.{suite_lines}
use Rattle.wf_tap.specs.Lines.{ended}
use Rattle.wf_tap.proofs.junit.write_suites.Given as goal

-- what is written and what is left
abbrev pub invariant-loop-one : goal.invariant-loop-one
invariant-loop-one l =
    string_bytes l.out ++ ended (flat_map suite_lines (drop l.one-index l.results))
    ≡ string_bytes l.initial.out ++ ended (flat_map suite_lines l.results)
