use Rattle.std.proofs.Common.{◌≡◌, ◌++◌, drop, flat_map, string_bytes}
use Rattle.wf_tap.specs.Junit.{case_lines}
use Rattle.wf_tap.specs.Lines.{ended}
use Rattle.wf_tap.proofs.junit.write_cases.Given as goal

-- what is written and what is left
abbrev pub invariant-loop-outcome : goal.invariant-loop-outcome
invariant-loop-outcome l =
    string_bytes l.out ++ ended (flat_map (case_lines l.file) (drop l.outcome-index l.outcomes))
    ≡ string_bytes l.initial.out ++ ended (flat_map (case_lines l.file) l.outcomes)
