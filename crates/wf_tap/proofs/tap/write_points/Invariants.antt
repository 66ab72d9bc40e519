use Rattle.std.proofs.Common.{◌≡◌, ◌+◌, ◌++◌, drop, map, string_bytes}
use Rattle.wf_tap.specs.Lines.{ended}
use Rattle.wf_tap.specs.Tap.{lines_from}
use Rattle.wf_tap.specs.TapSeen.{point_seen}
use Rattle.wf_tap.proofs.tap.write_points.Given as goal

-- what is written and what is left
abbrev pub invariant-loop-place : goal.invariant-loop-place
invariant-loop-place l =
    string_bytes l.out ++ ended (lines_from l.several (l.place + 1) (map point_seen (drop l.place l.points)))
    ≡ string_bytes l.initial.out ++ ended (lines_from l.several 1 (map point_seen l.points))
