use Rattle.std.proofs.Common.{◌≡◌, ◌++◌, drop, map}
use Rattle.wf_tap.specs.Tap.{points}
use Rattle.wf_tap.specs.TapSeen.{point_seen}
use Rattle.wf_tap.proofs.tap.points_of.Given as goal

-- those so far and those of the files that are left
abbrev pub invariant-loop-one : goal.invariant-loop-one
invariant-loop-one l = map point_seen l.points.items ++ points (drop l.one-index l.results) ≡ points l.results
