use Rattle.std.proofs.Common.{◌≡◌, ◌++◌, take, map}
use Rattle.wf_tap.specs.TapSeen.{point_seen}
use Rattle.wf_tap.proofs.tap.push_points.Given as goal

-- those so far behind those that were there
abbrev pub invariant-loop-outcome : goal.invariant-loop-outcome
invariant-loop-outcome l =
    map point_seen l.points.items
    ≡ map point_seen l.initial.points.items ++ map (λ o. (l.results.file, o)) (take l.outcome-index l.outcome-items)
