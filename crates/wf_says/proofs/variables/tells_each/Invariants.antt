use Rattle.std.proofs.Common.{◌≡◌, drop, map}
use Rattle.wf_def.specs.ActionSeen.{initial_tree}
use Rattle.wf_val.specs.Seen.{tree}
use Rattle.wf_says.specs.Says.{initialized, tells_each}
use Rattle.wf_says.proofs.variables.tells_each.Given as goal

abbrev pub invariant-loop-place : goal.invariant-loop-place
invariant-loop-place l =
    tells_each (map initialized (map initial_tree (drop l.place l.initials))) (map tree (drop l.place l.values))
    ≡ tells_each (map initialized (map initial_tree l.initials)) (map tree l.values)
