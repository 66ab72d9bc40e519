use Rattle.std.proofs.Common.{◌≡◌, ◌++◌, drop, map}
use Rattle.wf_val.specs.Seen.{tree}
use Rattle.wf_def.specs.ActionSeen.{initial_tree}
use Rattle.wf_leaves.specs.Leaves.{initial_of}
use Rattle.wf_leaves.proofs.leaves.initials_of.Given as goal

abbrev pub invariant-loop-value : goal.invariant-loop-value
invariant-loop-value l = map initial_tree l.found ++ map initial_of (map tree (drop l.value-index l.values)) ≡ map initial_of (map tree l.values)
