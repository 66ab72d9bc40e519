use Rattle.std.proofs.Common.{◌≡◌, ◌++◌, drop, map}
use Rattle.wf_def.specs.ActionSeen.{initial_tree}
use Rattle.wf_fits.specs.SortsSeen.{typed_tree}
use Rattle.wf_fits.proofs.sorts.with_each.Given as goal

abbrev pub invariant-loop-initial : goal.invariant-loop-initial
invariant-loop-initial l =
    map typed_tree l.all.items ++ map initial_tree (drop l.initial-index l.initials)
    ≡ map typed_tree l.fn.found.items ++ map initial_tree l.initials
