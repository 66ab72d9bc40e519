use Rattle.std.proofs.Common.{◌≡◌, ◌++◌, drop, map}
use Rattle.wf_catalog.specs.PlacesSeen.{entry_of, entry_tree, number_in}
use Rattle.wf_catalog.specs.WalkSeen.{walked}
use Rattle.wf_catalog.proofs.places.entries.Given as goal

abbrev pub invariant-loop-placed : goal.invariant-loop-placed
invariant-loop-placed l =
    map entry_tree l.all.items ++ map (entry_of (number_in l.variables)) (map walked (drop l.placed-index l.actions))
    ≡ map (entry_of (number_in l.variables)) (map walked l.actions)
