use Rattle.std.proofs.Common.{◌≡◌, ◌++◌, map, drop}
use Rattle.wf_fn_sets.specs.Keys.{key_tree}
use Rattle.wf_fn_sets.specs.Places.{placed_trees, placed_from}
use Rattle.wf_fn_sets.proofs.sets.with_places.Given as goal

-- those so far, with the rest from the place on, are all
abbrev pub invariant-loop-place : goal.invariant-loop-place
invariant-loop-place l =
    map placed_trees l.placed.items ++ placed_from l.place (map key_tree (drop l.place l.values)) ≡ placed_from 0 (map key_tree l.values)
