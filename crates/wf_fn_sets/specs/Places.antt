-- Items with their places.
use Rattle.std.specs.Prelude.{ℕ, ◌+◌, List, [], ◌∷◌}
use Rattle.wf_val.specs.ValueTree.{ValueTree}
use Rattle.wf_fn_sets.specs.Keys.{key_tree}
use Rattle.wf_fn_sets.specs.declared.sets.Placed.{Placed}

-- an item with its place, as a tree
abbrev pub placed_trees : Placed → ℕ × ValueTree
placed_trees e = (e.place, key_tree e.item)

-- values with their places, counted from one on
abbrev pub placed_from : ℕ → List ValueTree → List (ℕ × ValueTree)
placed_from n [] = []
placed_from n (t ∷ ts) = (n, t) ∷ placed_from (n + 1) ts
