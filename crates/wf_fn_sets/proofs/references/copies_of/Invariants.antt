use Rattle.std.proofs.Common.{◌≡◌, map, take}
use Rattle.wf_fn_sets.specs.Keys.{key_tree}
use Rattle.wf_fn_sets.proofs.references.copies_of.Given as goal

-- what is copied so far
abbrev pub invariant-loop-value : goal.invariant-loop-value
invariant-loop-value l = l.copies ≡ map key_tree (take l.value-index l.values)
