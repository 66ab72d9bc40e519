use Rattle.std.proofs.Common.{◌≡◌, ◌+◌, ◌<◌, ◌^◌, max, map, drop}
use Rattle.wf_val.specs.Cut.{cut_u32, cut_u64}
use Rattle.wf_val.specs.ValueTree.{trees, trees_depth, trees_weight, members, members_depth, members_weight}
use Rattle.wf_val.specs.Seen.{tree, member}
use Rattle.wf_val.proofs.+size.Given as goal

-- the deepest and the total so far, and of what is left
abbrev pub invariant-fields::Fields::size-loop-name : goal.invariant-fields::Fields::size-loop-name
invariant-fields::Fields::size-loop-name l = record {
  deepest : max l.depth (cut_u32 (members_depth (members (map member (drop l.name-index l.name-items))))) ≡ cut_u32 (members_depth (members l.self));
  total : cut_u64 (l.weight + members_weight (members (map member (drop l.name-index l.name-items)))) ≡ cut_u64 (members_weight (members l.self));
  in_range : l.weight < 2 ^ 64;
}

abbrev pub invariant-vals::Vals::size-loop-item : goal.invariant-vals::Vals::size-loop-item
invariant-vals::Vals::size-loop-item l = record {
  deepest : max l.depth (cut_u32 (trees_depth (trees (map tree (drop l.item-index l.item-items))))) ≡ cut_u32 (trees_depth (trees l.self));
  total : cut_u64 (l.weight + trees_weight (trees (map tree (drop l.item-index l.item-items)))) ≡ cut_u64 (trees_weight (trees l.self));
  in_range : l.weight < 2 ^ 64;
}
