use Rattle.std.proofs.Common.{◌≡◌, map, drop}
use Rattle.wf_val.specs.ValueTree.{trees, members}
use Rattle.wf_val.specs.ValueOrder.{trees_order, members_order}
use Rattle.wf_val.specs.Seen.{tree, member}
use Rattle.wf_val.proofs.+order.Given as goal

-- what is left decides
abbrev pub invariant-fields::Fields::order-loop-place : goal.invariant-fields::Fields::order-loop-place
invariant-fields::Fields::order-loop-place l =
    members_order (members (map member (drop l.place l.members))) (members (map member (drop l.place l.others)))
    ≡ members_order (members l.self) (members l.other)

abbrev pub invariant-vals::Vals::order-loop-place : goal.invariant-vals::Vals::order-loop-place
invariant-vals::Vals::order-loop-place l =
    trees_order (trees (map tree (drop l.place l.items))) (trees (map tree (drop l.place l.others)))
    ≡ trees_order (trees l.self) (trees l.other)
