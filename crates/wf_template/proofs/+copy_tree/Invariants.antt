use Rattle.std.proofs.Common.{◌≡◌, map, take}
use Rattle.wf_template.specs.DataSeen.{data_tree, data_member}
use Rattle.wf_template.proofs.+copy_tree.Given as goal

-- the copies so far
abbrev pub invariant-tree_fields::TreeFields::copy-loop-name : goal.invariant-tree_fields::TreeFields::copy-loop-name
invariant-tree_fields::TreeFields::copy-loop-name l = map data_member l.copies.items ≡ map data_member (take l.name-index l.name-items)

abbrev pub invariant-tree::Trees::copy-loop-item : goal.invariant-tree::Trees::copy-loop-item
invariant-tree::Trees::copy-loop-item l = map data_tree l.copies.items ≡ map data_tree (take l.item-index l.item-items)
