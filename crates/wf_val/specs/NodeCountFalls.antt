-- Each value that a list or an object holds has fewer values in it than the whole, so a recursion over values ends.
use Rattle.std.specs.Prelude.{ℕ, ◌≤◌, max, List, [], ◌∷◌, map}
use Rattle.std.proofs.Common.{arith}
use denote.Param.Weighed.{most}
use Rattle.wf_val.specs.ValueTree.{node_count}
use Rattle.wf_val.specs.Seen.{tree, member}
use Rattle.wf_val.specs.NodeCounts.{count_of_list, count_of_members}
use Rattle.wf_val.specs.declared.val.Val.{Val}
use Rattle.wf_val.specs.declared.vals.Items.{Items}
use Rattle.wf_val.specs.declared.fields.Members.{Members}
use Rattle.wf_val.specs.declared.fields.Fields.TheDeep.{deep-Val, deep-Items, deep-Members}
use Rattle.wf_val.specs.Held.{items_of, members_of}

pub deep_le-node_count : (v : Val) → deep-Val v ≤ node_count (tree v)
deep_le-node_count Val.Null = omega arith
deep_le-node_count (Val.Bool b) = omega arith
deep_le-node_count (Val.Int n) = omega arith
deep_le-node_count (Val.Text s) = omega arith
deep_le-node_count (Val.List vs) = omega arith
deep_le-node_count (Val.Obj fs) = omega arith

-- no child is deeper than the list has nodes
pub most_le-count_of_list : (vs : List Val) → most deep-Val vs ≤ count_of_list (map tree vs)
most_le-count_of_list [] = omega arith
most_le-count_of_list (v ∷ vs) = omega (arith, deep_le-node_count v, most_le-count_of_list vs)

-- the depth of a pair is written as the depths of its parts
pub most_le-count_of_members : (ms : List (List ℕ × Val)) → most (λ m. max 0 (max (deep-Val m.1) 0)) ms ≤ count_of_members (map member ms)
most_le-count_of_members [] = omega arith
most_le-count_of_members (m ∷ ms) = omega (arith, deep_le-node_count m.1, most_le-count_of_members ms)

-- the same of what holds them
pub deep_le-count_of_items : (a : Items) → deep-Items a ≤ count_of_list (map tree (items_of a))
deep_le-count_of_items Items.Empty = omega arith
deep_le-count_of_items (Items.One item) = omega (arith, deep_le-node_count item.value)
deep_le-count_of_items (Items.Many items) = omega (arith, most_le-count_of_list items.value.items)
deep_le-count_of_items (Items.Shared shared) = omega (arith, most_le-count_of_list shared.value.items.items)

pub deep_le-count_of_members : (a : Members) → deep-Members a ≤ count_of_members (map member (members_of a))
deep_le-count_of_members Members.Empty = omega arith
deep_le-count_of_members (Members.Own members) = omega (arith, most_le-count_of_members members.value.items)
deep_le-count_of_members (Members.Shared shared) = omega (arith, most_le-count_of_members shared.value.members.items)
