-- What stands in a list or an object is smaller than the whole, so that to let it go ends. A value goes by four functions at most that call
-- each other, so each value in it counts four times.
use Rattle.std.proofs.Common.{ℕ, ◌≤◌, ◌+◌, ◌*◌, max, List, [], ◌∷◌, map, arith}
use denote.Param.Weighed.{most}
use Rattle.wf_val.specs.NodeCounts.{count_of_list, count_of_members}
use Rattle.wf_val.specs.Seen.{tree, member}
use Rattle.wf_val.specs.ValueTree.{node_count}
use Rattle.wf_val.specs.declared.fields.Fields.TheDeep.{size-Val}
use Rattle.wf_val.specs.declared.val.Val.{Val}

pub size_le-node_count : (v : Val) → size-Val v ≤ 4 * node_count (tree v) + 1
size_le-node_count Val.Null = omega arith
size_le-node_count (Val.Bool b) = omega arith
size_le-node_count (Val.Int n) = omega arith
size_le-node_count (Val.Text s) = omega arith
size_le-node_count (Val.List vs) = omega arith
size_le-node_count (Val.Obj fs) = omega arith

pub items-smaller : (vs : List Val) → most size-Val vs ≤ 4 * count_of_list (map tree vs) + 1
items-smaller [] = omega arith
items-smaller (v ∷ vs) = omega (arith, size_le-node_count v, items-smaller vs)

-- the size of a pair is written as the sizes of its parts
pub members-smaller : (ms : List (List ℕ × Val)) → most (λ m. max 0 (max (size-Val m.1) 0)) ms ≤ 4 * count_of_members (map member ms) + 1
members-smaller [] = omega arith
members-smaller (m ∷ ms) = omega (arith, size_le-node_count m.1, members-smaller ms)
