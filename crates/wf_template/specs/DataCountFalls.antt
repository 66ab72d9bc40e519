-- Each tree that a list or an object holds has fewer trees in it than the whole, so a recursion over trees ends.
use Rattle.std.specs.Prelude.{ℕ, ◌≤◌, max, List, [], ◌∷◌, map}
use Rattle.std.proofs.Common.{arith}
use denote.Param.Weighed.{most}
use Rattle.wf_template.specs.DataTree.{node_count}
use Rattle.wf_template.specs.DataSeen.{data_tree, data_member}
use Rattle.wf_template.specs.DataCounts.{count_of_list, count_of_members}
use Rattle.wf_template.specs.declared.tree.Tree.{Tree}
use Rattle.wf_template.specs.declared.tree.Trees.TheDeep.{deep-Tree}

deep_le-node_count : (t : Tree) → deep-Tree t ≤ node_count (data_tree t)
deep_le-node_count Tree.Null = omega arith
deep_le-node_count (Tree.Bool b) = omega arith
deep_le-node_count (Tree.Int n) = omega arith
deep_le-node_count (Tree.Text s) = omega arith
deep_le-node_count (Tree.List ts) = omega arith
deep_le-node_count (Tree.Obj fs) = omega arith

-- no child is deeper than the list has nodes
pub most_le-count_of_list : (ts : List Tree) → most deep-Tree ts ≤ count_of_list (map data_tree ts)
most_le-count_of_list [] = omega arith
most_le-count_of_list (t ∷ ts) = omega (arith, deep_le-node_count t, most_le-count_of_list ts)

-- the depth of a pair is written as the depths of its parts
pub most_le-count_of_members : (ms : List (List ℕ × Tree)) → most (λ m. max 0 (max (deep-Tree m.1) 0)) ms ≤ count_of_members (map data_member ms)
most_le-count_of_members [] = omega arith
most_le-count_of_members (m ∷ ms) = omega (arith, deep_le-node_count m.1, most_le-count_of_members ms)
