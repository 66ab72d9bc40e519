use Rattle.std.proofs.Common.{◌≡◌, ◌*◌, ◌+◌, ◌++◌, drop, map}
use Rattle.wf_match.specs.Differences.{in_members}
use Rattle.wf_match.specs.Told.{told}
use Rattle.wf_match.proofs.of_value.+differ.Given as goal
use Rattle.wf_val.specs.Seen.{tree, member}
use Rattle.wf_val.specs.ValueTree.{members, node_count, members_count}

abbrev pub decreases-differ : goal.decreases-differ
decreases-differ l = 2 * node_count (tree l.expected.now)

abbrev pub decreases-differ_in_members : goal.decreases-differ_in_members
decreases-differ_in_members l = 2 * members_count (members l.expected.now) + 1

-- those so far and those of the members that are left
abbrev pub invariant-differ_in_members-loop-name : goal.invariant-differ_in_members-loop-name
invariant-differ_in_members-loop-name l =
    map told l.all.items ++ in_members l.at (members (map member (drop l.name-index l.name-items))) l.found
    ≡ map told l.initial.all.items ++ in_members l.at (members l.expected) l.found
