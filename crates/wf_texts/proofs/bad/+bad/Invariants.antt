use Rattle.std.proofs.Common.{◌≡◌, ◌*◌, ◌+◌, drop, map, option_map, string_bytes}
use Rattle.wf_val.specs.Seen.{tree, member}
use Rattle.wf_val.specs.ValueTree.{members, node_count, members_count, trees, trees_count}
use Rattle.wf_kinds.specs.Pointer.{lesser, least}
use Rattle.wf_texts.specs.Bad.{bad_items, bad_members}
use Rattle.wf_texts.proofs.bad.+bad.Given as goal

abbrev pub decreases-bad_texts : goal.decreases-bad_texts
decreases-bad_texts l = 2 * node_count (tree l.value.now)

abbrev pub decreases-bad_items : goal.decreases-bad_items
decreases-bad_items l = 2 * trees_count (trees l.items.now) + 1

abbrev pub decreases-bad_members : goal.decreases-bad_members
decreases-bad_members l = 2 * members_count (members l.fields.now) + 1

-- the least so far and the least of what is left
abbrev pub invariant-bad_items-loop-place : goal.invariant-bad_items-loop-place
invariant-bad_items-loop-place l =
    lesser (option_map string_bytes l.best) (least (bad_items l.place (trees (map tree (drop l.place l.item-items)))))
    ≡ least (bad_items 0 (trees l.items))

abbrev pub invariant-bad_members-loop-key : goal.invariant-bad_members-loop-key
invariant-bad_members-loop-key l =
    lesser (option_map string_bytes l.best) (least (bad_members (members (map member (drop l.key-index l.key-items)))))
    ≡ least (bad_members (members l.fields))
