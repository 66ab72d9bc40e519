use Rattle.std.proofs.Common.{◌≡◌, ◌*◌, ◌+◌, ◌++◌, drop, map}
use Rattle.wf_val.specs.Seen.{tree, member}
use Rattle.wf_val.specs.ValueTree.{node_count, trees, trees_count, members, members_count}
use Rattle.wf_json.specs.Tokens.{item_tokens, member_tokens}
use Rattle.wf_json.proofs.writing.+put.Given as goal

abbrev pub decreases-put : goal.decreases-put
decreases-put l = 2 * node_count (tree l.value.now)

abbrev pub decreases-put_items : goal.decreases-put_items
decreases-put_items l = 2 * trees_count (trees l.items.now) + 1

abbrev pub decreases-put_members : goal.decreases-put_members
decreases-put_members l = 2 * members_count (members l.fields.now) + 1

-- what is written and what is left are the whole
abbrev pub invariant-put_items-loop-item : goal.invariant-put_items-loop-item
invariant-put_items-loop-item l =
    (l.out.before ≡ l.initial.out.before)
    × (l.out.tokens ++ item_tokens (trees (map tree (drop l.item-index l.item-items))) ≡ l.initial.out.tokens ++ item_tokens
    (trees l.items))

abbrev pub invariant-put_members-loop-name : goal.invariant-put_members-loop-name
invariant-put_members-loop-name l =
    (l.out.before ≡ l.initial.out.before)
    × (l.out.tokens ++ member_tokens (members (map member (drop l.name-index l.name-items))) ≡ l.initial.out.tokens ++ member_tokens
    (members l.fields))
