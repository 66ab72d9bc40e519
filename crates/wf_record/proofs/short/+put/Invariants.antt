use Rattle.std.proofs.Common.{◌≡◌, ◌*◌, ◌+◌, ◌++◌, drop, map}
use Rattle.wf_val.specs.Seen.{tree, member}
use Rattle.wf_val.specs.ValueTree.{node_count, trees, trees_count, members, members_count}
use Rattle.wf_json.specs.Json.{values, members as members_text}
use Rattle.wf_record.proofs.ShortLemmas.{values-from, members-from}
use Rattle.wf_record.proofs.short.+put.Given as goal

abbrev pub decreases-put_value : goal.decreases-put_value
decreases-put_value l = 2 * node_count (tree l.value.now)

abbrev pub decreases-put_items : goal.decreases-put_items
decreases-put_items l = 2 * trees_count (trees l.items.now) + 1

abbrev pub decreases-put_fields : goal.decreases-put_fields
decreases-put_fields l = 2 * members_count (members l.fields.now) + 1

-- what is written and what is left are the whole
abbrev pub invariant-put_items-loop-place : goal.invariant-put_items-loop-place
invariant-put_items-loop-place l =
    l.bytes.items ++ values-from l.place (trees (map tree (drop l.place l.item-items)))
    ≡ l.initial.bytes.items ++ values (trees l.items)

abbrev pub invariant-put_fields-loop-place : goal.invariant-put_fields-loop-place
invariant-put_fields-loop-place l =
    l.bytes.items ++ members-from l.place (members (map member (drop l.place l.member-items)))
    ≡ l.initial.bytes.items ++ members_text (members l.fields)
