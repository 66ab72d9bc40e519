use Rattle.std.proofs.Common.{◌≡◌, ◌*◌, ◌+◌, drop, map, option_map, string_bytes}
use Rattle.wf_val.specs.Seen.{tree, member}
use Rattle.wf_val.specs.ValueTree.{members, trees, node_count, members_count, trees_count}
use Rattle.wf_places.specs.Pointer.{lesser, least}
use Rattle.wf_places.specs.Form.{in_members, in_items}
use Rattle.wf_schema.specs.Fails.{by_schema}
use Rattle.wf_schema.proofs.walk.+least.Given as goal

abbrev pub decreases-least_in : goal.decreases-least_in
decreases-least_in l = 3 * node_count (tree l.value.now)

abbrev pub decreases-least_in_part : goal.decreases-least_in_part
decreases-least_in_part l = 3 * node_count (tree l.value.now) + 1

abbrev pub decreases-least_with_members : goal.decreases-least_with_members
decreases-least_with_members l = 3 * members_count (members l.fields.now) + 2

abbrev pub decreases-least_with_items : goal.decreases-least_with_items
decreases-least_with_items l = 3 * trees_count (trees l.items.now) + 2

-- the least so far and the least of what is left
abbrev pub invariant-least_with_members-loop-name : goal.invariant-least_with_members-loop-name
invariant-least_with_members-loop-name l =
    lesser (option_map string_bytes l.best) (least (in_members by_schema (tree l.schema) (members (map member
    (drop l.name-index l.name-items)))))
    ≡ lesser (option_map string_bytes l.fn.own) (least (in_members by_schema (tree l.schema) (members l.fields)))

abbrev pub invariant-least_with_items-loop-place : goal.invariant-least_with_items-loop-place
invariant-least_with_items-loop-place l =
    lesser (option_map string_bytes l.best) (least (in_items by_schema (tree l.schema) l.place (trees (map tree
    (drop l.place l.item-items)))))
    ≡ lesser (option_map string_bytes l.fn.own) (least (in_items by_schema (tree l.schema) 0 (trees l.items)))
