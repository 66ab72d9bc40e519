use Rattle.std.proofs.Common.{◌≡◌, ◌*◌, ◌+◌, drop, map, option_map, string_bytes}
use Rattle.wf_val.specs.Seen.{tree, member}
use Rattle.wf_val.specs.ValueTree.{members, node_count, members_count}
use Rattle.wf_after.specs.Pointer.{lesser, least}
use Rattle.wf_form.specs.KnownSeen.{whole_seen}
use Rattle.wf_form.specs.Places.{in_members}
use Rattle.wf_form.proofs.walk.+least.Given as goal

abbrev pub decreases-least_in : goal.decreases-least_in
decreases-least_in l = 3 * node_count (tree l.value.now)

abbrev pub decreases-least_in_part : goal.decreases-least_in_part
decreases-least_in_part l = 3 * node_count (tree l.value.now) + 1

abbrev pub decreases-least_with_members : goal.decreases-least_with_members
decreases-least_with_members l = 3 * members_count (members l.fields.now) + 2

-- the least so far and the least of what is left
abbrev pub invariant-least_with_members-loop-key : goal.invariant-least_with_members-loop-key
invariant-least_with_members-loop-key l =
    lesser (option_map string_bytes l.best) (least (in_members l.rule (whole_seen l.known) l.role l.holder (members (map member
    (drop l.key-index l.key-items)))))
    ≡ lesser (option_map string_bytes l.fn.own) (least (in_members l.rule (whole_seen l.known) l.role l.holder (members l.fields)))
