use Rattle.std.proofs.Common.{◌≡◌, ◌*◌, ◌+◌, drop, map}
use Rattle.wf_val.specs.Seen.{tree, member}
use Rattle.wf_val.specs.ValueTree.{members, node_count, members_count}
use Rattle.wf_schema.specs.Keywords.{are_keywords, are_schemas}
use Rattle.wf_schema.proofs.keywords.+schema.Given as goal

abbrev pub decreases-is_schema : goal.decreases-is_schema
decreases-is_schema l = 3 * node_count (tree l.value.now)

abbrev pub decreases-are_keywords : goal.decreases-are_keywords
decreases-are_keywords l = 3 * members_count (members l.fields.now) + 2

abbrev pub decreases-is_keyword : goal.decreases-is_keyword
decreases-is_keyword l = 3 * node_count (tree l.value.now) + 1

abbrev pub decreases-are_properties : goal.decreases-are_properties
decreases-are_properties l = 3 * node_count (tree l.value.now)

abbrev pub decreases-are_schemas : goal.decreases-are_schemas
decreases-are_schemas l = 3 * members_count (members l.fields.now) + 2

-- those that are left decide
abbrev pub invariant-are_keywords-loop-name : goal.invariant-are_keywords-loop-name
invariant-are_keywords-loop-name l = are_keywords (members (map member (drop l.name-index l.name-items)))
    ≡ are_keywords (members l.fields)

abbrev pub invariant-are_schemas-loop-value : goal.invariant-are_schemas-loop-value
invariant-are_schemas-loop-value l = are_schemas (members (map member (drop l.value-index l.value-items)))
    ≡ are_schemas (members l.fields)
