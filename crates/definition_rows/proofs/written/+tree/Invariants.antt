use Rattle.std.proofs.Common.{◌+◌, ◌*◌}
use Rattle.definition_rows.proofs.written.+tree.Given as goal

abbrev pub decreases-push_tree_within : goal.decreases-push_tree_within
decreases-push_tree_within l = 2 * l.levels

abbrev pub decreases-push_items : goal.decreases-push_items
decreases-push_items l = 2 * l.levels + 1

abbrev pub decreases-push_fields : goal.decreases-push_fields
decreases-push_fields l = 2 * l.levels + 1
