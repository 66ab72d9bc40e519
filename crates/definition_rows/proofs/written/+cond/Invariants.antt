use Rattle.std.proofs.Common.{◌+◌, ◌*◌}
use Rattle.definition_rows.proofs.written.+cond.Given as goal

abbrev pub decreases-push_cond_within : goal.decreases-push_cond_within
decreases-push_cond_within l = 2 * l.levels

abbrev pub decreases-push_conds : goal.decreases-push_conds
decreases-push_conds l = 2 * l.levels + 1
