use Rattle.std.proofs.Common.{◌+◌, ◌*◌}
use Rattle.definition_rows.proofs.outline.+outline.Given as goal

-- Inside a container there is one level less.
abbrev pub decreases-push_kind : goal.decreases-push_kind
decreases-push_kind l = 4 * l.levels + 1

abbrev pub decreases-push_action : goal.decreases-push_action
decreases-push_action l = 4 * l.levels + 2

abbrev pub decreases-push_graph : goal.decreases-push_graph
decreases-push_graph l = 4 * l.levels + 3

abbrev pub decreases-push_cases : goal.decreases-push_cases
decreases-push_cases l = 4 * l.levels + 4
