use Rattle.std.proofs.Common.{◌+◌, ◌*◌, length}
use Rattle.template_rows.proofs.show.+show.Given as goal

abbrev pub decreases-show : goal.decreases-show
decreases-show l = 3 * l.levels

abbrev pub decreases-show_start : goal.decreases-show_start
decreases-show_start l = 3 * l.levels + 2

abbrev pub decreases-show_call : goal.decreases-show_call
decreases-show_call l = 3 * l.levels + 1

abbrev pub decreases-show_access : goal.decreases-show_access
decreases-show_access l = 3 * l.levels + 1

abbrev pub decreases-show-loop-access : goal.decreases-show-loop-access
decreases-show-loop-access l = length l.accesses.items
