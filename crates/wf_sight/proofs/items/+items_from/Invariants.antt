use Rattle.std.proofs.Common.{length}
use Rattle.wf_sight.proofs.items.+items_from.Given as goal

abbrev pub decreases-items_from : goal.decreases-items_from
decreases-items_from l = length l.loops.now
