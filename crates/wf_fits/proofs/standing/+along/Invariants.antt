use Rattle.std.proofs.Common.{length}
use Rattle.wf_fits.proofs.standing.+along.Given as goal

abbrev pub decreases-along : goal.decreases-along
decreases-along l = length l.steps.now
