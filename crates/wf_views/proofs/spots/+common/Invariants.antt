use Rattle.std.proofs.Common.{length}
use Rattle.wf_views.proofs.spots.+common.Given as goal

abbrev pub decreases-common : goal.decreases-common
decreases-common l = length l.round.now
