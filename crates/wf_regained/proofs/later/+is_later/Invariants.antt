use Rattle.std.proofs.Common.{length}
use Rattle.wf_regained.proofs.later.+is_later.Given as goal

abbrev pub decreases-is_later : goal.decreases-is_later
decreases-is_later l = length l.loops.now
