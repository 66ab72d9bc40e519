use Rattle.std.proofs.Common.{length}
use Rattle.wf_expr.proofs.word.+begins.Given as goal

abbrev pub decreases-begins : goal.decreases-begins
decreases-begins l = length l.name.now
