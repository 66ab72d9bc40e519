use Rattle.std.proofs.Common.{arith}
use Rattle.wf_recur.proofs.MultipleLemmas.{ended}
use Rattle.wf_recur.proofs.multiples.next_multiple.Goals as goal

pub returns-else-over-eq0-clause-least : goal.returns-else-over-eq0-clause-least
returns-else-over-eq0-clause-least c =
    ended c.args.start c.args.step c.args.at c.requires.step_from c.requires.start (omega (arith, c.if-over-eq0.false))
