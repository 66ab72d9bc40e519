use Rattle.std.proofs.Common.{arith}
use Rattle.wf_turns.specs.Record.{meaning}
use Rattle.wf_paying.proofs.a_meaning_costs_its_rows.Goals as goal

pub returns : goal.returns
unfolding meaning
returns c = λ d e. omega arith
