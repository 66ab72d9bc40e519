use Rattle.std.proofs.Common.{arith}
use Rattle.wf_turns.specs.Resubmitted.{pinned}
use Rattle.wf_paying.proofs.a_resubmission_costs_its_rows.Goals as goal

pub returns : goal.returns
unfolding pinned
returns c = λ d r i from. omega arith
