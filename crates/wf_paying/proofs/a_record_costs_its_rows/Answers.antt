use Rattle.std.proofs.Common.{arith}
use Rattle.wf_paying.proofs.a_record_costs_its_rows.Goals as goal

pub returns : goal.returns
returns c = λ d e known. omega arith
