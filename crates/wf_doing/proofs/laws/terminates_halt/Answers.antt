use Rattle.std.proofs.Common.{length}
use Rattle.wf_def.specs.Names.{graph_names}
use Rattle.wf_doing.proofs.HaltingLemmas.{halted_is}
use Rattle.wf_doing.proofs.laws.terminates_halt.Goals as goal

pub returns : goal.returns
returns c = λ d e y known. halted_is d (length (graph_names d.top)) y known
