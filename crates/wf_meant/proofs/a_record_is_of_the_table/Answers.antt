use Rattle.std.proofs.Common.{refl}
use Rattle.wf_meant.specs.Record.{meaning}
use Rattle.wf_meant.proofs.a_record_is_of_the_table.Goals as goal

pub returns-clause-record : goal.returns-clause-record
unfolding meaning
returns-clause-record c = λ d e. refl

pub returns-clause-rows : goal.returns-clause-rows
unfolding meaning
returns-clause-rows c = λ d e. refl
