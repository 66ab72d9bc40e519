use Rattle.std.proofs.Common.{ap, ◌∙◌, pos, Option}
use Rattle.wf_val.specs.ValueTree.{ValueTree, number}
use Rattle.wf_reading.specs.Graphs.{number_in}
use Rattle.wf_known_laws.proofs.AcceptedLemmas.{read_as_accepted}
use Rattle.wf_known_laws.proofs.accepted_turns_are_read.Goals as goal

pub returns : goal.returns
returns c = λ t v at is. ap (λ (o : Option ValueTree). number (pos (number_in 1 5000 60 o))) at ∙ read_as_accepted 1 5000 60 v is
