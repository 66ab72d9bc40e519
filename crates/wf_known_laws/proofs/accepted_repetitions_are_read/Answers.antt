use Rattle.std.proofs.Common.{ap, ◌∙◌, Bool, cond, pos, Option}
use Rattle.wf_val.specs.ValueTree.{ValueTree, number}
use Rattle.wf_reading.specs.Containers.{repetitions}
use Rattle.wf_reading.specs.Graphs.{number_in}
use Rattle.wf_known_laws.proofs.AcceptedLemmas.{read_as_accepted}
use Rattle.wf_known_laws.proofs.accepted_repetitions_are_read.Goals as goal

pub returns : goal.returns
returns c = λ t v several at is.
    ap (λ (b : Bool). number (pos (cond b 1 (number_in 1 50 20 (repetitions t))))) several
    ∙ ap (λ (o : Option ValueTree). number (pos (number_in 1 50 20 o))) at ∙ read_as_accepted 1 50 20 v is
