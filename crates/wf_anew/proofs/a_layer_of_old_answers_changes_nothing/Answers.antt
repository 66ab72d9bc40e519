use Rattle.wf_turns.specs.Record.{meaning}
use Rattle.wf_anew.proofs.OldLemmas.{nothing_changed}
use Rattle.wf_anew.proofs.a_layer_of_old_answers_changes_nothing.Goals as goal

pub returns : goal.returns
unfolding meaning
returns c = nothing_changed
