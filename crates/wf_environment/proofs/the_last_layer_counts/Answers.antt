use Rattle.wf_environment.proofs.Layers.{last_layer, no_layer, one_layer}
use Rattle.wf_environment.proofs.the_last_layer_counts.Goals as goal

pub returns-clause-none : goal.returns-clause-none
returns-clause-none c = λ e name none. no_layer name e none

pub returns-clause-one : goal.returns-clause-one
returns-clause-one c = λ e name earlier later layer are has none. one_layer name e earlier later layer are has none

pub returns-clause-last : goal.returns-clause-last
returns-clause-last c = last_layer
