use Rattle.wf_layers.proofs.Laws.{meaning_obeys_the_rule}
use Rattle.wf_layers.proofs.meaning_obeys_the_rule.Goals as goal

pub returns : goal.returns
returns g c = λ d m depth falls local. meaning_obeys_the_rule d m depth falls local
