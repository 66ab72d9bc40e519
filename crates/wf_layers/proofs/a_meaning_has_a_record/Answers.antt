use Rattle.wf_layers.proofs.Record.{a_meaning_has_a_record}
use Rattle.wf_layers.proofs.a_meaning_has_a_record.Goals as goal

pub returns : goal.returns
returns g c = λ d m depth falls so own. a_meaning_has_a_record d m depth falls so own
