use Rattle.wf_ways.proofs.WayLemmas.{is_behind}
use Rattle.wf_ways.proofs.what_is_held_is_behind_its_container.Goals as goal

pub returns : goal.returns
returns c = λ d. is_behind d
