use Rattle.wf_refs.proofs.NumberLemmas.{numbers_find}
use Rattle.wf_refs.proofs.laws.read_actions_have_their_numbers.Goals as goal

pub returns : goal.returns
returns c = λ d r. numbers_find d.top (c.names_stand_once.ensures d r) (c.numbers_are_places.ensures d r)
