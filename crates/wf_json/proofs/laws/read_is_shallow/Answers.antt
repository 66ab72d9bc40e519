use Rattle.wf_json.proofs.ShallowLemmas.{read_value-shallow}
use Rattle.wf_json.proofs.laws.read_is_shallow.Goals as goal

pub returns : goal.returns
returns c = read_value-shallow
