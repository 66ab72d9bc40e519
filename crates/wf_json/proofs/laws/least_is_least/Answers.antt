use Rattle.wf_json.proofs.PointerLemmas.{least-IsLeast, least-none}
use Rattle.wf_json.proofs.laws.least_is_least.Goals as goal

pub returns : goal.returns
returns c = record { some = least-IsLeast; none = least-none }
