use Rattle.wf_json.proofs.ReadBackLemmas.{read_value-json}
use Rattle.wf_json.proofs.laws.reads_back.Goals as goal

pub returns : goal.returns
returns c = read_value-json
