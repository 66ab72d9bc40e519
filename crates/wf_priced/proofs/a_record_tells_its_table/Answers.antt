use Rattle.wf_priced.proofs.RecordLemmas.{told_by}
use Rattle.wf_priced.proofs.a_record_tells_its_table.Goals as goal

pub returns : goal.returns
returns g c = λ f has. told_by f has
