use Rattle.wf_sight_laws.proofs.RowLemmas.{writes_what_it_gives}
use Rattle.wf_sight_laws.proofs.rows_write_what_they_give.Goals as goal

pub returns : goal.returns
returns c = λ d rows whole given k v number y row there. writes_what_it_gives d rows whole.instances given k v number y row there
