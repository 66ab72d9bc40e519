use Rattle.wf_ways.proofs.StandLemmas.{stands_along}
use Rattle.wf_ways.proofs.an_address_stands_along_its_way.Goals as goal

pub returns : goal.returns
returns g c = λ read is_skipped fits r d. stands_along read is_skipped fits r d
