use Rattle.wf_ways.proofs.FailLemmas.{fails_by_a_row}
use Rattle.wf_ways.proofs.an_address_fails_by_a_row.Goals as goal

pub returns : goal.returns
returns g c = λ read is_skipped fits r d. fails_by_a_row read is_skipped fits r d
