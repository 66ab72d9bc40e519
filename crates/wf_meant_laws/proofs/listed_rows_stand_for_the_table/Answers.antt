use Rattle.wf_meant_laws.proofs.ListedLemmas.{stand_for}
use Rattle.wf_meant_laws.proofs.listed_rows_stand_for_the_table.Goals as goal

pub returns : goal.returns
returns c = λ d r rows whole. stand_for d rows whole (λ m had. c.numbers_are_below.ensures d r m had)
