use Rattle.wf_paying.proofs.RowLemmas.{told}
use Rattle.wf_paying.proofs.the_record_tells_what_rows_cost.Goals as goal

pub returns : goal.returns
returns c = λ d r f whole. told d f (c.listed_rows_stand_for_the_table.ensures d r f whole)
