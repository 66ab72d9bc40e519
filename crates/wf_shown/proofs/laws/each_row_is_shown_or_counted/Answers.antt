use Rattle.wf_shown.proofs.OnceLemmas.{others_counted}
use Rattle.wf_shown.proofs.SaidLemmas.{rows_in_place}
use Rattle.wf_shown.proofs.laws.each_row_is_shown_or_counted.Goals as goal

pub returns-clause-shown : goal.returns-clause-shown
returns-clause-shown c = rows_in_place

pub returns-clause-counted : goal.returns-clause-counted
returns-clause-counted c = others_counted
