use Rattle.wf_told.proofs.TextLemmas.{text-append}
use Rattle.wf_told.proofs.laws.texts_stand_in_a_row.Goals as goal

pub returns : goal.returns
returns c = text-append
