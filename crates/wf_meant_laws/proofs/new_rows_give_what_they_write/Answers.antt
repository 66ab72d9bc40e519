use Rattle.wf_meant_laws.proofs.NewLemmas.{new_rows_give}
use Rattle.wf_meant_laws.proofs.new_rows_give_what_they_write.Goals as goal

pub returns : goal.returns
returns c = λ d r e m answers redo again keeps rows obeys.
    new_rows_give d e m answers (c.numbers_stand_once.ensures d r)
    (record { all = c.what_is_initialized_is_given.ensures; found = c.what_is_given_is_found.ensures }) rows redo again keeps obeys
