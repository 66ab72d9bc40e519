use Rattle.wf_top.proofs.Alike.{told_alike}
use Rattle.wf_top.proofs.laws.one_thing_is_told.Goals as goal

pub returns : goal.returns
returns c = told_alike c.one_text_is_told.ensures
