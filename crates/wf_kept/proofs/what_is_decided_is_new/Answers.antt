use Rattle.wf_kept.proofs.Resumed.{decided_is_new, inside_is_new}
use Rattle.wf_kept.proofs.what_is_decided_is_new.Goals as goal

pub returns-clause-itself : goal.returns-clause-itself
returns-clause-itself g c = λ d depth m s reached n i after kind de. decided_is_new d depth m s reached n i after kind de

pub returns-clause-inside : goal.returns-clause-inside
returns-clause-inside g c = λ d depth m s reached n i after kind de. inside_is_new d depth m s reached n i after kind de
