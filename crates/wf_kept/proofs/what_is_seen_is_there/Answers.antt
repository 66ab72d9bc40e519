use Rattle.wf_kept.proofs.Informed.{decided_sees, running_sees, open_sees, test_sees}
use Rattle.wf_kept.proofs.what_is_seen_is_there.Goals as goal

pub returns-clause-decided : goal.returns-clause-decided
returns-clause-decided g c = λ d depth m s reached. decided_sees d depth m s reached

pub returns-clause-running : goal.returns-clause-running
returns-clause-running g c = λ d depth m s reached. running_sees d depth m s reached

pub returns-clause-opened : goal.returns-clause-opened
returns-clause-opened g c = λ d depth m s reached. open_sees d depth m s reached

pub returns-clause-tested : goal.returns-clause-tested
returns-clause-tested g c = λ d depth m s reached. test_sees d depth m s reached
