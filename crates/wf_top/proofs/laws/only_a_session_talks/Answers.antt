use Rattle.wf_top.proofs.NoTalk.{only_session}
use Rattle.wf_top.proofs.laws.only_a_session_talks.Goals as goal

pub returns : goal.returns
returns c = λ held words d start inputs command. only_session held words d start inputs command
