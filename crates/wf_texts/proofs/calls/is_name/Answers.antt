use Rattle.wf_texts.proofs.CallLemmas.{many_arguments}
use Rattle.wf_texts.proofs.calls.is_name.Goals as goal

pub returns-in-len2-up : goal.returns-in-len2-up
returns-in-len2-up c = many_arguments c.args.args.now c.in-len2-up.len_at_least
