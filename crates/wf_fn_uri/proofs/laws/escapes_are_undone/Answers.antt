use Rattle.wf_fn_uri.proofs.LawLemmas.{escaped-back, escaped-made}
use Rattle.wf_fn_uri.proofs.laws.escapes_are_undone.Goals as goal

pub returns : goal.returns
returns c = record { back = escaped-back; made = escaped-made }
