use Rattle.wf_told.proofs.RunLemmas.{one_text}
use Rattle.wf_told.proofs.laws.one_text_is_told.Goals as goal

pub returns : goal.returns
returns c = λ d read none i schedule traced text other first second.
    one_text d i schedule traced (λ e t u. c.runs_are_told_alike.ensures d read none e schedule traced t u) text other first second
