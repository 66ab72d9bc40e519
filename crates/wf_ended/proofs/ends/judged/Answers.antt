use Rattle.std.proofs.Common.{ap, sym, ◌∙◌}
use Rattle.wf_closing.specs.Steps.{judged_of}
use Rattle.wf_def.proofs.ListLemmas.{tops_listed}
use Rattle.wf_ended.proofs.ends.judged.Goals as goal

pub returns : goal.returns
returns c = c.in_ok-judged.ensures ∙ ap judged_of (c.as_slice.ensures ∙ sym (tops_listed c.args.graph.now))
