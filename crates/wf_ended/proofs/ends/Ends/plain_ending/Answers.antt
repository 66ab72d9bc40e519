use Rattle.std.proofs.Common.{ap₂, ◌∙◌}
use Rattle.wf_catalog.specs.Ending.{ending}
use Rattle.wf_ended.proofs.ends.Ends.plain_ending.Goals as goal

pub returns : goal.returns
returns c = c.in_ok-ending.ensures ∙ ap₂ ending c.in_ok-status.ensures c.in_ok-outputs.ensures
