use Rattle.std.proofs.Common.{ap, sym}
use Rattle.wf_sight_laws.specs.Seen.{row_content}
use Rattle.wf_actions.proofs.acting.status.Goals as goal

pub returns : goal.returns
returns c = sym (ap (λ f. f (row_content c.args.row.now)) c.are_answered.ensures.answers.status)
