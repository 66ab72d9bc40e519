use Rattle.std.proofs.Common.{ap, sym, ◌∙◌}
use Rattle.wf_opening.specs.DecisionSeen.{verdict_tree}
use Rattle.wf_actions.proofs.acting.ends.Goals as goal

pub returns : goal.returns
returns c = c.ends.ensures ∙ sym (ap (λ f. f (verdict_tree c.args.verdict.now)) c.are_answered.ensures.answers.ends)
