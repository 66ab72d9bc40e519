use Rattle.std.proofs.Common.{ap, sym, ◌∙◌}
use Rattle.wf_opening.specs.DecisionSeen.{decision_tree}
use Rattle.wf_actions.proofs.acting.items.Goals as goal

pub returns : goal.returns
returns c = c.items_of.ensures ∙ sym (ap (λ f. f (decision_tree c.args.decision.now)) c.are_answered.ensures.answers.items)
