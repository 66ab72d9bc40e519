use Rattle.std.proofs.Common.{Some, None, [], cond, List, ℕ, ap, ◌∙◌}
use Rattle.wf_asks.specs.Known.{open_tree, opens_in}
use Rattle.wf_asks.specs.declared.known.OpenAt.{OpenAt}
use Rattle.wf_def.specs.ActionSeen.{action_tree}
use Rattle.wf_def.specs.ActionTree.{action_number}
use Rattle.wf_events.proofs.TableLemmas.{put_entry}
use Rattle.wf_layers.specs.Address.{is_own}
use Rattle.wf_opening.specs.DecisionSeen.{decision_tree, verdict_tree}
use Rattle.wf_opening.specs.Decisions.{DecisionTree}
use Rattle.wf_opening.specs.declared.decide.Decision.{Decision}
use Rattle.wf_opening.specs.declared.verdict.Verdict.{Verdict}
use Rattle.wf_regained.specs.Reopened.{reopened_with}
use Rattle.wf_regained.proofs.reopened.open_again.Goals as goal

pub returns : goal.returns
returns c x =
    let seen = opens_in decision_tree verdict_tree in
    let old = seen c.args.opens.now.0 x in
    let n = c.number_of.result in
    ap (λ (os : List (OpenAt Decision Verdict)). seen os x) c.put.ensures.items
    ∙ put_entry (λ (o : OpenAt Decision Verdict). o.instance) (open_tree decision_tree verdict_tree)
    (record {
      instance = record { action = n; at = c.new.result };
      decision = c.in_ok-decision.decision;
      next = 0;
      test = None;
      unfinished = 0;
    }) c.make_room.new.self.0 x
    ∙ ap (λ (os : List (OpenAt Decision Verdict)). cond (is_own n c.new.result x)
    (Some (reopened_with (decision_tree c.in_ok-decision.decision))) (seen os x)) c.make_room.ensures.items
    ∙ ap (λ (i : List ℕ). cond (is_own n i x) (Some (reopened_with (decision_tree c.in_ok-decision.decision))) old) c.new.ensures
    ∙ ap (λ (m : ℕ). cond (is_own m [] x) (Some (reopened_with (decision_tree c.in_ok-decision.decision))) old) c.number_of.ensures
    ∙ ap (λ (p : DecisionTree). cond (is_own (action_number (action_tree c.args.action.now)) [] x) (Some (reopened_with p)) old)
    c.in_ok-decision.ensures
