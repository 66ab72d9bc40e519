use Rattle.wf_def.specs.ActionSeen.{action_tree}
use Rattle.wf_use_table.specs.Seen.{action_at, action_uses_seen, kept_at}
use Rattle.wf_use_table.proofs.TableLemmas.{next_action, no_action, number_is, seen_put}
use Rattle.wf_use_table.proofs.table.of_actions.Goals as goal

pub loop-action-preserved : goal.loop-action-preserved
loop-action-preserved c = λ n.
    next_action (λ a. action_tree a.now) c.args.actions.now c.loop-action.action-index c.action-item.result c.loop-action-test.true
    c.action-item.is (action_at c.loop-action.all.items n) (action_at c.in_ok-all-2.all.items n) _ n _
    (action_uses_seen c.in_ok-uses.uses)
    (seen_put action_uses_seen (kept_at c.loop-action.all.items n) (kept_at c.in_ok-all-2.all.items n) n _ _ (c.in_ok-all-2.ensures n))
    c.in_ok-uses.ensures (number_is c.action-item.result.now) (c.loop-action.invariant n)

pub returns : goal.returns
returns c = λ n.
    no_action (λ a. action_tree a.now) c.args.actions.now c.loop-action.action-index c.loop-action-test.false
    (action_at c.loop-action.all.items n) _ n (c.loop-action.invariant n)
