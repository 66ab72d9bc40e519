use Rattle.std.proofs.Common.{◌+◌, drop, map, ap, sym, ◌∙◌, arith}
use Rattle.wf_asks.specs.Known.{opens_in}
use Rattle.wf_def.proofs.SizeLemmas.{drop_at_place}
use Rattle.wf_def.specs.ActionSeen.{action_tree}
use Rattle.wf_layers.specs.Address.{Table}
use Rattle.wf_opening.specs.DecisionSeen.{decision_tree, verdict_tree}
use Rattle.wf_order.specs.OrderSeen.{order_tree}
use Rattle.wf_record.specs.Seen.{record_tree}
use Rattle.wf_redo.specs.Sets.{again_any}
use Rattle.wf_regained.specs.Reopened.{Opened, with_all_reopened}
use Rattle.wf_regained.proofs.OverLemmas.{none_left}
use Rattle.wf_regained.proofs.reopened.reopened.Goals as goal

pub loop-action-preserved : goal.loop-action-preserved
loop-action-preserved c x =
    let rows = (record_tree c.args.log.now).rows in
    let again = again_any (order_tree c.args.order.now) c.args.from.now in
    let i = c.loop-action.action-index in
    let rest = map (λ a. action_tree a.now) (drop (i + 1) c.args.actions.now) in
    let here = drop_at_place c.args.actions.now i c.action-item.result (omega arith) c.action-item.is in
    ap (λ (t : Table Opened). with_all_reopened rows again t rest x) (λ k y. c.in_ok-add_open.ensures y k)
    ∙ ap (λ as'. with_all_reopened rows again (opens_in decision_tree verdict_tree c.loop-action.opens.0)
    (map (λ a. action_tree a.now) as') x) (sym here)
    ∙ c.loop-action.invariant x

pub returns : goal.returns
returns c x =
    let rows = (record_tree c.args.log.now).rows in
    let again = again_any (order_tree c.args.order.now) c.args.from.now in
    ap (λ as'. with_all_reopened rows again (opens_in decision_tree verdict_tree c.loop-action.opens.0)
    (map (λ a. action_tree a.now) as') x) (sym (none_left c.args.actions.now c.loop-action.action-index (omega arith)))
    ∙ c.loop-action.invariant x
