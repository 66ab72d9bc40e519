use Rattle.wf_def.specs.ActionSeen.{action_tree, graph_tree}
use Rattle.wf_plan.specs.PlanSeen.{entries_seen, lists_of}
use Rattle.wf_plan.proofs.TableLemmas.{plan_made}
use Rattle.wf_plan.proofs.plan.Plan.of.Goals as goal

pub returns : goal.returns
returns c =
    plan_made c.in_ok-actions.actions.items c.deref.result.now c.deref-2.result.now c.deref-3.result.now (λ a. action_tree a.now)
    (graph_tree c.args.graph.now) c.in_ok-numbers_of.field-0.items (entries_seen c.in_ok-entries_of.field-0.items)
    (lists_of c.in_ok-followers_of.field-0.items) c.in_ok-holders_of.field-0.items c.in_ok-actions.ensures c.deref.ensures.value
    c.deref-2.ensures.value c.deref-3.ensures.value c.in_ok-numbers_of.ensures c.in_ok-entries_of.ensures c.in_ok-followers_of.ensures
    c.in_ok-holders_of.ensures
