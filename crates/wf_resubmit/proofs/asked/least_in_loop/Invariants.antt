use Rattle.std.proofs.Common.{◌≡◌, drop, map, option_map}
use Rattle.wf_def.specs.ActionSeen.{action_tree, graph_tree}
use Rattle.wf_loops.specs.OrderSeen.{order_tree}
use Rattle.wf_resubmit.specs.Least.{least_from, least_of}
use Rattle.wf_resubmit.specs.Refused.{is_in_loop}
use Rattle.wf_resubmit.proofs.asked.least_in_loop.Given as goal

abbrev pub invariant-loop-name : goal.invariant-loop-name
invariant-loop-name l =
    least_from (is_in_loop (graph_tree l.graph) (map (λ a. action_tree a.now) l.actions) (order_tree l.order))
    (option_map (λ n. n.now) l.least) (drop l.name-index l.names)
    ≡ least_of (is_in_loop (graph_tree l.graph) (map (λ a. action_tree a.now) l.actions) (order_tree l.order)) l.names
