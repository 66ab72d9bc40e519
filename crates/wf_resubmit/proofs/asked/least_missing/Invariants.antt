use Rattle.std.proofs.Common.{◌≡◌, drop, option_map}
use Rattle.wf_def.specs.ActionSeen.{graph_tree}
use Rattle.wf_resubmit.specs.Least.{least_from, least_of}
use Rattle.wf_resubmit.specs.Refused.{is_missing}
use Rattle.wf_resubmit.proofs.asked.least_missing.Given as goal

abbrev pub invariant-loop-name : goal.invariant-loop-name
invariant-loop-name l =
    least_from (is_missing (graph_tree l.graph)) (option_map (λ n. n.now) l.least) (drop l.name-index l.names)
    ≡ least_of (is_missing (graph_tree l.graph)) l.names
