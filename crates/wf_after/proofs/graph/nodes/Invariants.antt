use Rattle.std.proofs.Common.{◌≡◌, ◌++◌, drop, map}
use Rattle.wf_val.specs.Seen.{member}
use Rattle.wf_after.specs.Waits.{nodes}
use Rattle.wf_after.proofs.graph.nodes.Given as goal

abbrev pub invariant-loop-action : goal.invariant-loop-action
invariant-loop-action l =
    map (λ n. n.items) l.found.items ++ nodes (map member l.graph) (map member (drop l.action-index l.graph))
    ≡ nodes (map member l.graph) (map member l.graph)
