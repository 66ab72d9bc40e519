use Rattle.std.proofs.Common.{◌≡◌, drop, false, map, replicate}
use Rattle.wf_def.specs.ActionSeen.{action_tree}
use Rattle.wf_closing.specs.Steps.{all_named}
use Rattle.wf_closing.proofs.judged.named_of.Given as goal

abbrev pub invariant-loop-action : goal.invariant-loop-action
invariant-loop-action l =
    all_named (map action_tree (drop l.action-index l.graph)) l.named.items
    ≡ all_named (map action_tree l.graph) (replicate l.size false)
