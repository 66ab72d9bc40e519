use Rattle.std.proofs.Common.{◌≡◌, ◌++◌, drop, filter, map, not}
use Rattle.wf_def.specs.ActionSeen.{action_tree}
use Rattle.wf_def.specs.ActionTree.{action_number}
use Rattle.wf_closing.specs.Steps.{is_marked}
use Rattle.wf_closing.proofs.judged.ends_of.Given as goal

abbrev pub invariant-loop-action : goal.invariant-loop-action
invariant-loop-action l =
    l.ends.items
    ++ filter (λ n. not (is_marked l.named n)) (map action_number (map action_tree (drop l.action-index l.graph)))
    ≡ filter (λ n. not (is_marked l.named n)) (map action_number (map action_tree l.graph))
