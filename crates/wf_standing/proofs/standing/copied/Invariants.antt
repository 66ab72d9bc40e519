use Rattle.std.proofs.Common.{◌≡◌, ◌++◌, drop, map}
use Rattle.wf_def.specs.ActionSeen.{action_tree}
use Rattle.wf_standing.proofs.standing.copied.Given as goal

abbrev pub invariant-loop-action : goal.invariant-loop-action
invariant-loop-action l =
    map (λ a. action_tree a.now) l.copy.items ++ map (λ a. action_tree a.now) (drop l.action-index l.round)
    ≡ map (λ a. action_tree a.now) l.round
