use Rattle.std.proofs.Common.{◌≡◌, ◌++◌, drop, filter, map}
use Rattle.wf_def.specs.ActionSeen.{action_tree}
use Rattle.wf_def.specs.ActionTree.{action_kind, action_number}
use Rattle.wf_closing.specs.Containers.{is_terminate}
use Rattle.wf_doing.proofs.halting.numbers_of.Given as goal

abbrev pub invariant-loop-action : goal.invariant-loop-action
invariant-loop-action l =
    l.numbers.items
    ++ map action_number (filter (λ a. is_terminate (action_kind a)) (map (λ a. action_tree a.now) (drop l.action-index l.actions)))
    ≡ map action_number (filter (λ a. is_terminate (action_kind a)) (map (λ a. action_tree a.now) l.actions))
