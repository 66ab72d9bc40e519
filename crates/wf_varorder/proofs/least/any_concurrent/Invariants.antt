use Rattle.std.proofs.Common.{◌≡◌, drop, map}
use Rattle.std.specs.List.{list_any}
use Rattle.wf_def.specs.ActionSeen.{action_tree}
use Rattle.wf_def.specs.ActionTree.{action_kind}
use Rattle.wf_standing.specs.Kinds.{is_concurrent}
use Rattle.wf_varorder.proofs.least.any_concurrent.Given as goal

abbrev pub invariant-loop-action : goal.invariant-loop-action
invariant-loop-action l =
    list_any (λ c. is_concurrent (action_kind c)) (map (λ a. action_tree a.now) (drop l.action-index l.actions))
    ≡ list_any (λ c. is_concurrent (action_kind c)) (map (λ a. action_tree a.now) l.actions)
