use Rattle.std.proofs.Common.{◌≡◌, drop, map}
use Rattle.std.specs.List.{list_any}
use Rattle.wf_def.specs.ActionSeen.{action_tree}
use Rattle.wf_def.specs.ActionTree.{action_kind}
use Rattle.wf_standing.specs.Kinds.{is_foreach}
use Rattle.wf_standing.proofs.sites.any_foreach.Given as goal

abbrev pub invariant-loop-action : goal.invariant-loop-action
invariant-loop-action l =
    list_any (λ c. is_foreach (action_kind c)) (map (λ a. action_tree a.now) (drop l.action-index l.actions))
    ≡ list_any (λ c. is_foreach (action_kind c)) (map (λ a. action_tree a.now) l.actions)
