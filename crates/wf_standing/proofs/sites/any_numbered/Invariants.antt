use Rattle.std.proofs.Common.{◌≡◌, drop, map, nat_eq}
use Rattle.std.specs.List.{list_any}
use Rattle.wf_def.specs.ActionSeen.{action_tree}
use Rattle.wf_def.specs.ActionTree.{action_number}
use Rattle.wf_standing.proofs.sites.any_numbered.Given as goal

abbrev pub invariant-loop-action : goal.invariant-loop-action
invariant-loop-action l =
    list_any (λ r. nat_eq (action_number r) l.number) (map (λ a. action_tree a.now) (drop l.action-index l.actions))
    ≡ list_any (λ r. nat_eq (action_number r) l.number) (map (λ a. action_tree a.now) l.actions)
