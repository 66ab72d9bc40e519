use Rattle.std.proofs.Common.{◌≡◌, drop, map}
use Rattle.std.specs.List.{list_any}
use Rattle.wf_def.specs.ActionSeen.{action_tree}
use Rattle.wf_standing.specs.Inside.{is_loop_named}
use Rattle.wf_standing.proofs.sites.any_loop_named.Given as goal

abbrev pub invariant-loop-action : goal.invariant-loop-action
invariant-loop-action l =
    list_any (is_loop_named l.kind l.name) (map (λ a. action_tree a.now) (drop l.action-index l.actions))
    ≡ list_any (is_loop_named l.kind l.name) (map (λ a. action_tree a.now) l.actions)
