use Rattle.std.proofs.Common.{◌≡◌, ℕ, map, drop, option_map}
use Rattle.std.specs.List.{find}
use Rattle.std.specs.Option.{option_or}
use Rattle.wf_def.specs.ActionSeen.{action_tree}
use Rattle.wf_def.specs.AllActions.{has_number}
use Rattle.wf_use_table.specs.Seen.{action_at}
use Rattle.wf_refs.specs.Sites.{action_uses}
use Rattle.wf_use_table.proofs.table.of_actions.Given as goal

-- what stands at each number so far, or else what the actions that are left put there
abbrev pub invariant-loop-action : goal.invariant-loop-action
invariant-loop-action l = (n : ℕ)
    → option_or (action_at l.all.items n)
    (option_map action_uses (find (has_number n) (map (λ a. action_tree a.now) (drop l.action-index l.actions))))
    ≡ option_map action_uses (find (has_number n) (map (λ a. action_tree a.now) l.actions))
