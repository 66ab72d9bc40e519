use Rattle.std.proofs.Common.{◌≡◌, ◌++◌, drop, map}
use Rattle.wf_def.specs.ActionSeen.{action_tree}
use Rattle.wf_catalog.specs.Variables.{written_names}
use Rattle.wf_catalog.proofs.variables.written_names.Given as goal

abbrev pub invariant-loop-placed : goal.invariant-loop-placed
invariant-loop-placed l =
    map (λ n. n.now) l.names.items ++ written_names (map (λ p. action_tree p.action.now) (drop l.placed-index l.actions))
    ≡ written_names (map (λ p. action_tree p.action.now) l.actions)
