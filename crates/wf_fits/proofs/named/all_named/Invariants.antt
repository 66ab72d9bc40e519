use Rattle.std.proofs.Common.{◌≡◌, ◌++◌, drop, map}
use Rattle.wf_def.specs.ActionSeen.{action_tree}
use Rattle.wf_fits.specs.NamedSeen.{named_tree}
use Rattle.wf_fits.proofs.named.all_named.Given as goal

abbrev pub invariant-loop-placed : goal.invariant-loop-placed
invariant-loop-placed l =
    map named_tree l.all.items ++ map (λ p. action_tree p.action.now) (drop l.placed-index l.actions)
    ≡ map (λ p. action_tree p.action.now) l.actions
