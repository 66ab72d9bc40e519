use Rattle.std.proofs.Common.{◌≡◌, ◌++◌, drop, map}
use Rattle.wf_def.specs.ActionSeen.{action_tree}
use Rattle.wf_fits.specs.Sorts.{all_initials}
use Rattle.wf_fits.specs.SortsSeen.{typed_tree}
use Rattle.wf_fits.proofs.sorts.all_initials.Given as goal

abbrev pub invariant-loop-placed : goal.invariant-loop-placed
invariant-loop-placed l =
    map typed_tree l.all.items ++ all_initials (map (λ p. action_tree p.action.now) (drop l.placed-index l.actions))
    ≡ all_initials (map (λ p. action_tree p.action.now) l.actions)
