use Rattle.std.proofs.Common.{◌≡◌, ◌++◌, drop, map}
use Rattle.wf_catalog.specs.PlacesSeen.{variable_tree}
use Rattle.wf_catalog.specs.Variables.{numbered_from}
use Rattle.wf_catalog.proofs.variables.numbered.Given as goal

abbrev pub invariant-loop-place : goal.invariant-loop-place
invariant-loop-place l =
    map variable_tree l.all.items ++ numbered_from l.place (map (λ n. n.now) (drop l.place l.names))
    ≡ numbered_from 0 (map (λ n. n.now) l.names)
