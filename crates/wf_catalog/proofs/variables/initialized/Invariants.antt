use Rattle.std.proofs.Common.{◌≡◌, ◌++◌, drop, map}
use Rattle.wf_def.specs.ActionSeen.{initial_tree}
use Rattle.wf_catalog.proofs.variables.initialized.Given as goal

abbrev pub invariant-loop-variable : goal.invariant-loop-variable
invariant-loop-variable l =
    map (λ n. n.now) l.names.items ++ map (λ i. i.name) (map initial_tree (drop l.variable-index l.variables))
    ≡ map (λ i. i.name) (map initial_tree l.variables)
