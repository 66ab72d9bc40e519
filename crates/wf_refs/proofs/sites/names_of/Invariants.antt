use Rattle.std.proofs.Common.{◌≡◌, map, take}
use Rattle.wf_def.specs.ActionSeen.{initial_tree}
use Rattle.wf_refs.proofs.sites.names_of.Given as goal

-- the names so far
abbrev pub invariant-loop-variable : goal.invariant-loop-variable
invariant-loop-variable l = map (λ n. n.now) l.names.items ≡ map (λ i. i.name) (map initial_tree (take l.variable-index l.variables))
