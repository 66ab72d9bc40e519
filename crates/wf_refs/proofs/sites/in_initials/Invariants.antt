use Rattle.std.proofs.Common.{◌≡◌, ◌++◌, map, drop}
use Rattle.wf_def.specs.ActionSeen.{initial_tree}
use Rattle.wf_uses.specs.Seen.{found_uses}
use Rattle.wf_refs.specs.Sites.{initials_uses}
use Rattle.wf_refs.proofs.sites.in_initials.Given as goal

-- what is found so far, and what is left
abbrev pub invariant-loop-variable : goal.invariant-loop-variable
invariant-loop-variable l =
    found_uses l.all.items ++ initials_uses (map initial_tree (drop l.variable-index l.variables))
    ≡ found_uses l.fn.found.items ++ initials_uses (map initial_tree l.variables)
