use Rattle.std.proofs.Common.{◌≡◌, ◌++◌, ℕ, List, drop, map}
use Rattle.wf_def.specs.ActionSeen.{initial_tree}
use Rattle.wf_standing.specs.Seen.{initialised_found, standing_tree}
use Rattle.wf_standing.specs.Whole.{initialised_by}
use Rattle.wf_standing.proofs.initials.add_all.Given as goal

abbrev pub invariant-loop-initial : goal.invariant-loop-initial
invariant-loop-initial l =
    (k : List ℕ) → initialised_found l.variables k
    ++ initialised_by (standing_tree l.standing) (map initial_tree (drop l.initial-index l.initials)) k
    ≡ initialised_found l.fn.variables k ++ initialised_by (standing_tree l.standing) (map initial_tree l.initials) k
