use Rattle.std.proofs.Common.{◌≡◌, ◌++◌, ℕ, List, drop, map}
use Rattle.wf_standing.specs.Seen.{initialised_found, standing_tree}
use Rattle.wf_standing.specs.Whole.{initialised_among}
use Rattle.wf_standing.proofs.initials.variables_of.Given as goal

abbrev pub invariant-loop-standing : goal.invariant-loop-standing
invariant-loop-standing l =
    (k : List ℕ) → initialised_found l.variables k ++ initialised_among (map standing_tree (drop l.standing-index l.standings)) k
    ≡ initialised_among (map standing_tree l.standings) k
