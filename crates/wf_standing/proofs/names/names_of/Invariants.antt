use Rattle.std.proofs.Common.{◌≡◌, ℕ, List, drop, map}
use Rattle.std.specs.List.{find}
use Rattle.std.specs.Option.{option_or}
use Rattle.wf_standing.specs.Seen.{action_found, standing_tree}
use Rattle.wf_standing.specs.Whole.{has_name}
use Rattle.wf_standing.proofs.names.names_of.Given as goal

-- those that are kept, and else the first of the rest, are the first of all
abbrev pub invariant-loop-standing : goal.invariant-loop-standing
invariant-loop-standing l =
    (k : List ℕ) → option_or (action_found l.names k) (find (has_name k) (map standing_tree (drop l.standing-index l.standings)))
    ≡ find (has_name k) (map standing_tree l.standings)
