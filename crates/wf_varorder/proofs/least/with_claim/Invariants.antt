use Rattle.std.proofs.Common.{◌≡◌, drop, map, option_map}
use Rattle.wf_standing.specs.KnownSeen.{whole_seen}
use Rattle.wf_standing.specs.Seen.{standing_tree}
use Rattle.wf_varorder.specs.Least.{least_from}
use Rattle.wf_varorder.specs.Pairs.{pairs_with}
use Rattle.wf_varorder.specs.Seen.{claim_tree, pair_tree}
use Rattle.wf_varorder.proofs.least.with_claim.Given as goal

-- the least of the best so far and of what is left
abbrev pub invariant-loop-other : goal.invariant-loop-other
invariant-loop-other l =
    least_from (option_map pair_tree l.best)
    (pairs_with (whole_seen l.known) (claim_tree l.claim) (standing_tree l.claimant) (map standing_tree (drop l.other-index l.all)))
    ≡ least_from (option_map pair_tree l.so_far)
    (pairs_with (whole_seen l.known) (claim_tree l.claim) (standing_tree l.claimant) (map standing_tree l.all))
