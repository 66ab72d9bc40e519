use Rattle.std.proofs.Common.{◌≡◌, drop, map, option_map, None}
use Rattle.wf_standing.specs.KnownSeen.{whole_seen}
use Rattle.wf_standing.specs.Seen.{standing_tree}
use Rattle.wf_varorder.specs.Least.{least_from}
use Rattle.wf_varorder.specs.Pairs.{pairs_among}
use Rattle.wf_varorder.specs.Seen.{pair_tree}
use Rattle.wf_varorder.proofs.least.least_pair.Given as goal

abbrev pub invariant-loop-action : goal.invariant-loop-action
invariant-loop-action l =
    least_from (option_map pair_tree l.best)
    (pairs_among (whole_seen l.known) l.rule (map standing_tree l.all) (map standing_tree (drop l.action-index l.all)))
    ≡ least_from None (pairs_among (whole_seen l.known) l.rule (map standing_tree l.all) (map standing_tree l.all))
