use Rattle.std.proofs.Common.{◌≡◌, drop, map, option_map}
use Rattle.wf_standing.specs.KnownSeen.{whole_seen}
use Rattle.wf_standing.specs.Seen.{standing_tree}
use Rattle.wf_varorder.specs.Least.{least_from}
use Rattle.wf_varorder.specs.Pairs.{pairs_over}
use Rattle.wf_varorder.specs.Seen.{pair_tree}
use Rattle.wf_varorder.proofs.least.over_variables.Given as goal

abbrev pub invariant-loop-name : goal.invariant-loop-name
invariant-loop-name l =
    least_from (option_map pair_tree l.best)
    (pairs_over (whole_seen l.known) (standing_tree l.writer) (map standing_tree l.all) (map (λ n. n.now) (drop l.name-index l.names)))
    ≡ least_from (option_map pair_tree l.so_far)
    (pairs_over (whole_seen l.known) (standing_tree l.writer) (map standing_tree l.all) (map (λ n. n.now) l.names))
