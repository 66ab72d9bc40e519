use Rattle.std.proofs.Common.{◌≡◌, drop, map}
use Rattle.std.specs.List.{list_any}
use Rattle.wf_standing.specs.KnownSeen.{whole_seen}
use Rattle.wf_breaks.specs.Rules.{is_early}
use Rattle.wf_standing.specs.Seen.{initialised_tree, standing_tree}
use Rattle.wf_breaks.proofs.wrong.any_early.Given as goal

abbrev pub invariant-loop-one : goal.invariant-loop-one
invariant-loop-one l =
    list_any (is_early (whole_seen l.known) (standing_tree l.standing)) (map initialised_tree (drop l.one-index l.by))
    ≡ list_any (is_early (whole_seen l.known) (standing_tree l.standing)) (map initialised_tree l.by)
