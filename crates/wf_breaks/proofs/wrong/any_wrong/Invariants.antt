use Rattle.std.proofs.Common.{◌≡◌, drop, map, option_map}
use Rattle.std.specs.List.{list_any}
use Rattle.wf_standing.specs.KnownSeen.{whole_seen}
use Rattle.wf_standing.specs.Seen.{standing_tree}
use Rattle.wf_breaks.specs.Wrong.{is_wrong}
use Rattle.wf_breaks.proofs.wrong.any_wrong.Given as goal

abbrev pub invariant-loop-name : goal.invariant-loop-name
invariant-loop-name l =
    list_any (is_wrong (whole_seen l.known) l.wrong l.site (option_map (λ s. standing_tree s.now) l.at))
    (map (λ n. n.now) (drop l.name-index l.names))
    ≡ list_any (is_wrong (whole_seen l.known) l.wrong l.site (option_map (λ s. standing_tree s.now) l.at)) (map (λ n. n.now) l.names)
