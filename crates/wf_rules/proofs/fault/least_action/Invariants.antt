use Rattle.std.proofs.Common.{◌≡◌, drop, map, option_map}
use Rattle.wf_json.specs.Pointer.{lesser, least}
use Rattle.wf_rules.specs.Broken.{told}
use Rattle.wf_varorder.specs.KnownSeen.{whole_seen}
use Rattle.wf_breaks.specs.Rules.{action_breaks}
use Rattle.wf_varorder.specs.StandingSeen.{standing_tree}
use Rattle.wf_varorder.specs.Standing.{pointer_at}
use Rattle.wf_rules.proofs.fault.least_action.Given as goal

-- the least so far and the least of what is left
abbrev pub invariant-loop-standing : goal.invariant-loop-standing
invariant-loop-standing l =
    lesser (option_map (λ p. p.now) l.best)
    (least (told (action_breaks (whole_seen l.known) l.rule) pointer_at (map standing_tree (drop l.standing-index l.standings))))
    ≡ least (told (action_breaks (whole_seen l.known) l.rule) pointer_at (map standing_tree l.standings))
