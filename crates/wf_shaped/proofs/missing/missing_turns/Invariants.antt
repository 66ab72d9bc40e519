use Rattle.std.proofs.Common.{◌≡◌, ◌-◌}
use Rattle.wf_def.specs.ActionSeen.{action_tree}
use Rattle.wf_record.specs.Seen.{record_tree}
use Rattle.wf_shaped.specs.Least.{least_from}
use Rattle.wf_shaped.specs.Told.{instances, missing, turns_from}
use Rattle.wf_shaped.proofs.missing.missing_turns.Given as goal

-- the iterations that are left
abbrev pub invariant-loop-turn : goal.invariant-loop-turn
invariant-loop-turn l =
    least_from l.least.address
    (missing (record_tree l.log).rows (instances (turns_from l.at l.turn (l.count - l.turn)) (action_tree l.action)))
    ≡ least_from l.least.address (missing (record_tree l.log).rows (instances (turns_from l.at 0 l.count) (action_tree l.action)))
