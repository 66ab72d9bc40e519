use Rattle.std.proofs.Common.{◌≡◌, drop, find, map}
use Rattle.wf_def.specs.ActionSeen.{action_tree}
use Rattle.wf_closing.specs.Steps.{is_ready}
use Rattle.wf_closing.proofs.judged.first_ready.Given as goal

abbrev pub invariant-loop-action : goal.invariant-loop-action
invariant-loop-action l =
    find (is_ready l.marks) (map action_tree (drop l.action-index l.graph))
    ≡ find (is_ready l.marks) (map action_tree l.graph)
