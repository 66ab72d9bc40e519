use Rattle.std.proofs.Common.{◌≡◌, drop, map, max}
use Rattle.wf_def.specs.ActionSeen.{action_tree}
use Rattle.wf_closing.specs.Steps.{size_of}
use Rattle.wf_closing.proofs.judged.size_of.Given as goal

abbrev pub invariant-loop-action : goal.invariant-loop-action
invariant-loop-action l =
    max l.size (size_of (map action_tree (drop l.action-index l.graph))) ≡ size_of (map action_tree l.graph)
