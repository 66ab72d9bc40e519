use Rattle.std.proofs.Common.{◌≡◌, ◌++◌, ◌-◌, false, length, map, replicate}
use Rattle.wf_def.specs.ActionSeen.{action_tree}
use Rattle.wf_closing.specs.Steps.{steps_from}
use Rattle.wf_closing.specs.StepsSeen.{step_tree}
use Rattle.wf_closing.proofs.judged.steps_of.Given as goal

abbrev pub invariant-loop : goal.invariant-loop
invariant-loop l =
    map step_tree l.steps.items ++ steps_from (length l.graph - l.index) (map action_tree l.graph) l.marks.items
    ≡ steps_from (length l.graph) (map action_tree l.graph) (replicate l.size false)
