use Rattle.std.proofs.Common.{◌≡◌, ◌+◌, ◌-◌, ◌++◌, suc, length, map, ap, ◌∙◌, arith}
use Rattle.wf_def.specs.ActionSeen.{action_tree}
use Rattle.wf_closing.specs.Steps.{steps_from}
use Rattle.wf_closing.specs.StepsSeen.{step_tree}
use Rattle.wf_closing.proofs.judged.steps_of.Goals as goal

pub loop-preserved : goal.loop-preserved
loop-preserved c =
    let graph = map action_tree c.args.graph.now in
    let left : suc (length c.args.graph.now - (c.loop.index + 1)) ≡ length c.args.graph.now - c.loop.index =
    omega (arith, c.loop-test.true) in
    c.in_ok-take_next.ensures (length c.args.graph.now - (c.loop.index + 1))
    ∙ ap (λ turns. map step_tree c.loop.steps.items ++ steps_from turns graph c.loop.marks.items) left
    ∙ c.loop.invariant
