use Rattle.std.proofs.Common.{◌≡◌, ◌++◌, drop, map}
use Rattle.wf_def.specs.Layered.{need_of}
use Rattle.wf_plan.specs.PlanSeen.{wait_need}
use Rattle.wf_plan.proofs.plan.waits_of.Given as goal

abbrev pub invariant-loop-entry : goal.invariant-loop-entry
invariant-loop-entry l = map wait_need l.waits.items ++ map need_of (drop l.entry-index l.entry-items) ≡ map need_of l.after
