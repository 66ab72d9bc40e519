use Rattle.std.proofs.Common.{◌≡◌, [], drop}
use Rattle.wf_layers.specs.Address.{Address}
use Rattle.wf_events.specs.Counts.{entered_counts, set_all}
use Rattle.wf_events.specs.PlanSeen.{plan_tree}
use Rattle.wf_events.specs.Tables.{count_in}
use Rattle.wf_steps.proofs.fresh.first_waits.Given as goal

-- those that are left to count, over what is counted, are all
abbrev pub invariant-loop-action : goal.invariant-loop-action
invariant-loop-action l = (x : Address)
    → set_all (entered_counts (plan_tree l.plan) [] (drop l.action-index l.top)) (count_in l.waits.0) x
    ≡ set_all (entered_counts (plan_tree l.plan) [] l.top) (count_in []) x
