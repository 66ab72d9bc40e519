use Rattle.std.proofs.Common.{◌≡◌, ◌≤◌, ◌+◌, ◌-◌, ◌*◌, ◌^◌, drop}
use Rattle.wf_tables.specs.PlanSeen.{plan_tree}
use Rattle.wf_meter.specs.Parts.{turns_sum}
use Rattle.wf_meter.proofs.totals.turns_total.Given as goal

-- those so far, and those that are left
abbrev pub invariant-loop-place : goal.invariant-loop-place
invariant-loop-place g l =
    let a = g.A.Acts in
    let sum = turns_sum a.decision_tree a.verdict_tree (plan_tree l.plan) (a.source l.acts).items in record {
      all : l.total + sum (drop l.place l.opens.0) ≡ sum l.opens.0;
      bound : l.total ≤ (2 ^ 64 - 1) * l.place;
    }
