use Rattle.std.proofs.Common.{◌≡◌, ◌≤◌, ◌+◌, ◌-◌, ◌*◌, ◌^◌, drop}
use Rattle.wf_meter.specs.Parts.{decisions_sum}
use Rattle.wf_meter.proofs.totals.decisions_total.Given as goal

-- those so far, and those that are left
abbrev pub invariant-loop-place : goal.invariant-loop-place
invariant-loop-place g l =
    let a = g.A.Acts in
    let sum = decisions_sum a.decision_tree a.verdict_tree (a.weight_of_decision l.acts) in record {
      all : l.total + sum (drop l.place l.opens.0) ≡ sum l.opens.0;
      bound : l.total ≤ (2 ^ 64 - 1) * l.place;
    }
