use Rattle.std.proofs.Common.{◌≡◌, []}
use Rattle.wf_layers.specs.Bound.{left}
use Rattle.wf_layers.specs.Meaning.{meaning}
use Rattle.wf_kept.specs.Taken.{HasTaken}
use Rattle.wf_drive.specs.Driven.{Comes}
use Rattle.wf_drive.proofs.driving.drive.Given as goal

-- so many turns were taken, of whose events all this is said
abbrev pub invariant-loop-alloc : goal.invariant-loop-alloc
invariant-loop-alloc g l = record {
  same : g.M.Machine.origin l.machine ≡ g.M.Machine.origin l.fn.machine;
  comes : Comes (g.M.Machine.graph (g.M.Machine.origin l.fn.machine)) (g.M.Machine.source (g.M.Machine.origin l.fn.machine))
      (g.M.Machine.told (g.M.Machine.origin l.fn.machine)) l.schedule (g.M.Machine.state l.fn.machine) (g.M.Machine.state l.machine)
      l.steps l.peak l.traced l.trace.items;
  taken : HasTaken (g.M.Machine.graph (g.M.Machine.origin l.fn.machine)) (g.M.Machine.depth (g.M.Machine.origin l.fn.machine))
      (g.M.Machine.source (g.M.Machine.origin l.fn.machine)) (g.M.Machine.state l.machine) l.steps;
}

-- what is left of the events
abbrev pub decreases-loop-alloc : goal.decreases-loop-alloc
decreases-loop-alloc g l =
    left (g.M.Machine.source (g.M.Machine.origin l.fn.machine))
    (meaning (g.M.Machine.source (g.M.Machine.origin l.fn.machine)) (g.M.Machine.depth (g.M.Machine.origin l.fn.machine))
    (g.M.Machine.graph (g.M.Machine.origin l.fn.machine)))
    (g.M.Machine.state l.machine) (g.M.Machine.graph (g.M.Machine.origin l.fn.machine)) []
