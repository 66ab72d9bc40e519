use Rattle.std.proofs.Common.{◌-◌, length}
use Rattle.wf_session.specs.Begun.{going, moment}
use Rattle.wf_session.specs.Settled.{AreHeld, HasLooked}
use Rattle.wf_session.proofs.settle.first_that_happens.Given as goal

-- what waits at the places so far is kept
abbrev pub invariant-loop-place : goal.invariant-loop-place
invariant-loop-place l = record {
  looked : HasLooked (going l.making.0) (moment l.making.1) l.fn.waits l.waits;
  held : AreHeld (going l.making.0) (moment l.making.1) l.ready.0 l.waits.0 l.place;
}

-- what is left of the places
abbrev pub decreases-loop-place : goal.decreases-loop-place
decreases-loop-place l = length l.ready.0 - l.place
