use Rattle.std.proofs.Common.{◌≡◌, List, []}
use Rattle.wf_answers.specs.AnswerTree.{Key}
use Rattle.wf_layers.specs.Bound.{left}
use Rattle.wf_layers.specs.Meaning.{meaning}
use Rattle.wf_runnable.specs.Meant.{depth, graph, source}
use Rattle.wf_session.specs.Begun.{Comes, going, has_answer, moment}
use Rattle.wf_waits.specs.Kept.{AreNew}
use Rattle.wf_session.specs.Waiting.{AreWaiting}
use Rattle.wf_session.proofs.settle.settle.Given as goal

-- a run with the answers that are there has led here, and what is kept waits still
abbrev pub invariant-loop-event : goal.invariant-loop-event
invariant-loop-event l = record {
  same : l.making.0 ≡ l.fn.making.0;
  comes : Comes (going l.fn.making.0) l.making.1;
  waiting : AreWaiting (going l.fn.making.0) (moment l.making.1) l.waits.0;
  marked : (earlier : List Key) → AreNew (has_answer (going l.fn.making.0)) earlier l.fn.waits
      → AreNew (has_answer (going l.fn.making.0)) earlier l.waits;
}

-- what is left of the events
abbrev pub decreases-loop-event : goal.decreases-loop-event
decreases-loop-event l =
    left (source l.fn.making.0) (meaning (source l.fn.making.0) (depth l.fn.making.0) (graph l.fn.making.0)) (moment l.making.1)
    (graph l.fn.making.0) []
