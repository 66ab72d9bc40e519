use Rattle.wf_kept.specs.Reached.{IsReached}
use Rattle.wf_runnable.specs.Meant.{depth, source}
use Rattle.wf_session.specs.Begun.{going, graph, moment}
use Rattle.wf_session.proofs.NextLemmas.{may_happen}
use Rattle.wf_session.proofs.ScanLemmas.{all_held, held_at_first, looked_on, looked_same}
use Rattle.wf_session.proofs.settle.first_that_happens.Goals as goal

pub past-place-requires : goal.past-place-requires
past-place-requires c =
    let h = c.args.making.now in
    let reached : IsReached (graph (going h.0)) (depth h.0) (source h.0) (moment h.1) =
    c.is_known.ensures.reached in
    may_happen (going h.0) (moment h.1) c.args.ready.now.0 c.args.waits.now.0 (depth h.0) reached c.requires.ready c.requires.waiting

pub loop-place-init : goal.loop-place-init
loop-place-init c =
    let g = going c.args.making.now.0 in
    let s = moment c.args.making.now.1 in record {
      looked = looked_same g s c.args.waits.now c.requires.waiting;
      held =
          held_at_first g s c.args.ready.now.0 c.args.waits.now.0 c.past-place.result c.requires.waiting c.past-place.ensures.passed;
    }

pub past-place-requires-in-loop-place : goal.past-place-requires-in-loop-place
past-place-requires-in-loop-place c =
    let h = c.args.making.now in
    let reached : IsReached (graph (going h.0)) (depth h.0) (source h.0) (moment h.1) =
    c.is_known.ensures.reached in
    may_happen (going h.0) (moment h.1) c.args.ready.now.0 c.look.new.waits.0 (depth h.0) reached c.requires.ready
    c.in_ok-event.ensures.looked.waiting

pub loop-place-preserved : goal.loop-place-preserved
loop-place-preserved c =
    let g = going c.args.making.now.0 in
    let s = moment c.args.making.now.1 in record {
      looked = looked_on g s c.args.waits.now c.loop-place.waits c.look.new.waits c.loop-place.invariant.looked c.in_ok-event.ensures.looked;
      held =
          all_held g s c.args.ready.now.0 c.loop-place.waits c.look.new.waits c.loop-place.place c.past-place-in-loop-place.result
          c.in_ok-event.ensures.looked c.loop-place.invariant.held (c.in_ok-event.ensures.held c.in_default.is)
          c.past-place-in-loop-place.ensures.passed;
    }
