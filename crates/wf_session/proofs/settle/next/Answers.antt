use Rattle.wf_kept.specs.Reached.{IsReached}
use Rattle.wf_kept.specs.Ready.{IsReady}
use Rattle.wf_tables.specs.Tables.{events_in}
use Rattle.wf_runnable.specs.Meant.{depth, source}
use Rattle.wf_session.specs.Begun.{going, graph, moment}
use Rattle.wf_session.proofs.NextLemmas.{all_are_kept, quiet}
use Rattle.wf_session.proofs.settle.next.Goals as goal

pub returns-clause-quiet : goal.returns-clause-quiet
returns-clause-quiet c = λ none.
    let h = c.args.making.now in
    let ready = c.ready.result.now.0 in
    let reached : IsReached (graph (going h.0)) (depth h.0) (source h.0) (moment h.1) =
    c.is_known.ensures.reached in
    let is_ready : IsReady (graph (going h.0)) (source h.0) (moment h.1) (events_in ready) =
    c.ready.ensures.each in
    quiet (going h.0) (moment h.1) ready c.first_that_happens.new.waits.0 (depth h.0) reached is_ready (c.in_ok-found.ensures.held none)

pub returns-clause-all : goal.returns-clause-all
returns-clause-all c = λ none.
    let h = c.args.making.now in
    let ready = c.ready.result.now.0 in
    let reached : IsReached (graph (going h.0)) (depth h.0) (source h.0) (moment h.1) =
    c.is_known.ensures.reached in
    let is_ready : IsReady (graph (going h.0)) (source h.0) (moment h.1) (events_in ready) =
    c.ready.ensures.each in
    all_are_kept (going h.0) (moment h.1) ready c.first_that_happens.new.waits.0 (depth h.0) reached is_ready
    (c.in_ok-found.ensures.held none)
