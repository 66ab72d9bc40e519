use Rattle.std.proofs.Common.{◌≡◌, [], ap, subst, ◌∙◌}
use Rattle.std.proofs.lemmas.Result.{err_from_is_err_and}
use Rattle.wf_runnable.specs.Meant.{definition_of, environment_of, source}
use Rattle.wf_asks.specs.Known.{store_in, writer}
use Rattle.wf_layers.specs.Variables.{IsLastWritten}
use Rattle.wf_runnable.specs.Aside.{IsAside}
use Rattle.wf_runnable.specs.Writes.{writes}
use Rattle.wf_session.specs.Begun.{IsDear, Going, going, graph, moment}
use Rattle.wf_session.specs.Stood.{Stands, run_with}
use Rattle.wf_session.proofs.StoodLemmas.{put_aside, same_run}
use Rattle.wf_session.proofs.session.begun.Goals as goal

pub returns-in_err-making-clause-dear : goal.returns-in_err-making-clause-dear
returns-in_err-making-clause-dear c =
    let p = err_from_is_err_and c.from_residual.result c.from_residual.ensures.1 in
    rw (p.1) (λ other. absurd (other p.2))

pub settle-requires-clause-comes : goal.settle-requires-clause-comes
settle-requires-clause-comes c = record { events = []; run = c.in_ok-making.ensures.begins }

pub returns-in_err-settle-clause-dear : goal.returns-in_err-settle-clause-dear
returns-in_err-settle-clause-dear c =
    let p = err_from_is_err_and c.from_residual-in_err-settle.result c.from_residual-in_err-settle.ensures.1 in
    let s = c.args.runnable.now in
    let same : going c.in_ok-making.making.0 ≡ run_with s.checked.now c.args.start.now c.args.inputs.now =
    ap going c.in_ok-making.ensures.acts
    ∙ same_run c.of-actions.result s.ready.now s.checked.now c.args.start.now c.args.inputs.now s.readied c.of-actions.ensures in
    rw (p.1, p.2) (λ other. subst IsDear same (c.in_err-settle.ensures.dear other))

pub returns-clause-stands : goal.returns-clause-stands
returns-clause-stands c =
    let s = c.args.runnable.now in
    let a = c.in_ok-making.making.0 in
    let rest = c.rest.result in
    let same : going a ≡ run_with s.checked.now c.args.start.now c.args.inputs.now =
    ap going c.in_ok-making.ensures.acts
    ∙ same_run c.of-actions.result s.ready.now s.checked.now c.args.start.now c.args.inputs.now s.readied c.of-actions.ensures in
    let e = c.in_ok-settle.ensures in
    subst (λ (g : Going). Stands g rest c.settle.new.waits.0) same
    (put_aside a c.settle.new.making.1 rest c.settle.new.waits.0 c.rest.ensures.lists
    (subst (λ b. IsAside (definition_of b) (environment_of b) (source b) rest) c.settle.ensures.same
    (record { kept = c.rest.ensures.kept; sums = c.rest.ensures.sums }))
    (λ v.
    subst
    (λ b. IsLastWritten (graph (going b)) (source b) (writer (writes (definition_of b)) v) (moment c.settle.new.making.1).rows
    (store_in c.settle.new.making.1.1.1.1 v))
    c.settle.ensures.same
    (c.is_known.ensures.last v))
    e.listed e.still e.waiting e.all e.within)
