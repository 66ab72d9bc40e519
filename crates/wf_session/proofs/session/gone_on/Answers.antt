use Rattle.std.proofs.Common.{◌≡◌, ap, subst, sym, ◌∙◌}
use Rattle.std.proofs.lemmas.Result.{err_from_is_err_and}
use Rattle.wf_runnable.specs.Meant.{definition_of, environment_of, source}
use Rattle.wf_asks.specs.Known.{store_in, writer}
use Rattle.wf_layers.specs.Variables.{IsLastWritten}
use Rattle.wf_runnable.specs.Aside.{IsAside}
use Rattle.wf_runnable.specs.Writes.{writes}
use Rattle.wf_session.specs.Begun.{Comes, IsDear, Going, going, graph, has_answer, moment}
use Rattle.wf_session.specs.Stood.{MayGoOn, Stands, run_with}
use Rattle.wf_waits.specs.Kept.{AreNew}
use Rattle.wf_session.specs.Waiting.{AreWaiting}
use Rattle.wf_session.proofs.StoodLemmas.{is_aside, put_aside, same_run}
use Rattle.wf_session.proofs.session.gone_on.Goals as goal

pub again-making-requires-clause-kept : goal.again-making-requires-clause-kept
again-making-requires-clause-kept c =
    let s = c.args.runnable.now in
    let a = c.of-actions.result in
    let may : MayGoOn (going a) c.args.rest =
    subst (λ (g : Going). MayGoOn g c.args.rest)
    (sym (same_run a s.ready.now s.checked.now c.args.start.now c.args.inputs.now s.readied c.of-actions.ensures)) c.requires.goes_on in
    (is_aside (going a) c.args.rest may c.of-actions.ensures.instance c.is_instance.ensures.ordered).kept

pub again-making-requires-clause-sums : goal.again-making-requires-clause-sums
again-making-requires-clause-sums c =
    let s = c.args.runnable.now in
    let a = c.of-actions.result in
    (subst (λ (g : Going). MayGoOn g c.args.rest)
    (sym (same_run a s.ready.now s.checked.now c.args.start.now c.args.inputs.now s.readied c.of-actions.ensures)) c.requires.goes_on).sums

pub settle-requires-clause-comes : goal.settle-requires-clause-comes
settle-requires-clause-comes c =
    let s = c.args.runnable.now in
    let a = c.of-actions.result in
    let there : Comes (going a) c.args.rest.0.0 =
    subst (λ (g : Going). Comes g c.args.rest.0.0)
    (sym (same_run a s.ready.now s.checked.now c.args.start.now c.args.inputs.now s.readied c.of-actions.ensures)) c.requires.goes_on.comes in
    subst (λ b. Comes (going b) c.again-making.result.1) (sym c.again-making.ensures.acts)
    (subst (λ h. Comes (going a) h) (sym c.again-making.ensures.lists) there)

pub settle-requires-clause-waiting : goal.settle-requires-clause-waiting
settle-requires-clause-waiting c =
    let s = c.args.runnable.now in
    let a = c.of-actions.result in
    let there : AreWaiting (going a) (moment c.args.rest.0.0) c.args.waits.now.0 =
    subst (λ (g : Going). AreWaiting g (moment c.args.rest.0.0) c.args.waits.now.0)
    (sym (same_run a s.ready.now s.checked.now c.args.start.now c.args.inputs.now s.readied c.of-actions.ensures)) c.requires.waiting in
    subst (λ b. AreWaiting (going b) (moment c.again-making.result.1) c.args.waits.now.0) (sym c.again-making.ensures.acts)
    (subst (λ h. AreWaiting (going a) (moment h) c.args.waits.now.0) (sym c.again-making.ensures.lists) there)

pub returns-in_err-settle-clause-dear : goal.returns-in_err-settle-clause-dear
returns-in_err-settle-clause-dear c =
    let p = err_from_is_err_and c.from_residual.result c.from_residual.ensures.1 in
    let s = c.args.runnable.now in
    let same : going c.again-making.result.0 ≡ run_with s.checked.now c.args.start.now c.args.inputs.now =
    ap going c.again-making.ensures.acts
    ∙ same_run c.of-actions.result s.ready.now s.checked.now c.args.start.now c.args.inputs.now s.readied c.of-actions.ensures in
    rw (p.1, p.2) (λ other. subst IsDear same (c.in_err-settle.ensures.dear other))

pub returns-clause-stands : goal.returns-clause-stands
returns-clause-stands c =
    let s = c.args.runnable.now in
    let a = c.again-making.result.0 in
    let rest = c.rest.result in
    let same : going a ≡ run_with s.checked.now c.args.start.now c.args.inputs.now =
    ap going c.again-making.ensures.acts
    ∙ same_run c.of-actions.result s.ready.now s.checked.now c.args.start.now c.args.inputs.now s.readied c.of-actions.ensures in
    let e = c.in_ok-settle.ensures in
    subst (λ (g : Going). Stands g rest c.settle.new.waits.0) same
    (put_aside a c.settle.new.making.1 rest c.settle.new.waits.0 c.rest.ensures.lists
    (subst (λ b. IsAside (definition_of b) (environment_of b) (source b) rest) c.settle.ensures.same
    (record { kept = c.rest.ensures.kept; sums = c.rest.ensures.sums }))
    (λ v.
    subst
    (λ b. IsLastWritten (graph (going b)) (source b) (writer (writes (definition_of b)) v) (moment c.settle.new.making.1).rows
    (store_in c.settle.new.making.1.1.1.1 v))
    c.settle.ensures.same
    (c.is_known.ensures.last v))
    e.listed e.still e.waiting e.all e.within)

pub returns-clause-marked : goal.returns-clause-marked
returns-clause-marked c = λ earlier m.
    let s = c.args.runnable.now in
    let same : going c.again-making.result.0 ≡ run_with s.checked.now c.args.start.now c.args.inputs.now =
    ap going c.again-making.ensures.acts
    ∙ same_run c.of-actions.result s.ready.now s.checked.now c.args.start.now c.args.inputs.now s.readied c.of-actions.ensures in
    let before : AreNew (has_answer (going c.again-making.result.0)) earlier c.args.waits.now =
    subst (λ (g : Going). AreNew (has_answer g) earlier c.args.waits.now) (sym same) m in
    subst (λ (g : Going). AreNew (has_answer g) earlier c.settle.new.waits) same (c.in_ok-settle.ensures.marked earlier before)
