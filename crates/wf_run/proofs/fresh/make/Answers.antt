use Rattle.std.proofs.Common.{arith, sym, subst, ◌∙◌}
use Rattle.std.proofs.lemmas.Result.{err_from_is_err_and}
use Rattle.wf_environment.specs.Environment.{Environment}
use Rattle.wf_runnable.specs.Points.{graph_of}
use Rattle.wf_runnable.specs.Source as sources
use Rattle.wf_plan.specs.PlanSeen.{plan_tree}
use Rattle.wf_record.specs.Cost.{cost}
use Rattle.wf_runnable.specs.Kept.{IsPlanned}
use Rattle.wf_runnable.specs.Acting.{ActFor}
use Rattle.wf_run.specs.Made.{AreFew, IsAtFirst, IsMade, IsTooMuch, price}
use Rattle.wf_runnable.specs.Over.{AreLeft, moment}
use Rattle.wf_runnable.specs.Runnable.{begun_with, definition}
use Rattle.wf_run.proofs.MadeLemmas.{costs_so, run_is}
use Rattle.wf_runnable.proofs.EndedLemmas.{ended_so, record_is}
use Rattle.wf_run.proofs.fresh.make.Goals as goal

pub fresh-requires-clause-planned : goal.fresh-requires-clause-planned
fresh-requires-clause-planned c =
    let s = c.args.runnable.now in
    subst (λ d. IsPlanned (graph_of d) (plan_tree s.plan.now)) (sym c.of-actions.ensures.acts.definition)
    (subst (λ k. IsPlanned (graph_of (definition k)) (plan_tree s.plan.now)) (sym s.readied) c.is_planned.ensures)

pub fresh-requires-clause-instance : goal.fresh-requires-clause-instance
fresh-requires-clause-instance c = c.of-actions.ensures.instance

pub driven-requires-clause-first : goal.driven-requires-clause-first
driven-requires-clause-first c =
    let h = c.in_ok-making.making in subst (λ k. IsAtFirst k h.1) (sym c.in_ok-making.ensures.acts) c.in_ok-making.ensures.first

pub returns-clause-run : goal.returns-clause-run
returns-clause-run c =
    let s = c.args.runnable.now in
    let d = definition s.checked.now in
    let e : Environment = begun_with c.args.start.now c.args.inputs.now in
    let a = c.of-actions.result in
    let h = c.in_ok-making.making in
    let m = c.in_ok-made.made in
    let act : ActFor a d e (sources.source d e) =
    subst (λ k. ActFor a (definition k) e (sources.source (definition k) e)) s.readied c.of-actions.ensures.acts in
    run_is d e a act c.args.schedule.now (moment h.1) m.steps m.peak c.args.traced m.trace.items c.in_ok-making.ensures.begins
    (subst (λ k. IsMade k (moment h.1) c.args.schedule.now c.args.traced m.steps m.peak m.trace.items) c.in_ok-making.ensures.acts
    c.in_ok-made.ensures.made)

pub returns-clause-ended : goal.returns-clause-ended
returns-clause-ended c =
    let s = c.args.runnable.now in
    let d = definition s.checked.now in
    let e : Environment = begun_with c.args.start.now c.args.inputs.now in
    let a = c.of-actions.result in
    let m = c.in_ok-made.made in
    let act : ActFor a d e (sources.source d e) =
    subst (λ k. ActFor a (definition k) e (sources.source (definition k) e)) s.readied c.of-actions.ensures.acts in
    ended_so d e (sources.source d e) a act m.rows.0 m.store.0
    (subst (λ k. AreLeft k m.rows.0 m.store.0) c.in_ok-making.ensures.acts c.in_ok-made.ensures.left)

pub returns-clause-meant : goal.returns-clause-meant
returns-clause-meant c =
    let s = c.args.runnable.now in
    let d = definition s.checked.now in
    let e : Environment = begun_with c.args.start.now c.args.inputs.now in
    let a = c.of-actions.result in
    let m = c.in_ok-made.made in
    let act : ActFor a d e (sources.source d e) =
    subst (λ k. ActFor a (definition k) e (sources.source (definition k) e)) s.readied c.of-actions.ensures.acts in
    record_is d e (sources.source d e) a act m.rows.0 m.store.0
    (subst (λ k. AreLeft k m.rows.0 m.store.0) c.in_ok-making.ensures.acts c.in_ok-made.ensures.left)
    ∙ sym (c.a_record_is_of_the_table.ensures.record d e)

pub returns-clause-few : goal.returns-clause-few
returns-clause-few c =
    let s = c.args.runnable.now in
    let d = definition s.checked.now in
    let e : Environment = begun_with c.args.start.now c.args.inputs.now in
    let a = c.of-actions.result in
    let steps = c.in_ok-made.made.steps in
    let act : ActFor a d e (sources.source d e) =
    subst (λ k. ActFor a (definition k) e (sources.source (definition k) e)) s.readied c.of-actions.ensures.acts in
    let few = subst (λ k. AreFew steps (price k)) c.in_ok-making.ensures.acts c.in_ok-made.ensures.few in
    let cheap = costs_so d e (sources.source d e) a act (c.runs_cost_no_more_than_their_records.ensures a) in
    subst (λ r. AreFew steps (cost r)) (sym (c.a_record_is_of_the_table.ensures.record d e)) (omega (arith, few, cheap))

pub returns-in_err-made-clause-large : goal.returns-in_err-made-clause-large
returns-in_err-made-clause-large c =
    let s = c.args.runnable.now in
    let d = definition s.checked.now in
    let e : Environment = begun_with c.args.start.now c.args.inputs.now in
    let a = c.of-actions.result in
    let act : ActFor a d e (sources.source d e) =
    subst (λ k. ActFor a (definition k) e (sources.source (definition k) e)) s.readied c.of-actions.ensures.acts in
    let cheap = costs_so d e (sources.source d e) a act (c.runs_cost_no_more_than_their_records.ensures a) in
    let p = err_from_is_err_and c.from_residual-in_err-made.result c.from_residual-in_err-made.ensures.1 in
    rw (p.1, p.2) (λ other.
    let large = subst (λ k. IsTooMuch c.args.spent (price k)) c.in_ok-making.ensures.acts (c.in_err-made.ensures.large other) in
    subst (λ r. IsTooMuch c.args.spent (cost r)) (sym (c.a_record_is_of_the_table.ensures.record d e)) (omega (arith, large, cheap)))
