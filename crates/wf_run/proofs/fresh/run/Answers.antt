use Rattle.std.proofs.Common.{sym, subst, ◌∙◌}
use Rattle.wf_record.specs.Cost.{cost}
use Rattle.wf_run.specs.Made.{AreFew, IsTooMuch}
use Rattle.wf_run.specs.Runs.{IsTheRun}
use Rattle.wf_run.proofs.fresh.run.Goals as goal

pub returns-in-None-clause-large : goal.returns-in-None-clause-large
returns-in-None-clause-large c = λ other.
    subst (λ r. IsTooMuch c.args.spent (cost r)) (c.in_ok-finished.ensures.record ∙ c.in_ok-rows.ensures.meant)
    (c.cost_within.ensures.large c.in-None.is)

pub returns-clause-told : goal.returns-clause-told
returns-clause-told c =
    let m = c.in_ok-rows.field-0 in
    subst (λ r. IsTheRun c.args.runnable.now.checked.now c.args.start c.args.inputs.now c.args.schedule.now c.args.traced
    (record { events = m.trace.items; left = r; steps = m.steps; peak = m.peak }))
    (sym (c.in_ok-finished.ensures.record ∙ c.in_ok-rows.ensures.meant)) c.in_ok-rows.ensures.run

pub returns-clause-few : goal.returns-clause-few
returns-clause-few c =
    subst (λ r. AreFew c.in_ok-rows.field-0.steps (cost r)) (sym (c.in_ok-finished.ensures.record ∙ c.in_ok-rows.ensures.meant))
    c.in_ok-rows.ensures.few
