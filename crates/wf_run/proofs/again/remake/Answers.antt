use Rattle.std.proofs.Common.{arith, ap, false, sym, subst, ◌∙◌}
use Rattle.std.proofs.lemmas.Result.{err_from_is_err_and}
use Rattle.wf_answers.specs.InputsSeen.{inputs_tree}
use Rattle.wf_environment.specs.Environment.{Environment, fresh}
use Rattle.wf_runnable.specs.Answering.{table_by}
use Rattle.wf_runnable.specs.Record.{record_of_table}
use Rattle.wf_runnable.specs.Resubmitted.{pinned_source}
use Rattle.wf_record.specs.Cost.{cost}
use Rattle.wf_record.specs.Record.{RecordTree}
use Rattle.wf_record.specs.Seen.{record_tree}
use Rattle.wf_environment.specs.Starts.{StartTree}
use Rattle.wf_runnable.specs.Acting.{ActFor}
use Rattle.wf_runnable.specs.Over.{AreLeft, moment}
use Rattle.wf_run.specs.Made.{IsAtFirst, IsMade, IsTooMuch, price}
use Rattle.wf_runnable.specs.Runnable.{begun_with, definition}
use Rattle.wf_run.proofs.MadeLemmas.{costs_so, pinned_is, resubmission_is}
use Rattle.wf_runnable.proofs.EndedLemmas.{ended_so, record_is}
use Rattle.wf_run.proofs.again.remake.Goals as goal

pub driven-requires-clause-first : goal.driven-requires-clause-first
driven-requires-clause-first c =
    let h = c.in_ok-making.making in subst (λ k. IsAtFirst k h.1) (sym c.in_ok-making.ensures.acts) c.in_ok-making.ensures.first

pub returns-clause-run : goal.returns-clause-run
returns-clause-run c =
    let s = c.args.runnable.now in
    let d = definition s.checked.now in
    let r : RecordTree = record_tree c.args.log.now in
    let i = inputs_tree c.args.inputs.now in
    let from = c.args.from.now in
    let e : Environment = begun_with c.args.start.now c.args.inputs.now in
    let a = c.actions-actions.result in
    let h = c.in_ok-making.making in
    let m = c.in_ok-made.made in
    let act : ActFor a d e (pinned_source d r i from) =
    subst (λ k. ActFor a (definition k) e (pinned_source (definition k) r i from)) s.readied c.actions-actions.ensures in
    resubmission_is d e r i from a act c.args.schedule.now (moment h.1) m.steps m.peak m.trace.items c.in_ok-making.ensures.begins
    (subst (λ k. IsMade k (moment h.1) c.args.schedule.now false m.steps m.peak m.trace.items) c.in_ok-making.ensures.acts
    c.in_ok-made.ensures.made)

pub returns-clause-ended : goal.returns-clause-ended
returns-clause-ended c =
    let s = c.args.runnable.now in
    let d = definition s.checked.now in
    let r : RecordTree = record_tree c.args.log.now in
    let i = inputs_tree c.args.inputs.now in
    let from = c.args.from.now in
    let e : Environment = begun_with c.args.start.now c.args.inputs.now in
    let a = c.actions-actions.result in
    let m = c.in_ok-made.made in
    let act : ActFor a d e (pinned_source d r i from) =
    subst (λ k. ActFor a (definition k) e (pinned_source (definition k) r i from)) s.readied c.actions-actions.ensures in
    ended_so d e (pinned_source d r i from) a act m.rows.0 m.store.0
    (subst (λ k. AreLeft k m.rows.0 m.store.0) c.in_ok-making.ensures.acts c.in_ok-made.ensures.left)

pub returns-clause-meant : goal.returns-clause-meant
returns-clause-meant c =
    let s = c.args.runnable.now in
    let d = definition s.checked.now in
    let r : RecordTree = record_tree c.args.log.now in
    let i = inputs_tree c.args.inputs.now in
    let from = c.args.from.now in
    let e : Environment = begun_with c.args.start.now c.args.inputs.now in
    let a = c.actions-actions.result in
    let m = c.in_ok-made.made in
    let act : ActFor a d e (pinned_source d r i from) =
    subst (λ k. ActFor a (definition k) e (pinned_source (definition k) r i from)) s.readied c.actions-actions.ensures in
    record_is d e (pinned_source d r i from) a act m.rows.0 m.store.0
    (subst (λ k. AreLeft k m.rows.0 m.store.0) c.in_ok-making.ensures.acts c.in_ok-made.ensures.left)
    ∙ ap (λ (b : StartTree). record_of_table d (fresh b i) (table_by d (pinned_source d r i from))) c.requires.start ∙ pinned_is d r i from

pub returns-in_err-made-clause-large : goal.returns-in_err-made-clause-large
returns-in_err-made-clause-large c =
    let s = c.args.runnable.now in
    let d = definition s.checked.now in
    let r : RecordTree = record_tree c.args.log.now in
    let i = inputs_tree c.args.inputs.now in
    let from = c.args.from.now in
    let e : Environment = begun_with c.args.start.now c.args.inputs.now in
    let a = c.actions-actions.result in
    let act : ActFor a d e (pinned_source d r i from) =
    subst (λ k. ActFor a (definition k) e (pinned_source (definition k) r i from)) s.readied c.actions-actions.ensures in
    let cheap = costs_so d e (pinned_source d r i from) a act (c.runs_cost_no_more_than_their_records.ensures a) in
    let p = err_from_is_err_and c.from_residual-in_err-made.result c.from_residual-in_err-made.ensures.1 in
    rw (p.1, p.2) (λ other.
    let large = subst (λ k. IsTooMuch 0 (price k)) c.in_ok-making.ensures.acts (c.in_err-made.ensures.large other) in
    subst (λ q. IsTooMuch 0 (cost q))
    (ap (λ (b : StartTree). record_of_table d (fresh b i) (table_by d (pinned_source d r i from))) c.requires.start ∙ pinned_is d r i from)
    (omega (arith, large, cheap)))
