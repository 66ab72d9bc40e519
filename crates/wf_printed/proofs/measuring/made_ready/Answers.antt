use Rattle.std.proofs.Common.{◌≢◌, IfOk, IfErr, false, subst}
use Rattle.wf_run.specs.Made.{IsTooMuch}
use Rattle.wf_run.specs.Runs.{IsTheRun, meant_cost}
use Rattle.wf_run.specs.Seen.{told}
use Rattle.wf_told.specs.declared.fault.RunsFault.{RunsFault}
use Rattle.wf_printed.proofs.measuring.made_ready.Goals as goal

pub returns-clause-told : goal.returns-clause-told
returns-clause-told c =
    subst (λ k. IfOk c.planned.result (λ e. IsTheRun k c.args.start c.args.inputs.now c.args.schedule.now false (told e))) c.in_ok-ready.ensures
    c.planned.ensures.told

pub returns-clause-too_large : goal.returns-clause-too_large
returns-clause-too_large c =
    subst (λ k. IfErr c.planned.result (λ f. f ≢ RunsFault.Memory → IsTooMuch 0 (meant_cost k c.args.start c.args.inputs.now)))
    c.in_ok-ready.ensures c.planned.ensures.too_large
