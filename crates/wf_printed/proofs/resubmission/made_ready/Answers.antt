use Rattle.std.proofs.Common.{◌≢◌, IfOk, IfErr, subst, sym}
use Rattle.wf_run.specs.Made.{IsTooMuch}
use Rattle.wf_run.specs.Runs.{IsTheResubmission, MayBeResumed, resumed_cost}
use Rattle.wf_run.specs.Seen.{told}
use Rattle.wf_told.specs.declared.fault.ResubmissionFault.{ResubmissionFault}
use Rattle.wf_printed.proofs.resubmission.made_ready.Goals as goal

pub planned-requires : goal.planned-requires
planned-requires c = subst (λ k. MayBeResumed k c.args.log.now c.args.from.now) (sym c.in_ok-ready.ensures) c.requires

pub returns-clause-told : goal.returns-clause-told
returns-clause-told c =
    subst
    (λ k. IfOk c.planned.result (λ e. IsTheResubmission k c.args.log.now c.args.inputs.now c.args.from.now c.args.schedule.now (told e)))
    c.in_ok-ready.ensures c.planned.ensures.told

pub returns-clause-too_large : goal.returns-clause-too_large
returns-clause-too_large c =
    subst
    (λ k. IfErr c.planned.result (λ f. f ≢ ResubmissionFault.Memory
    → IsTooMuch 0 (resumed_cost k c.args.log.now c.args.inputs.now c.args.from.now)))
    c.in_ok-ready.ensures c.planned.ensures.too_large
