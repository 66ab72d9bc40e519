use Rattle.std.proofs.Common.{◌≢◌, IfOk, IfErr, subst, sym}
use Rattle.wf_run.specs.Made.{IsTooMuch}
use Rattle.wf_run.specs.Runs.{IsTheResubmission, MayBeResumed, resumed_cost}
use Rattle.wf_run.specs.Seen.{told}
use Rattle.wf_told.specs.declared.fault.ResubmissionFault.{ResubmissionFault}
use Rattle.wf_printed.proofs.resubmission.planned.Goals as goal

pub resubmitted-requires : goal.resubmitted-requires
resubmitted-requires c = subst (λ k. MayBeResumed k c.args.log.now c.args.from.now) (sym c.of-runnable.ensures) c.requires

pub returns-clause-told : goal.returns-clause-told
returns-clause-told c =
    subst
    (λ k. IfOk c.resubmitted.result (λ e. IsTheResubmission k c.args.log.now c.args.inputs.now c.args.from.now c.args.schedule.now (told e)))
    c.of-runnable.ensures c.resubmitted.ensures.told

pub returns-clause-too_large : goal.returns-clause-too_large
returns-clause-too_large c =
    subst
    (λ k. IfErr c.resubmitted.result (λ f. f ≢ ResubmissionFault.Memory
    → IsTooMuch 0 (resumed_cost k c.args.log.now c.args.inputs.now c.args.from.now)))
    c.of-runnable.ensures c.resubmitted.ensures.too_large
