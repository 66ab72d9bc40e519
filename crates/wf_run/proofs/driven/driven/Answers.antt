use Rattle.std.proofs.Common.{sym, subst}
use Rattle.std.proofs.lemmas.Result.{err_from_is_err_and}
use Rattle.wf_runnable.specs.Over.{AreLeft, IsAtLast, moment}
use Rattle.wf_run.proofs.driven.driven.Goals as goal

pub given_up-rows-requires : goal.given_up-rows-requires
given_up-rows-requires c =
    let h = c.drive.new.machine in
    subst (λ k. IsAtLast k h.1) (sym c.in_ok-steps.ensures.same) c.in_ok-steps.ensures.driven.over

pub returns-clause-made : goal.returns-clause-made
returns-clause-made c = record { last = moment c.drive.new.machine.1; driven = c.in_ok-steps.ensures.driven }

pub returns-clause-left : goal.returns-clause-left
returns-clause-left c =
    subst (λ k. AreLeft k c.given_up-rows.result.0.0 c.given_up-rows.result.1.0) c.in_ok-steps.ensures.same c.given_up-rows.ensures

pub returns-in_err-steps-clause-large : goal.returns-in_err-steps-clause-large
returns-in_err-steps-clause-large c =
    let p = err_from_is_err_and c.from_residual.result c.from_residual.ensures.1 in
    rw (p.1, p.2) (λ free. c.in_err-steps.ensures.large free)
