use Rattle.std.proofs.Common.{◌≢◌, IfOk, IfErr, subst}
use Rattle.wf_told.specs.declared.fault.RunsFault.{RunsFault}
use Rattle.wf_printed.specs.Written.{CostTooMuch, StartsAreWritten}
use Rattle.wf_printed.proofs.runs.made_ready.Goals as goal

pub returns-clause-written : goal.returns-clause-written
returns-clause-written c =
    subst
    (λ k. IfOk c.planned.result (λ w. StartsAreWritten k c.args.inputs.now c.args.schedule.now c.args.traced c.args.starts.now w.text.items
    w.cost))
    c.in_ok-ready.ensures c.planned.ensures.written

pub returns-clause-too_large : goal.returns-clause-too_large
returns-clause-too_large c =
    subst (λ k. IfErr c.planned.result (λ f. f ≢ RunsFault.Memory → CostTooMuch k c.args.inputs.now c.args.starts.now)) c.in_ok-ready.ensures
    c.planned.ensures.too_large
