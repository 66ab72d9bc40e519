use Rattle.std.proofs.Common.{ap}
use Rattle.std.specs.Prelude.{◌≢◌, codes}
use Rattle.std.proofs.lemmas.Result.{err_from_is_err_and}
use Rattle.wf_files.specs.Fault.{fault_line}
use Rattle.wf_files.specs.Form.{definition_form}
use Rattle.wf_files.specs.declared.fault.FormFault.{FormFault}
use Rattle.wf_reading.specs.ReadSeen.{def_tree}
use Rattle.wf_top.specs.Resubmit.{judged}
use Rattle.wf_top.specs.Session.{joined}
use Rattle.wf_top.specs.declared.said.Verdict.TheVariants.{Definition}
use Rattle.wf_top.proofs.Opening.{opens_fault, opens_read, opens_told}
use Rattle.wf_top.proofs.session.session.Goals as goal

pub returns-in_err-file-clause-opens : goal.returns-in_err-file-clause-opens
returns-in_err-file-clause-opens g c =
    let p = err_from_is_err_and c.from_residual.result c.from_residual.ensures.1 in
    let next = judged Definition (codes "definition ") (joined c.args.inputs.now) in
    rw (p.1, p.2) (c.in_err-file.ensures.stops (λ file. next (definition_form file)))

pub returns-in-Err-clause-opens : goal.returns-in-Err-clause-opens
returns-in-Err-clause-opens g c =
    let fault = c.in-Err.fault in
    let next = judged Definition (codes "definition ") (joined c.args.inputs.now) in
    opens_told _ _ _ (λ file. next (definition_form file)) _ _ _ _
    c.in_ok-file.ensures.gives
    (opens_fault (fault ≢ FormFault.Memory) _ Definition (fault_line (codes "definition ") fault) _
    (λ other. ap next (c.in-Err.ensures.fault other)) c.say_no_form.ensures.opened)
    c.say_no_form.ensures.stopped

pub returns-in-Ok-clause-opens : goal.returns-in-Ok-clause-opens
returns-in-Ok-clause-opens g c =
    let next = judged Definition (codes "definition ") (joined c.args.inputs.now) in
    opens_read _ _ _ _ (λ file. next (definition_form file)) _
    (joined c.args.inputs.now (def_tree c.in-Ok.checked.def)) _ _ _ _
    c.load.ensures.same c.in_ok-file.ensures.gives (ap next c.in-Ok.ensures.form)
    c.joined.ensures.opens
