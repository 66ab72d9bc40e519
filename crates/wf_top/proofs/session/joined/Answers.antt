use Rattle.std.proofs.Common.{ap}
use Rattle.std.specs.Prelude.{◌≢◌, codes}
use Rattle.std.proofs.lemmas.Result.{err_from_is_err_and}
use Rattle.wf_answers.specs.InputsSeen.{inputs_tree}
use Rattle.wf_files.specs.Fault.{fault_line}
use Rattle.wf_files.specs.Form.{inputs_form}
use Rattle.wf_files.specs.declared.fault.FormFault.{FormFault}
use Rattle.wf_reading.specs.ReadSeen.{def_tree}
use Rattle.wf_told.specs.Records.{starts_of}
use Rattle.wf_top.specs.Resubmit.{judged}
use Rattle.wf_top.specs.Session.{started}
use Rattle.wf_top.specs.declared.said.Verdict.TheVariants.{Inputs}
use Rattle.wf_top.proofs.Opening.{opens_fault, opens_same, opens_told}
use Rattle.wf_top.proofs.session.joined.Goals as goal

pub returns-in_err-file-clause-opens : goal.returns-in_err-file-clause-opens
returns-in_err-file-clause-opens g c =
    let p = err_from_is_err_and c.from_residual.result c.from_residual.ensures.1 in
    let d = def_tree c.args.checked.def in
    let next = judged Inputs (codes "inputs ") (λ i. started d i (starts_of d i)) in
    rw (p.1, p.2) (c.in_err-file.ensures.stops (λ file. next (inputs_form file)))

pub returns-in-Err-clause-opens : goal.returns-in-Err-clause-opens
returns-in-Err-clause-opens g c =
    let fault = c.in-Err.fault in
    let d = def_tree c.args.checked.def in
    let next = judged Inputs (codes "inputs ") (λ i. started d i (starts_of d i)) in
    opens_told _ _ _ (λ file. next (inputs_form file)) _ _ _ _
    c.in_ok-file.ensures.gives
    (opens_fault (fault ≢ FormFault.Memory) _ Inputs (fault_line (codes "inputs ") fault) _
    (λ other. ap next (c.in-Err.ensures.fault other)) c.say_no_form.ensures.opened)
    c.say_no_form.ensures.stopped

pub returns-in-Ok-clause-opens : goal.returns-in-Ok-clause-opens
returns-in-Ok-clause-opens g c =
    let d = def_tree c.args.checked.def in
    let i = inputs_tree c.in-Ok.inputs in
    let next = judged Inputs (codes "inputs ") (λ i. started d i (starts_of d i)) in
    opens_told _ _ _ (λ file. next (inputs_form file)) _ _ _ _
    c.in_ok-file.ensures.gives
    (opens_same _ (started d i (starts_of d i)) _ (ap next c.in-Ok.ensures.form) c.begun.ensures.opened)
    c.begun.ensures.stopped
