use Rattle.std.proofs.Common.{ap}
use Rattle.std.specs.Prelude.{◌≢◌, codes}
use Rattle.std.proofs.lemmas.Result.{err_from_is_err_and}
use Rattle.wf_answers.specs.InputsSeen.{inputs_tree}
use Rattle.wf_reading.specs.ReadSeen.{def_tree}
use Rattle.wf_files.specs.Fault.{fault_line}
use Rattle.wf_files.specs.Form.{schedule_form}
use Rattle.wf_files.specs.Seen.{found_tree}
use Rattle.wf_files.specs.declared.fault.FormFault.{FormFault}
use Rattle.wf_top.specs.Resubmit.{judged, remade}
use Rattle.wf_top.specs.Seen.{asked_tree}
use Rattle.wf_top.specs.declared.said.Verdict.TheVariants.{Inputs}
use Rattle.wf_top.proofs.Following.{reaches_fault, reaches_always}
use Rattle.wf_top.proofs.resubmitting.remade_by.Goals as goal

pub returns-in_err-file-clause-follows : goal.returns-in_err-file-clause-follows
returns-in_err-file-clause-follows g c =
    let p = err_from_is_err_and c.from_residual.result c.from_residual.ensures.1 in
    let again = remade (asked_tree c.args.asked) (def_tree c.args.checked.now.def) (inputs_tree c.args.inputs.now) in
    let next = judged Inputs (codes "schedule ") (λ numbers. again numbers (found_tree c.args.found.now)) in
    rw (p.1, p.2) (c.in_err-file.ensures.stops (λ file. next (schedule_form file)))

pub returns-in-Err-clause-follows : goal.returns-in-Err-clause-follows
returns-in-Err-clause-follows g c =
    let fault = c.in-Err.fault in
    let again = remade (asked_tree c.args.asked) (def_tree c.args.checked.now.def) (inputs_tree c.args.inputs.now) in
    let next = judged Inputs (codes "schedule ") (λ numbers. again numbers (found_tree c.args.found.now)) in
    reaches_fault _ _ _ (λ file. next (schedule_form file)) _ _ _ (fault ≢ FormFault.Memory) Inputs
    (fault_line (codes "schedule ") fault) _
    c.in_ok-file.ensures.gives (λ other. ap next (c.in-Err.ensures.fault other))
    c.say_fault.ensures.said c.say_fault.ensures.stopped

pub returns-in-Ok-clause-follows : goal.returns-in-Ok-clause-follows
returns-in-Ok-clause-follows g c =
    let again = remade (asked_tree c.args.asked) (def_tree c.args.checked.now.def) (inputs_tree c.args.inputs.now) in
    let next = judged Inputs (codes "schedule ") (λ numbers. again numbers (found_tree c.args.found.now)) in
    reaches_always _ _ _ (λ file. next (schedule_form file)) _ (again c.in-Ok.schedule (found_tree c.args.found.now)) _ _ _
    c.in_ok-file.ensures.gives (ap next c.in-Ok.ensures.form)
    c.remade.ensures.said c.remade.ensures.stopped
