use Rattle.std.proofs.Common.{ap}
use Rattle.std.specs.Prelude.{◌≢◌, codes}
use Rattle.std.proofs.lemmas.Result.{err_from_is_err_and}
use Rattle.wf_answers.specs.InputsSeen.{inputs_tree}
use Rattle.wf_reading.specs.ReadSeen.{def_tree}
use Rattle.wf_files.specs.Fault.{fault_line}
use Rattle.wf_files.specs.Form.{inputs_form}
use Rattle.wf_files.specs.Seen.{found_tree}
use Rattle.wf_files.specs.declared.fault.FormFault.{FormFault}
use Rattle.wf_top.specs.Resubmit.{judged, remade_under}
use Rattle.wf_top.specs.Seen.{asked_tree}
use Rattle.wf_top.specs.declared.said.Verdict.TheVariants.{Inputs}
use Rattle.wf_top.proofs.Following.{reaches_fault, reaches_read}
use Rattle.wf_top.proofs.resubmitting.remade_with.Goals as goal

pub returns-in_err-file-clause-follows : goal.returns-in_err-file-clause-follows
returns-in_err-file-clause-follows g c =
    let p = err_from_is_err_and c.from_residual.result c.from_residual.ensures.1 in
    let asked = asked_tree c.args.asked in
    let again = remade_under asked (def_tree c.args.checked.now.def) asked.schedule (found_tree c.args.found.now) in
    rw (p.1, p.2) (c.in_err-file.ensures.stops (λ file. judged Inputs (codes "inputs ") again (inputs_form file)))

pub returns-in-Err-clause-follows : goal.returns-in-Err-clause-follows
returns-in-Err-clause-follows g c =
    let fault = c.in-Err.fault in
    let asked = asked_tree c.args.asked in
    let again = remade_under asked (def_tree c.args.checked.now.def) asked.schedule (found_tree c.args.found.now) in
    let next = judged Inputs (codes "inputs ") again in
    reaches_fault _ _ _ (λ file. next (inputs_form file)) _ _ _ (fault ≢ FormFault.Memory) Inputs (fault_line (codes "inputs ") fault) _
    c.in_ok-file.ensures.gives (λ other. ap next (c.in-Err.ensures.fault other))
    c.say_fault.ensures.said c.say_fault.ensures.stopped

pub returns-in-Ok-clause-follows : goal.returns-in-Ok-clause-follows
returns-in-Ok-clause-follows g c =
    let asked = asked_tree c.args.asked in
    let again = remade_under asked (def_tree c.args.checked.now.def) asked.schedule (found_tree c.args.found.now) in
    let next = judged Inputs (codes "inputs ") again in
    reaches_read _ _ _ _ (λ file. next (inputs_form file)) _ (again (inputs_tree c.in-Ok.inputs)) _ _ _ _
    c.load.ensures.same c.in_ok-file.ensures.gives (ap next c.in-Ok.ensures.form)
    c.remade_under.ensures.follows
