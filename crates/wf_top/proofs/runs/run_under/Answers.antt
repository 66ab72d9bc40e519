use Rattle.std.proofs.Common.{ap}
use Rattle.std.specs.Prelude.{◌≢◌, codes}
use Rattle.std.proofs.lemmas.Result.{err_from_is_err_and}
use Rattle.wf_answers.specs.InputsSeen.{inputs_tree}
use Rattle.wf_reading.specs.ReadSeen.{def_tree}
use Rattle.wf_top.specs.Commands.{judged_schedule}
use Rattle.wf_files.specs.Fault.{fault_line}
use Rattle.wf_files.specs.Form.{schedule_form}
use Rattle.wf_files.specs.declared.fault.FormFault.{FormFault}
use Rattle.wf_top.specs.declared.said.Verdict.TheVariants.{Inputs}
use Rattle.wf_top.specs.Plan.{Makes}
use Rattle.wf_top.proofs.Following.{reaches_fault, reaches_told}
use Rattle.wf_top.proofs.runs.run_under.Goals as goal

pub returns-in_err-file-clause-follows : goal.returns-in_err-file-clause-follows
returns-in_err-file-clause-follows g c =
    let p = err_from_is_err_and c.from_residual.result c.from_residual.ensures.1 in
    let judged = judged_schedule c.args.traced (def_tree c.args.checked.now.def) (inputs_tree c.args.inputs.now) in
    rw (p.1, p.2) (c.in_err-file.ensures.stops (λ file. judged (schedule_form file)))

pub returns-in-Err-clause-follows : goal.returns-in-Err-clause-follows
returns-in-Err-clause-follows g c =
    let fault = c.in-Err.fault in
    let judged = judged_schedule c.args.traced (def_tree c.args.checked.now.def) (inputs_tree c.args.inputs.now) in
    reaches_fault _ _ _ (λ file. judged (schedule_form file)) _ _ _ (fault ≢ FormFault.Memory) Inputs
    (fault_line (codes "schedule ") fault) _
    c.in_ok-file.ensures.gives (λ other. ap judged (c.in-Err.ensures.fault other))
    c.say_fault.ensures.said c.say_fault.ensures.stopped

pub returns-in-Ok-clause-follows : goal.returns-in-Ok-clause-follows
returns-in-Ok-clause-follows g c =
    let d = def_tree c.args.checked.now.def in
    let inputs = inputs_tree c.args.inputs.now in
    let judged = judged_schedule c.args.traced d inputs in
    reaches_told _ _ _ (λ file. judged (schedule_form file)) _ (Makes c.args.traced d inputs c.in-Ok.schedule) _ _ _
    c.in_ok-file.ensures.gives (ap judged c.in-Ok.ensures.form)
    c.say_runs.ensures.said c.say_runs.ensures.stopped
