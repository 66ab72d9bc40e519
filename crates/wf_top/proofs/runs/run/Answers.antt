use Rattle.std.proofs.Common.{ap}
use Rattle.std.specs.Prelude.{◌≢◌, codes, option_copied}
use Rattle.std.proofs.lemmas.Result.{err_from_is_err_and}
use Rattle.wf_answers.specs.InputsSeen.{inputs_tree}
use Rattle.wf_reading.specs.ReadSeen.{def_tree}
use Rattle.wf_top.specs.Commands.{judged_inputs, scheduled}
use Rattle.wf_files.specs.Fault.{fault_line}
use Rattle.wf_files.specs.Form.{inputs_form}
use Rattle.wf_files.specs.declared.fault.FormFault.{FormFault}
use Rattle.wf_top.specs.declared.said.Verdict.TheVariants.{Inputs}
use Rattle.wf_top.proofs.Following.{reaches_fault, reaches_read}
use Rattle.wf_top.proofs.runs.run.Goals as goal

pub returns-in_err-file-clause-follows : goal.returns-in_err-file-clause-follows
returns-in_err-file-clause-follows g c =
    let p = err_from_is_err_and c.from_residual.result c.from_residual.ensures.1 in
    let judged = judged_inputs c.args.traced (option_copied c.args.schedule) (def_tree c.args.checked.now.def) in
    rw (p.1, p.2) (c.in_err-file.ensures.stops (λ file. judged (inputs_form file)))

pub returns-in-Err-clause-follows : goal.returns-in-Err-clause-follows
returns-in-Err-clause-follows g c =
    let fault = c.in-Err.fault in
    let judged = judged_inputs c.args.traced (option_copied c.args.schedule) (def_tree c.args.checked.now.def) in
    reaches_fault _ _ _ (λ file. judged (inputs_form file)) _ _ _ (fault ≢ FormFault.Memory) Inputs (fault_line (codes "inputs ") fault) _
    c.in_ok-file.ensures.gives (λ other. ap judged (c.in-Err.ensures.fault other))
    c.say_fault.ensures.said c.say_fault.ensures.stopped

pub returns-in-Ok-clause-follows : goal.returns-in-Ok-clause-follows
returns-in-Ok-clause-follows g c =
    let d = def_tree c.args.checked.now.def in
    let named = option_copied c.args.schedule in
    let judged = judged_inputs c.args.traced named d in
    reaches_read _ _ _ _ (λ file. judged (inputs_form file)) _
    (scheduled c.args.traced named d (inputs_tree c.in-Ok.inputs)) _ _ _ _
    c.load.ensures.same c.in_ok-file.ensures.gives (ap judged c.in-Ok.ensures.form)
    c.scheduled.ensures.follows
