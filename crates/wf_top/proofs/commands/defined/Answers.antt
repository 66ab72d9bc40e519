use Rattle.std.proofs.Common.{Ok, ap}
use Rattle.std.specs.Prelude.{◌≢◌, codes}
use Rattle.std.proofs.lemmas.Result.{err_from_is_err_and}
use Rattle.wf_reading.specs.ReadSeen.{def_tree}
use Rattle.wf_top.specs.Commands.{judged_definition}
use Rattle.wf_files.specs.Fault.{fault_line}
use Rattle.wf_files.specs.Form.{definition_form}
use Rattle.wf_files.specs.declared.fault.FormFault.{FormFault}
use Rattle.wf_top.specs.declared.said.Verdict.TheVariants.{Definition}
use Rattle.wf_top.proofs.Following.{reaches_fault, reaches_read}
use Rattle.wf_top.proofs.commands.defined.Goals as goal

pub returns-in_err-file-clause-follows : goal.returns-in_err-file-clause-follows
returns-in_err-file-clause-follows g c =
    let p = err_from_is_err_and c.from_residual.result c.from_residual.ensures.1 in
    rw (p.1, p.2) (c.in_err-file.ensures.stops
    (λ file. judged_definition c.args.command c.args.words.now (definition_form file)))

pub returns-in-Ok-clause-follows : goal.returns-in-Ok-clause-follows
returns-in-Ok-clause-follows g c =
    let judged = judged_definition c.args.command c.args.words.now in
    reaches_read _ _ _ _ (λ file. judged (definition_form file)) _
    (judged (Ok (def_tree c.in-Ok.checked.def))) _ _ _ _
    c.load.ensures.same c.in_ok-file.ensures.gives (ap judged c.in-Ok.ensures.form)
    c.accepted.ensures.follows

pub returns-in-Err-clause-follows : goal.returns-in-Err-clause-follows
returns-in-Err-clause-follows g c =
    let fault = c.in-Err.fault in
    let judged = judged_definition c.args.command c.args.words.now in
    reaches_fault _ _ _ (λ file. judged (definition_form file)) _ _ _ (fault ≢ FormFault.Memory)
    Definition (fault_line (codes "definition ") fault) _
    c.in_ok-file.ensures.gives (λ other. ap judged (c.in-Err.ensures.fault other))
    c.say_fault.ensures.said c.say_fault.ensures.stopped
