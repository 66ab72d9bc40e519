use Rattle.std.proofs.Common.{◌≡◌, ◌∙◌, Bor, ap, sym}
use Rattle.std.specs.Prelude.{◌≢◌, codes, option_map}
use Rattle.std.proofs.lemmas.Result.{err_from_is_err_and}
use Rattle.wf_val.specs.Seen.{tree}
use Rattle.wf_val.specs.declared.val.Val.{Val}
use Rattle.wf_top.specs.Commands.{judged_value, triggered}
use Rattle.wf_files.specs.Fault.{fault_line}
use Rattle.wf_top.specs.Fires.{trigger_in}
use Rattle.wf_files.specs.Form.{value_form}
use Rattle.wf_files.specs.declared.fault.FormFault.{FormFault}
use Rattle.wf_top.specs.declared.said.Verdict.TheVariants.{Definition}
use Rattle.wf_top.proofs.Following.{reaches_fault, reaches_said}
use Rattle.wf_top.proofs.recurring.fired.Goals as goal

pub returns-in_err-file-clause-follows : goal.returns-in_err-file-clause-follows
returns-in_err-file-clause-follows g c =
    let p = err_from_is_err_and c.from_residual.result c.from_residual.ensures.1 in
    let judged = judged_value c.args.name.now c.args.from c.args.count in
    rw (p.1, p.2) (c.in_err-file.ensures.stops (λ file. judged (value_form file)))

pub returns-in-Err-clause-follows : goal.returns-in-Err-clause-follows
returns-in-Err-clause-follows g c =
    let fault = c.in-Err.fault in
    let judged = judged_value c.args.name.now c.args.from c.args.count in
    reaches_fault _ _ _ (λ file. judged (value_form file)) _ _ _ (fault ≢ FormFault.Memory) Definition
    (fault_line (codes "definition ") fault) _
    c.in_ok-file.ensures.gives (λ other. ap judged (c.in-Err.ensures.fault other))
    c.say_fault.ensures.said c.say_fault.ensures.stopped

pub returns-in-Ok-clause-follows : goal.returns-in-Ok-clause-follows
returns-in-Ok-clause-follows g c =
    let there : option_map (λ (v : Bor Val). tree v.now) c.trigger_in.result ≡ trigger_in c.args.name.now (tree c.in-Ok.file) =
    cc (c.trigger_in.ensures, c.as_str.ensures) in
    let judged = judged_value c.args.name.now c.args.from c.args.count in
    reaches_said _ _ _ (λ file. judged (value_form file)) _
    (triggered c.args.from c.args.count (option_map (λ (v : Bor Val). tree v.now) c.trigger_in.result)) _ _ _
    c.in_ok-file.ensures.gives (ap judged c.in-Ok.ensures.form ∙ ap (triggered c.args.from c.args.count) (sym there))
    c.triggered.ensures.said c.triggered.ensures.stopped
