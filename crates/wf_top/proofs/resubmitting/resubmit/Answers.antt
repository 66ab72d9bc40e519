use Rattle.std.proofs.Common.{ap}
use Rattle.std.specs.Prelude.{◌≢◌, codes}
use Rattle.std.proofs.lemmas.Result.{err_from_is_err_and}
use Rattle.wf_reading.specs.ReadSeen.{def_tree}
use Rattle.wf_files.specs.Fault.{fault_line}
use Rattle.wf_files.specs.Form.{history_form}
use Rattle.wf_files.specs.Seen.{found_tree}
use Rattle.wf_files.specs.declared.fault.FormFault.{FormFault}
use Rattle.wf_top.specs.Resubmit.{judged, remade_with}
use Rattle.wf_top.specs.Seen.{asked_tree}
use Rattle.wf_top.specs.declared.said.Verdict.TheVariants.{History}
use Rattle.wf_top.proofs.Following.{reaches_fault, reaches_read}
use Rattle.wf_top.proofs.resubmitting.resubmit.Goals as goal

pub returns-in_err-file-clause-follows : goal.returns-in_err-file-clause-follows
returns-in_err-file-clause-follows g c =
    let p = err_from_is_err_and c.from_residual.result c.from_residual.ensures.1 in
    let asked = asked_tree c.args.asked in
    let next = judged History (codes "history ") (remade_with asked (def_tree c.args.checked.now.def)) in
    rw (p.1, p.2) (c.in_err-file.ensures.stops (λ file. next (history_form asked.run file)))

pub returns-in-Err-clause-follows : goal.returns-in-Err-clause-follows
returns-in-Err-clause-follows g c =
    let fault = c.in-Err.fault in
    let asked = asked_tree c.args.asked in
    let next = judged History (codes "history ") (remade_with asked (def_tree c.args.checked.now.def)) in
    reaches_fault _ _ _ (λ file. next (history_form asked.run file)) _ _ _ (fault ≢ FormFault.Memory) History
    (fault_line (codes "history ") fault) _
    c.in_ok-file.ensures.gives (λ other. ap next (c.in-Err.ensures.fault other))
    c.say_fault.ensures.said c.say_fault.ensures.stopped

pub returns-in-Ok-clause-follows : goal.returns-in-Ok-clause-follows
returns-in-Ok-clause-follows g c =
    let asked = asked_tree c.args.asked in
    let d = def_tree c.args.checked.now.def in
    let next = judged History (codes "history ") (remade_with asked d) in
    reaches_read _ _ _ _ (λ file. next (history_form asked.run file)) _ (remade_with asked d (found_tree c.in-Ok.found)) _ _ _ _
    c.load.ensures.same c.in_ok-file.ensures.gives (ap next c.in-Ok.ensures.form)
    c.remade_with.ensures.follows
