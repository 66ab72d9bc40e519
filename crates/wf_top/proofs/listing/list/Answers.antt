use Rattle.std.proofs.Common.{Ok, ap, map}
use Rattle.std.specs.Prelude.{◌≢◌, codes}
use Rattle.std.proofs.lemmas.Result.{err_from_is_err_and}
use Rattle.wf_history.specs.Seen.{listed_tree}
use Rattle.wf_top.specs.Commands.{judged_history}
use Rattle.wf_files.specs.Fault.{fault_line}
use Rattle.wf_files.specs.Form.{listing_form}
use Rattle.wf_files.specs.declared.fault.FormFault.{FormFault}
use Rattle.wf_top.specs.declared.said.Verdict.TheVariants.{History}
use Rattle.wf_top.proofs.Following.{reaches_fault, reaches_said}
use Rattle.wf_top.proofs.listing.list.Goals as goal

pub returns-in_err-file-clause-follows : goal.returns-in_err-file-clause-follows
returns-in_err-file-clause-follows g c =
    let p = err_from_is_err_and c.from_residual.result c.from_residual.ensures.1 in
    rw (p.1, p.2) (c.in_err-file.ensures.stops (λ file. judged_history (listing_form file)))

pub returns-in-Err-clause-follows : goal.returns-in-Err-clause-follows
returns-in-Err-clause-follows g c =
    let fault = c.in-Err.fault in
    reaches_fault _ _ _ (λ file. judged_history (listing_form file)) _ _ _ (fault ≢ FormFault.Memory) History
    (fault_line (codes "history ") fault) _
    c.in_ok-file.ensures.gives (λ other. ap judged_history (c.in-Err.ensures.fault other))
    c.say_fault.ensures.said c.say_fault.ensures.stopped

pub returns-in-Ok-clause-follows : goal.returns-in-Ok-clause-follows
returns-in-Ok-clause-follows g c =
    reaches_said _ _ _ (λ file. judged_history (listing_form file)) _
    (judged_history (Ok (map listed_tree c.in-Ok.listing))) _ _ _
    c.in_ok-file.ensures.gives (ap judged_history c.in-Ok.ensures.form)
    c.say_listing.ensures.said c.say_listing.ensures.stopped
