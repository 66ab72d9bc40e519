use Rattle.std.proofs.Common.{◌≡◌, Ok, Err, ap, subst, sym}
use Rattle.std.specs.Prelude.{◌≢◌, codes}
use Rattle.std.specs.Result.{IfOk}
use Rattle.wf_drill.specs.Drill.{drill_definition}
use Rattle.wf_files.specs.Fault.{fault_line}
use Rattle.wf_files.specs.Form.{definition_of}
use Rattle.wf_files.specs.declared.fault.FormFault.{FormFault}
use Rattle.wf_outside.specs.Outside.{Held}
use Rattle.wf_reading.specs.ReadSeen.{def_tree}
use Rattle.wf_top.specs.Drill.{drilled, drilled_by}
use Rattle.wf_top.specs.Plan.{MaySay}
use Rattle.wf_top.specs.declared.said.Verdict.TheVariants.{Definition}
use Rattle.wf_top.proofs.Following.{said_fault}
use Rattle.wf_top.proofs.drilling.drilled_by.Goals as goal

pub drilled_with-requires-clause-accepted : goal.drilled_with-requires-clause-accepted
drilled_with-requires-clause-accepted g c =
    subst (λ value. definition_of value ≡ Ok (def_tree c.in-Ok.checked.def)) c.requires.definition_is c.in-Ok.ensures.form

pub returns-in-Ok-clause-said : goal.returns-in-Ok-clause-said
returns-in-Ok-clause-said g c =
    let n = c.args.size in
    let accepted : definition_of (drill_definition n) ≡ Ok (def_tree c.in-Ok.checked.def) =
    subst (λ value. definition_of value ≡ Ok (def_tree c.in-Ok.checked.def)) c.requires.definition_is c.in-Ok.ensures.form in
    subst (λ form. IfOk c.drilled_with.result (λ said. (held : Held) → MaySay held (drilled_by n form) said.verdict said.text.items))
    (sym accepted) c.drilled_with.ensures.said

pub returns-in-Err-clause-said : goal.returns-in-Err-clause-said
returns-in-Err-clause-said g c =
    let n = c.args.size in
    let fault = c.in-Err.fault in
    said_fault (fault ≢ FormFault.Memory) (drilled n) Definition (fault_line (codes "definition ") fault) c.say_fault.result
    (λ other. ap (drilled_by n) (subst (λ value. definition_of value ≡ Err fault) c.requires.definition_is (c.in-Err.ensures.fault other)))
    c.say_fault.ensures.said
