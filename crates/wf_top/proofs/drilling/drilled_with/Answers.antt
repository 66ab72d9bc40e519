use Rattle.std.proofs.Common.{◌≡◌, Ok, Err, ap, subst, sym}
use Rattle.std.specs.Prelude.{◌≢◌, codes}
use Rattle.std.specs.Result.{IfOk}
use Rattle.wf_answers.specs.InputsSeen.{inputs_tree}
use Rattle.wf_drill.specs.Drill.{drill_inputs}
use Rattle.wf_files.specs.Fault.{fault_line}
use Rattle.wf_files.specs.Form.{inputs_of}
use Rattle.wf_files.specs.declared.fault.FormFault.{FormFault}
use Rattle.wf_outside.specs.Outside.{Held}
use Rattle.wf_reading.specs.ReadSeen.{def_tree}
use Rattle.wf_top.specs.Drill.{drilled_with}
use Rattle.wf_top.specs.Drilling.{MayTellDrill}
use Rattle.wf_top.specs.Plan.{MaySay}
use Rattle.wf_top.specs.declared.said.Verdict.TheVariants.{Inputs}
use Rattle.wf_top.proofs.Following.{said_always, said_fault}
use Rattle.wf_top.proofs.drilling.drilled_with.Goals as goal

pub say_drill-requires-clause-read : goal.say_drill-requires-clause-read
say_drill-requires-clause-read g c =
    subst (λ value. inputs_of value ≡ Ok (inputs_tree c.in-Ok.inputs)) c.requires.drill.inputs_are c.in-Ok.ensures.form

pub returns-in-Ok-clause-said : goal.returns-in-Ok-clause-said
returns-in-Ok-clause-said g c =
    let n = c.args.size in
    let d = def_tree c.args.checked.now.def in
    let i = inputs_tree c.in-Ok.inputs in
    let read : inputs_of (drill_inputs n) ≡ Ok i =
    subst (λ value. inputs_of value ≡ Ok i) c.requires.drill.inputs_are c.in-Ok.ensures.form in
    subst (λ form. IfOk c.say_drill.result (λ said. (held : Held) → MaySay held (drilled_with n d form) said.verdict said.text.items))
    (sym read) (said_always (MayTellDrill n d i) c.say_drill.result c.say_drill.ensures.said)

pub returns-in-Err-clause-said : goal.returns-in-Err-clause-said
returns-in-Err-clause-said g c =
    let n = c.args.size in
    let d = def_tree c.args.checked.now.def in
    let fault = c.in-Err.fault in
    said_fault (fault ≢ FormFault.Memory) (drilled_with n d (inputs_of (drill_inputs n))) Inputs (fault_line (codes "inputs ") fault)
    c.say_fault.result
    (λ other. ap (drilled_with n d)
    (subst (λ value. inputs_of value ≡ Err fault) c.requires.drill.inputs_are (c.in-Err.ensures.fault other)))
    c.say_fault.ensures.said
