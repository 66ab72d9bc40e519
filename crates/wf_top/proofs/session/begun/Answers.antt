use Rattle.std.proofs.Common.{ap}
use Rattle.std.specs.Prelude.{◌≢◌}
use Rattle.wf_answers.specs.InputsSeen.{inputs_tree}
use Rattle.wf_reading.specs.ReadSeen.{def_tree}
use Rattle.wf_top.specs.Session.{started}
use Rattle.wf_top.specs.Trigger.{trigger_line}
use Rattle.wf_top.specs.declared.said.Verdict.TheVariants.{Inputs}
use Rattle.wf_trigger.specs.declared.fault.TriggerFault.{TriggerFault}
use Rattle.wf_top.proofs.Opening.{opens_fault}
use Rattle.wf_top.proofs.session.begun.Goals as goal

pub returns-in-Err-clause-opened : goal.returns-in-Err-clause-opened
returns-in-Err-clause-opened c =
    let fault = c.in-Err.fault in
    let next = started (def_tree c.args.checked.def) (inputs_tree c.args.inputs) in
    opens_fault (fault ≢ TriggerFault.Memory) _ Inputs (trigger_line fault) _
    (λ other. ap next (c.in-Err.ensures.fault other)) c.say_no_start.ensures.opened
