-- What a template comes to in the look of a trigger.
use Rattle.wf_template.specs.TemplateTree.{TemplateTree}
use Rattle.wf_trigger.specs.TriggerLook.{value_told}
use Rattle.wf_trigger.specs.declared.look.TriggerLook.{TriggerLook}
use Rattle.wf_val.specs.Arguments.{Answer}
use Rattle.wf_val.specs.Seen.{tree}

abbrev pub value_seen : TriggerLook → TemplateTree → Answer
value_seen look = value_told (tree look.trigger.now) look.parameters.now look.moment look.run.now look.seed.now
