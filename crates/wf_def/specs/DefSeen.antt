-- What the members of the sections stand for.
use Rattle.std.specs.Prelude.{List, map, option_map}
use Rattle.wf_val.specs.Seen.{tree}
use Rattle.wf_template.specs.TemplateSeen.{template_tree}
use Rattle.wf_template.specs.DataSeen.{data_tree}
use Rattle.wf_def.specs.DefTree.{ParamTree, TriggerTree, OutputTree}
use Rattle.wf_def.specs.declared.section.Param.{Param}
use Rattle.wf_def.specs.declared.section.Trigger.{Trigger}
use Rattle.wf_def.specs.declared.section.Output.{Output}

abbrev pub param_tree : Param → ParamTree
param_tree p = record { name = p.name; sort = p.sort; default = option_map tree p.default; allowed = p.allowed }

abbrev pub trigger_tree : Trigger → TriggerTree
trigger_tree t = record { name = t.name; split = option_map template_tree t.split; conditions = map template_tree t.conditions }

abbrev pub output_tree : Output → OutputTree
output_tree o = record { name = o.name; value = data_tree o.value }
