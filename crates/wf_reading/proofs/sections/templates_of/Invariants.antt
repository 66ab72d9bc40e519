use Rattle.std.proofs.Common.{◌≡◌, ◌++◌, drop, map}
use Rattle.wf_val.specs.Seen.{tree}
use Rattle.wf_template.specs.TemplateSeen.{template_tree}
use Rattle.wf_reading.specs.Sections.{condition_template}
use Rattle.wf_reading.proofs.sections.templates_of.Given as goal

abbrev pub invariant-loop-value : goal.invariant-loop-value
invariant-loop-value l = map template_tree l.found ++ map condition_template (map tree (drop l.value-index l.values)) ≡ map condition_template (map tree l.values)
