use Rattle.std.proofs.Common.{◌≡◌, ◌++◌, map, drop}
use Rattle.wf_template.specs.TemplateSeen.{template_tree}
use Rattle.wf_uses.specs.Seen.{found_uses}
use Rattle.wf_refs.specs.Sites.{templates_uses}
use Rattle.wf_refs.proofs.templates.in_templates.Given as goal

-- what is found so far, and what is left
abbrev pub invariant-loop-template : goal.invariant-loop-template
invariant-loop-template l =
    found_uses l.all.items ++ templates_uses (map template_tree (drop l.template-index l.templates))
    ≡ found_uses l.fn.found.items ++ templates_uses (map template_tree l.templates)
