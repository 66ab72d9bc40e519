use Rattle.std.proofs.Common.{◌≡◌, drop, map}
use Rattle.wf_template.specs.TemplateSeen.{template_tree}
use Rattle.wf_trigger.specs.LookSeen.{value_seen}
use Rattle.wf_trigger.specs.Splitting.{all_hold}
use Rattle.wf_trigger.proofs.splitting.all_hold.Given as goal

-- all so far hold
abbrev pub invariant-loop-condition : goal.invariant-loop-condition
invariant-loop-condition l =
    all_hold (value_seen l.look) (map template_tree (drop l.condition-index l.conditions))
    ≡ all_hold (value_seen l.look) (map template_tree l.conditions)
