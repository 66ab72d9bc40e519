use Rattle.std.proofs.Common.{◌≡◌, ◌++◌, ◌+◌, ◌*◌, map, drop}
use Rattle.wf_template.specs.CondTree.{cond_trees}
use Rattle.wf_template.specs.CondSeen.{cond_tree}
use Rattle.wf_eval.specs.Truth.{cond_count, conds_count}
use Rattle.wf_eval.specs.Uses.{conds_uses}
use Rattle.wf_uses.specs.Seen.{found_uses}
use Rattle.wf_refs.proofs.templates.+conditions.Given as goal

-- what is found so far, and what is left
abbrev pub invariant-in_conditions-loop-condition : goal.invariant-in_conditions-loop-condition
invariant-in_conditions-loop-condition l =
    found_uses l.all.items ++ conds_uses (cond_trees (map cond_tree (drop l.condition-index l.conditions)))
    ≡ found_uses l.fn.found.items ++ conds_uses (cond_trees (map cond_tree l.conditions))

abbrev pub decreases-in_condition : goal.decreases-in_condition
decreases-in_condition l = 2 * cond_count (cond_tree l.condition.now)

abbrev pub decreases-in_conditions : goal.decreases-in_conditions
decreases-in_conditions l = 2 * conds_count (cond_trees (map cond_tree l.conditions.now)) + 1
