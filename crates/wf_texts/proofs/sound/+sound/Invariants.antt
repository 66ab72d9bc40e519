use Rattle.std.proofs.Common.{◌≡◌, ◌*◌, ◌+◌, drop, map}
use Rattle.wf_template.specs.ExprCounts.{expr_count, exprs_count}
use Rattle.wf_template.specs.ExprSeen.{expr_tree}
use Rattle.wf_template.specs.ExprTree.{expr_trees}
use Rattle.wf_texts.specs.Sound.{are_sound}
use Rattle.wf_texts.proofs.sound.+sound.Given as goal

abbrev pub decreases-is_sound : goal.decreases-is_sound
decreases-is_sound l = 2 * expr_count (expr_tree l.expression.now)

abbrev pub decreases-are_sound : goal.decreases-are_sound
decreases-are_sound l = 2 * exprs_count (expr_trees (map expr_tree l.args.now)) + 1

abbrev pub invariant-are_sound-loop-arg : goal.invariant-are_sound-loop-arg
invariant-are_sound-loop-arg l =
    are_sound (expr_trees (map expr_tree (drop l.arg-index l.args)))
    ≡ are_sound (expr_trees (map expr_tree l.args))
