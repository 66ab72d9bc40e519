use Rattle.std.proofs.Common.{◌≡◌, ◌++◌, string_bytes}
use Rattle.wf_template.specs.ExprSeen.{expr_tree}
use Rattle.wf_expr.specs.Printed.{printed}
use Rattle.wf_expr.specs.Unwritten.{unwritten_seen, text_left, work_left, HasWellFormedLiterals, AreWellFormed}
use Rattle.wf_expr.proofs.print.write.Given as goal

-- what is written and what is left are the whole text, and the literals that are not yet met decide
abbrev pub invariant-loop-part : goal.invariant-loop-part
invariant-loop-part l = record {
  text : string_bytes l.out ++ text_left (unwritten_seen l.rest) ≡ string_bytes l.fn.out ++ printed (expr_tree l.expression);
  formed : AreWellFormed (unwritten_seen l.rest) → HasWellFormedLiterals (expr_tree l.expression);
}

abbrev pub decreases-loop-part : goal.decreases-loop-part
decreases-loop-part l = work_left (unwritten_seen l.rest)
