-- Accesses as the evaluator goes through them.
use Rattle.std.specs.Prelude.{List, [], ◌∷◌}
use Rattle.wf_template.specs.ExprSeen.{expr_tree}
use Rattle.wf_template.specs.declared.chain.Access.{Access}
use Rattle.wf_look.specs.Accesses.{member_row, index_row}
use Rattle.wf_look.specs.Outcomes.{Outcome, then_run, turned}
use Rattle.wf_look.specs.Told.{Told}
use Rattle.wf_eval_expr.specs.Value.{value}

-- what an access makes of the outcome of what it stands on
abbrev pub accessed_run : Told → Access → Outcome → Outcome
accessed_run l (Access.Member name soft) o = turned (member_row name.now soft) o
accessed_run l (Access.Index key soft) o = then_run o (λ t m. turned (index_row soft t) (value l (expr_tree key.now) m))

-- what a row of accesses makes of it; the last is the innermost
abbrev pub chained : Told → List Access → Outcome → Outcome
chained l [] o = o
chained l (a ∷ rest) o = accessed_run l a (chained l rest o)
