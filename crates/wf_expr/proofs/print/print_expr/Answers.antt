use Rattle.std.proofs.Common.{◌++◌, ◌∙◌, ap}
use Rattle.wf_template.specs.ExprSeen.{expr_tree}
use Rattle.wf_expr.specs.Printed.{printed}
use Rattle.wf_expr.proofs.Derivation.{derived, derives, spells}
use Rattle.wf_expr.proofs.Rederivation.{expr_printable}
use Rattle.wf_expr.proofs.print.print_expr.Goals as goal

pub returns-clause-reads : goal.returns-clause-reads
returns-clause-reads c p =
    let e = expr_tree c.args.expression.now in
    derived e c.from_string.result (c.from_string.ensures ∙ (c.in_ok-write.ensures.written ∙ ap (λ l. l ++ printed e) c.new-out.ensures.bytes)) c.in_ok-write.ensures.formed p

pub returns-clause-again : goal.returns-clause-again
returns-clause-again c s r x = returns-clause-reads c (expr_printable x)

pub returns-clause-derives : goal.returns-clause-derives
returns-clause-derives c p = derives (expr_tree c.args.expression.now) c.from_string.result (returns-clause-reads c p)

pub returns-clause-spells : goal.returns-clause-spells
returns-clause-spells c p = spells (expr_tree c.args.expression.now) c.from_string.result (returns-clause-reads c p)
