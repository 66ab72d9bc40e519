use Rattle.wf_expr.proofs.TextLemmas.{template_in-spells}
use Rattle.wf_expr.proofs.law.the_template_of_a_text.Goals as goal

pub returns : goal.returns
returns c = template_in-spells
