use Rattle.wf_eval.proofs.Fitting.{template-fits, tree-fits}
use Rattle.wf_eval.proofs.laws.what_is_given_fits.Goals as goal

pub returns-clause-template : goal.returns-clause-template
returns-clause-template c = template-fits c.what_an_expression_gives_fits.ensures

pub returns-clause-tree : goal.returns-clause-tree
returns-clause-tree c = tree-fits c.what_an_expression_gives_fits.ensures
