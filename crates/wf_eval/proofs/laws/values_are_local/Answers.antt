use Rattle.wf_eval.proofs.Local.{template-local, tree-local, truth-local}
use Rattle.wf_eval.proofs.laws.values_are_local.Goals as goal

pub returns-clause-template : goal.returns-clause-template
returns-clause-template c = template-local c.expressions_are_local.ensures

pub returns-clause-tree : goal.returns-clause-tree
returns-clause-tree c = tree-local c.expressions_are_local.ensures

pub returns-clause-condition : goal.returns-clause-condition
returns-clause-condition c = truth-local c.expressions_are_local.ensures
