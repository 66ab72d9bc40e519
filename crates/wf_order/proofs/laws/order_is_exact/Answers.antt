use Rattle.wf_order.proofs.RelationLemmas.{before_is, contains_is, exclusive_is, redo_is}
use Rattle.wf_order.proofs.laws.order_is_exact.Goals as goal

pub returns-clause-before : goal.returns-clause-before
returns-clause-before c = λ n g below closed x y has_x has_y. before_is n g below closed x y has_x has_y

pub returns-clause-contains : goal.returns-clause-contains
returns-clause-contains c = λ n g below x y has_y. contains_is n g below x y has_y

pub returns-clause-exclusive : goal.returns-clause-exclusive
returns-clause-exclusive c = λ n g below x y has_x has_y. exclusive_is n g below x y has_x has_y

pub returns-clause-redo : goal.returns-clause-redo
returns-clause-redo c = λ n g below closed x y has_x has_y. redo_is n g below closed x y has_x has_y
