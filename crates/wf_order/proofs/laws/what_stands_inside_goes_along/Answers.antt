use Rattle.wf_order.proofs.OrderLaws.{inner_after, inner_before, inner_contains, inner_exclusive}
use Rattle.wf_order.proofs.laws.what_stands_inside_goes_along.Goals as goal

pub returns-clause-contains : goal.returns-clause-contains
returns-clause-contains c = λ g once x y z one other. inner_contains g once x y z one other

pub returns-clause-before : goal.returns-clause-before
returns-clause-before c = λ g once x y z b inside. inner_before g once x y z b inside

pub returns-clause-after : goal.returns-clause-after
returns-clause-after c = λ g once x y z b inside. inner_after g once x y z b inside

pub returns-clause-exclusive : goal.returns-clause-exclusive
returns-clause-exclusive c = λ g once x y z e inside. inner_exclusive g once x y z e inside
