use Rattle.wf_order.proofs.OrderLaws.{never_itself, transitive}
use Rattle.wf_order.proofs.laws.before_is_an_order.Goals as goal

pub returns-clause-never_itself : goal.returns-clause-never_itself
returns-clause-never_itself c = λ g depth once closed depths x b. never_itself g depth once closed depths x b

pub returns-clause-transitive : goal.returns-clause-transitive
returns-clause-transitive c = λ g once closed x y z b s. transitive g once closed x y z b s
