use Rattle.wf_first.proofs.FirstLemmas.{some_broken, none_broken}
use Rattle.wf_rules.specs.Broken.{offences, rules_in_order}
use Rattle.wf_rules.proofs.laws.the_first_broken_rule.Goals as goal

pub returns-clause-some : goal.returns-clause-some
returns-clause-some c = λ d rule pointer is. some_broken (offences d) rules_in_order rule pointer is

pub returns-clause-none : goal.returns-clause-none
returns-clause-none c = λ d is. none_broken (offences d) rules_in_order is
