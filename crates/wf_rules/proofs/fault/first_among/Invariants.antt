use Rattle.std.proofs.Common.{◌≡◌, drop}
use Rattle.wf_varorder.specs.ReadSeen.{def_tree}
use Rattle.wf_first.specs.First.{first_broken}
use Rattle.wf_rules.specs.Broken.{offences, rules_in_order}
use Rattle.wf_rules.proofs.fault.first_among.Given as goal

-- no rule so far is broken
abbrev pub invariant-loop-rule : goal.invariant-loop-rule
invariant-loop-rule l = first_broken (offences (def_tree l.def)) (drop l.rule-index rules_in_order)
    ≡ first_broken (offences (def_tree l.def)) rules_in_order
