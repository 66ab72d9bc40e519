use Rattle.std.proofs.Common.{◌≡◌, drop}
use Rattle.wf_val.specs.Seen.{tree}
use Rattle.wf_first.specs.First.{first_broken}
use Rattle.wf_form.specs.Fault.{offences, rules_in_order}
use Rattle.wf_form.proofs.fault.first_fault.Given as goal

-- no rule so far is broken
abbrev pub invariant-loop-rule : goal.invariant-loop-rule
invariant-loop-rule l = first_broken (offences (tree l.definition)) (drop l.rule-index rules_in_order)
    ≡ first_broken (offences (tree l.definition)) rules_in_order
