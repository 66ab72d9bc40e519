use Rattle.std.proofs.Common.{◌≡◌, ◌+◌, ℕ, List, Option, Some, None, drop, get_or, option_map, string_bytes, ap, sym, ◌∙◌, arith}
use Rattle.wf_val.specs.ValueTree.{ValueTree}
use Rattle.wf_val.specs.Seen.{tree}
use Rattle.wf_after.specs.Pointer.{least}
use Rattle.wf_first.specs.First.{or_later, first_broken}
use Rattle.wf_first.proofs.FirstLemmas.{first_step}
use Rattle.wf_form.specs.Fault.{offences, rules_in_order}
use Rattle.wf_form.specs.declared.rule.Rule.{Rule}
use Rattle.wf_form.proofs.fault.first_fault.Goals as goal

pub returns-in-Some : goal.returns-in-Some
returns-in-Some c =
    let t : ValueTree = tree c.args.definition.now in
    let i = c.loop-rule.rule-index in
    let r : Rule = get_or rules_in_order i Rule.Form in
    let there : least (offences t r) ≡ Some c.from_string.result = sym c.in_ok-pointer.ensures
    ∙ ap (option_map string_bytes) c.in-Some.is ∙ ap Some (sym c.from_string.ensures) in
    sym (ap (λ (o : Option (List ℕ)). or_later r o (first_broken (offences t) (drop (i + 1) rules_in_order))) there)
    ∙ sym (first_step (offences t) rules_in_order i Rule.Form (omega arith)) ∙ c.loop-rule.invariant

pub loop-rule-preserved : goal.loop-rule-preserved
loop-rule-preserved c =
    let t : ValueTree = tree c.args.definition.now in
    let i = c.loop-rule.rule-index in
    let r : Rule = get_or rules_in_order i Rule.Form in
    let none : least (offences t r) ≡ None = sym c.in_ok-pointer.ensures ∙ ap (option_map string_bytes) c.in_default.is in
    sym (ap (λ (o : Option (List ℕ)). or_later r o (first_broken (offences t) (drop (i + 1) rules_in_order))) none)
    ∙ sym (first_step (offences t) rules_in_order i Rule.Form (omega arith)) ∙ c.loop-rule.invariant
