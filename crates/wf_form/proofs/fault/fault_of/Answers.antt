use Rattle.std.proofs.Common.{◌≡◌, ℕ, List, Some, None, option_map, ap, sym, ◌∙◌}
use Rattle.wf_val.specs.Seen.{tree}
use Rattle.wf_form.specs.Fault.{first_fault, inner_of, rule_number}
use Rattle.wf_form.specs.declared.rule.Rule.{Rule}
use Rattle.wf_form.proofs.fault.fault_of.Goals as goal

numbered : Rule × List ℕ → ℕ × List ℕ
numbered f = (rule_number f.0, f.1)

pub returns-in-Some : goal.returns-in-Some
unfolding numbered
returns-in-Some c =
    let found : first_fault (inner_of (tree c.args.file.now)) ≡ Some (c.in-Some.rule, c.in-Some.pointer) =
    ap first_fault (sym c.inner.ensures) ∙ sym c.in_ok-rule.ensures ∙ c.in-Some.is in
    ap (λ (n : ℕ). Some (n, c.in-Some.pointer)) c.number.ensures ∙ sym (ap (option_map numbered) found)

pub returns-in-None : goal.returns-in-None
unfolding numbered
returns-in-None c =
    let found : first_fault (inner_of (tree c.args.file.now)) ≡ None =
    ap first_fault (sym c.inner.ensures) ∙ sym c.in_ok-rule.ensures ∙ c.in-None.is in
    sym (ap (option_map numbered) found)
