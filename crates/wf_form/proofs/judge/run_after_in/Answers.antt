use Rattle.std.proofs.Common.{◌≡◌, ℕ, List, IfOk, option_map, string_bytes, subst, sym, ap, ◌∙◌}
use Rattle.wf_after.specs.Waits.{bad_run_after}
use Rattle.wf_after.specs.Pointer.{least}
use Rattle.wf_val.proofs.ValueTreeLemmas.{pairs-members}
use Rattle.wf_val.specs.Seen.{tree}
use Rattle.wf_form.specs.Judge.{run_after_in}
use Rattle.wf_form.proofs.judge.run_after_in.Goals as goal

pub returns-in-Obj : goal.returns-in-Obj
returns-in-Obj c =
    subst (λ (ps : List (List ℕ)). IfOk c.bad_run_after.result (λ p. option_map string_bytes p ≡ least ps))
    (sym (ap (λ v. run_after_in (tree v)) c.in-Obj.is ∙ ap bad_run_after (pairs-members c.in-Obj.actions))) c.bad_run_after.ensures
