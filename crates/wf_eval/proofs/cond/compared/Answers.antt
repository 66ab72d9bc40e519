use Rattle.std.proofs.Common.{[], ◌∷◌, ◌++◌, ap, ◌∙◌, subst}
use Rattle.wf_val.specs.Arguments.{Gives, given}
use Rattle.wf_val.specs.Seen.{tree}
use Rattle.wf_eval_expr.specs.Meets.{truth_seen}
use Rattle.wf_eval_expr.specs.Rows.{strict_row}
use Rattle.wf_eval.specs.Truth.{truth}
use Rattle.wf_eval.proofs.cond.compared.Goals as goal

-- the two values are the arguments
pub returns : goal.returns
returns c =
    subst (λ xs. Gives (truth_seen c.judged.result) (given (strict_row c.args.function xs) truth))
    (c.in_ok-push-2.ensures.ok ∙ ap (λ xs. xs ++ tree c.args.other ∷ [])
    (c.in_ok-push.ensures.ok ∙ ap (λ xs. xs ++ tree c.args.one ∷ []) c.new-values.ensures))
    c.judged.ensures
