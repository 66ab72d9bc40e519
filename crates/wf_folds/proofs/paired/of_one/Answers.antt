use Rattle.std.proofs.Common.{◌∷◌, [], ◌++◌, ◌∙◌, ap, subst}
use Rattle.wf_val.specs.Arguments.{Gives, seen}
use Rattle.wf_val.specs.Seen.{tree}
use Rattle.wf_functions.specs.Rows.{strict_row}
use Rattle.wf_folds.proofs.paired.of_one.Goals as goal

pub returns : goal.returns
returns c =
    subst (λ ts. Gives (seen c.strict_row.result) (strict_row c.args.function ts))
    (c.in_ok-push.ensures.ok ∙ ap (λ ts. ts ++ tree c.args.value ∷ []) c.new-values.ensures) c.strict_row.ensures
