use Rattle.std.proofs.Common.{◌∷◌, [], ◌++◌, ◌∙◌, ap, subst}
use Rattle.wf_val.specs.Arguments.{Gives, seen}
use Rattle.wf_val.specs.Seen.{tree}
use Rattle.wf_functions.specs.Rows.{strict_row}
use Rattle.wf_folds.proofs.paired.of_two.Goals as goal

pub returns : goal.returns
returns c = c.in_ok-unless_memory.ensures.same
    ∙ subst (λ ts. Gives (seen c.strict_row-answer.result) (strict_row c.args.function ts))
    (c.in_ok-push-2.ensures.ok
    ∙ ap (λ ts. ts ++ tree c.args.second ∷ []) (c.in_ok-push.ensures.ok ∙ ap (λ ts. ts ++ tree c.args.first ∷ []) c.new-both.ensures))
    c.strict_row-answer.ensures c.in_ok-unless_memory.ensures.apart
