use Rattle.std.proofs.Common.{ℕ, ◌+◌, List, [], ◌∷◌, ◌++◌, map, drop, ap, sym, ◌∙◌, append_assoc, arith}
use Rattle.wf_val.specs.Seen.{member}
use Rattle.wf_val.specs.declared.val.Val.{Val}
use Rattle.wf_def.specs.declared.after.After.{After}
use Rattle.wf_reading.specs.Afters.{after_of}
use Rattle.wf_reading.specs.Numbers.{number_among}
use Rattle.wf_def.proofs.SizeLemmas.{drop_at_place}
use Rattle.wf_reading.proofs.afters.afters_of.Goals as goal

pub loop-name-preserved : goal.loop-name-preserved
loop-name-preserved c =
    let ms : List (List ℕ × Val) = c.entries-name-items.result.now in
    let i = c.loop-name.name-index in
    let item : List ℕ × Val = c.loop-name-item.result in
    let number_of : (List ℕ → ℕ) = number_among c.args.numbers.now in
    let done : List After = c.loop-name.afters in
    let rest : List After = map (after_of number_of) (map member (drop (i + 1) ms)) in
    let here = drop_at_place ms i item (omega arith) c.loop-name-item.is in
    ap (λ (xs : List After). xs ++ rest) c.in_ok-push.ensures.ok
    ∙ append_assoc done (c.in_ok-after_of.field-0 ∷ []) rest
    ∙ ap (λ (a : After). done ++ a ∷ rest) c.in_ok-after_of.ensures
    ∙ ap (λ (xs : List (List ℕ × Val)). done ++ map (after_of number_of) (map member xs)) (sym here)
    ∙ c.loop-name.invariant
