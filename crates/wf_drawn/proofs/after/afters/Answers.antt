use Rattle.std.proofs.Common.{◌≡◌, ◌+◌, ℕ, List, drop, sym, ap, ◌∙◌, arith}
use Rattle.wf_def.specs.declared.after.After.{After}
use Rattle.wf_html.proofs.PieceLemmas.{written_append}
use Rattle.wf_html.specs.Html.{written}
use Rattle.wf_drawn.proofs.LevelLemmas.{drop_at_place}
use Rattle.wf_drawn.specs.After.{after_pieces, afters}
use Rattle.wf_drawn.proofs.after.afters.Goals as goal

pub loop-entry-preserved : goal.loop-entry-preserved
loop-entry-preserved c =
    let xs : List After = c.as_slice-entry-items.result.now in
    let i = c.loop-entry.entry-index in
    let item : After = c.entry-item.result in
    let here = drop_at_place xs i item (omega arith) c.entry-item.is in
    ap (λ (b : List ℕ). written b (afters (drop (i + 1) xs))) c.in_ok-bytes.ensures
    ∙ sym (written_append c.loop-entry.bytes.items (after_pieces item) (afters (drop (i + 1) xs)))
    ∙ ap (λ (es : List After). written c.loop-entry.bytes.items (afters es)) (sym here)
    ∙ c.loop-entry.invariant
