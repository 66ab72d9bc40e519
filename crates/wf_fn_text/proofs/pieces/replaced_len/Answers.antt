use Rattle.std.proofs.Common.{◌∙◌, ◌+◌, ap}
use Rattle.wf_val.specs.Cut.{cut_u64}
use Rattle.wf_fn_text.proofs.PieceLemmas.{cut}
use Rattle.wf_fn_text.proofs.ReplaceLemmas.{total-moved, total-ended}
use Rattle.wf_fn_text.proofs.pieces.replaced_len.Goals as goal

pub loop-before-preserved : goal.loop-before-preserved
loop-before-preserved c =
    let old = c.args.old.now in
    let rest = c.loop-before.rest.now in
    let k = cut old rest c.in-Some.before.now c.in-Some.after.now c.requires c.loop-before.invariant.0 c.in-Some.ensures.cases in (
      k.utf8,
      total-moved old c.args.new.now rest c.in-Some.before.now c.in-Some.after.now c.loop-before.total
          c.saturating_add-total.result k.pieces
          (c.saturating_add-total.ensures ∙ ap (λ n. cut_u64 (c.loop-before.total + n)) c.saturating_add-piece.ensures)
          ∙ c.loop-before.invariant.1,
    )

pub returns : goal.returns
returns c = c.saturating_add.ensures ∙ total-ended c.args.old.now c.args.new.now c.loop-before.rest.now c.loop-before.total
    c.in_default.ensures.cases ∙ c.loop-before.invariant.1
