use Rattle.std.proofs.Common.{◌≡◌, ◌+◌, ◌-◌, ◌*◌, ◌/◌, ◌∙◌, true, ap, sym, arith}
use Rattle.wf_recur.specs.Due.{months_later}
use Rattle.wf_recur.specs.Next.{is_before}
use Rattle.wf_recur.proofs.MonthLemmas.{halved}
use Rattle.wf_recur.proofs.months.intervals_before.Goals as goal

pub loop-low-preserved-then-is_before : goal.loop-low-preserved-then-is_before
loop-low-preserved-then-is_before c =
    let known = c.loop-low.invariant in
    let middle = c.loop-low.low + (c.loop-low.high - c.loop-low.low) / 2 in
    let before : is_before c.args.at (months_later (middle * c.args.interval) c.args.start) ≡ true =
    ap (is_before c.args.at) (sym c.months_later.ensures.value) ∙ sym c.is_before.ensures ∙ c.if-is_before.true in
    (omega (arith, c.loop-low-test.true, known.0), known.1, halved c.args.at c.args.start c.args.interval middle before, known.3)
