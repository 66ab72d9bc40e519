use Rattle.std.proofs.Common.{◌∙◌, ap, max, subst, sym}
use Rattle.wf_recur.specs.Due.{IsDueBy, IsMonthsLater}
use Rattle.wf_recur.specs.declared.recurrence.Kind.{Kind}
use Rattle.wf_recur.proofs.NextLemmas.{due_least}
use Rattle.wf_recur.proofs.moments.next.Goals as goal

pub returns-in-Months : goal.returns-in-Months
returns-in-Months c =
    let r = c.args.recurrence.now in
    let b = c.args.start in
    due_least r b c.args.at c.max-at.result (IsMonthsLater r.interval b) c.next_month.result
    (c.max-at.ensures ∙ ap (max c.args.at) c.get.ensures.value)
    (λ m later. let P : Kind → Type 0 = λ k. IsDueBy k r b m in subst P c.in-Months.ensures later)
    (λ m due. let P : Kind → Type 0 = λ k. IsDueBy k r b m in subst P (sym c.in-Months.ensures) due.by_kind)
    c.next_month.ensures.in_years c.next_month.ensures.least
