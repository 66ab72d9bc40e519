use Rattle.std.proofs.Common.{ℕ, ◌*◌, ◌∙◌, Option, ap, subst, sym}
use Rattle.wf_recur.specs.Due.{IsMonthsLater, months_later}
use Rattle.wf_recur.specs.Next.{IsLeastFrom}
use Rattle.wf_recur.proofs.MonthLemmas.{found}
use Rattle.wf_recur.proofs.months.next_month.Goals as goal

pub returns-clause-least : goal.returns-clause-least
returns-clause-least c =
    let start = c.args.start in
    let intervals = c.intervals_before-intervals.result in
    let P : ℕ → Type 0 = λ i. IsLeastFrom (IsMonthsLater i start) c.args.at (months_later (intervals * i) start) in
    let Q : Option ℕ → Type 0 = λ m. IsLeastFrom (IsMonthsLater c.args.interval start) c.args.at m in
    let least = found c.args.at start c.get.result intervals c.intervals_before-intervals.ensures.not_before
    c.intervals_before-intervals.ensures.before in
    subst Q (sym (c.months_later.ensures.value ∙ ap (λ i. months_later (intervals * i) start) c.get-2.ensures.value))
    (subst P c.get.ensures.value least)
