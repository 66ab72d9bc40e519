use Rattle.std.proofs.Common.{◌≡◌, rules, ◌∙◌, ap, pos, ◌+ℤ◌}
use Rattle.std.proofs.lemmas.Int.{to_z-of_z}
use Rattle.std.specs.Int.{w64}
use Rattle.std.specs.Prelude.{FitsSigned}
use Rattle.jiff_core.specs.Date.{epoch_day}
use Rattle.wf_fn_time.proofs.CalendarLemmas.{date_at-number, number-date, year_from_1}
use Rattle.wf_fn_time.proofs.calendar.date_at.Goals as goal

counted : (c : goal.In-Ok) → epoch_day c.in-Ok.date +ℤ pos 719162 ≡ pos c.args.days
counted c =
    let fits : FitsSigned w64 c.epoch_days.result = search rules in
    ap (λ z. z +ℤ pos 719162) (c.in-Ok.ensures.value ∙ to_z-of_z w64 c.epoch_days.result fits) ∙ c.epoch_days.ensures

pub returns-clause-value : goal.returns-clause-value
returns-clause-value c = date_at-number c.in-Ok.date c.args.days (counted c)

pub returns-clause-year : goal.returns-clause-year
returns-clause-year c = year_from_1 c.in-Ok.date c.args.days (counted c)

pub returns-clause-counted : goal.returns-clause-counted
returns-clause-counted c = number-date c.in-Ok.date c.args.days (counted c)
