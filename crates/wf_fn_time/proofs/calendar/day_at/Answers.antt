use Rattle.std.proofs.Common.{◌≡◌, ◌∙◌, ap, rules}
use Rattle.std.proofs.lemmas.Int.{to_z-of_z}
use Rattle.std.specs.Int.{w16}
use Rattle.std.specs.Prelude.{FitsSigned, unsigned_abs}
use Rattle.wf_fn_time.specs.Calendar.{is_day, day_number}
use Rattle.wf_fn_time.proofs.CalendarLemmas.{is_day-date}
use Rattle.wf_fn_time.proofs.calendar.day_at.Goals as goal

here : (c : goal.After-unsigned_abs) → c.unsigned_abs.result ≡ unsigned_abs c.date_at-date.result.year
here c =
    let date = c.date_at-date.result in
    let fits : FitsSigned w16 date.year = search rules in
    c.unsigned_abs.ensures.value ∙ ap unsigned_abs (to_z-of_z w16 date.year fits)

pub returns-clause-in_calendar : goal.returns-clause-in_calendar
returns-clause-in_calendar c =
    let date = c.date_at-date.result in
    ap (λ y. is_day (record { year = y; month = date.month; day = date.day })) (here c) ∙ is_day-date date c.date_at-date.ensures.year

pub returns-clause-counted : goal.returns-clause-counted
returns-clause-counted c =
    let date = c.date_at-date.result in
    ap (λ y. day_number (record { year = y; month = date.month; day = date.day })) (here c) ∙ c.date_at-date.ensures.counted
