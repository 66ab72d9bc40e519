use Rattle.std.proofs.Common.{◌≡◌, ◌+◌, ◌≤◌, arith, min, pos, to_z, ◌∙◌, ap}
use Rattle.std.specs.Int.{w16}
use Rattle.std.proofs.lemmas.Int.{ints}
use Rattle.jiff_core.specs.Calendar.{days_in_month}
use Rattle.wf_fn_time.specs.Calendar.{day_number}
use Rattle.wf_fn_time.specs.declared.calendar.Day.{Day}
use Rattle.wf_fn_time.proofs.CalendarLemmas.{number-of_date, long_month}
use Rattle.wf_fn_time.proofs.calendar.day_number.Goals as goal

abbrev cut : goal.After-days_since_min → Day
cut c = record { year = c.args.year; month = c.args.month; day = min c.args.day (days_in_month (pos c.args.year) c.args.month) }

counted : (c : goal.After-days_since_min) → c.days_since_min.result ≡ day_number (cut c) + 3652425
counted c =
    let signed : to_z w16 c.args.year ≡ pos c.args.year = omega (arith, ints) in
    let place = c.constrain-date.ensures.day ∙ ap (λ y. min c.args.day (days_in_month y c.args.month)) signed in
    let last = min c.args.day (days_in_month (pos c.args.year) c.args.month) in
    let from : 1 ≤ last = omega (arith, c.requires.day_from, long_month c.args.year c.args.month) in
    number-of_date c.constrain-date.result c.args.year c.args.month last c.days_since_min.result
    (c.constrain-date.ensures.year ∙ signed) c.constrain-date.ensures.month place c.requires.year_from from c.days_since_min.ensures.value

pub overflow_sub-result : goal.overflow_sub-result
overflow_sub-result c = omega (arith, counted c)

pub returns-clause-value : goal.returns-clause-value
returns-clause-value c = omega (arith, counted c)
