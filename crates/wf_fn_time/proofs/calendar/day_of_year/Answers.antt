use Rattle.std.proofs.Common.{◌∙◌, ap, sym}
use Rattle.wf_fn_time.specs.Calendar.{place_in_year}
use Rattle.wf_fn_time.proofs.CalendarLemmas.{place-date}
use Rattle.wf_fn_time.proofs.calendar.day_of_year.Goals as goal

pub returns : goal.returns
returns c =
    c.day_of_year.ensures.value ∙ place-date c.date_at.result c.date_at.ensures.year ∙ ap place_in_year (sym c.date_at.ensures.value)
