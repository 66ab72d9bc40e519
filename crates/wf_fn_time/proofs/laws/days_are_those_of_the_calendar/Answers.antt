use Rattle.wf_fn_time.proofs.CalendarLemmas.{date_at-number}
use Rattle.wf_fn_time.proofs.LawLemmas.{weekday-next}
use Rattle.wf_fn_time.proofs.laws.days_are_those_of_the_calendar.Goals as goal

pub returns : goal.returns
returns c = record { day = date_at-number; weekday = weekday-next }
