use Rattle.std.proofs.Common.{◌≡◌, ◌/◌, ◌≤◌, true, sym, ap, ◌∙◌, subst}
use Rattle.wf_fn_time.specs.Calendar.{day_at, day_number, is_day}
use Rattle.wf_fn_time.specs.Laws.{IsReadBack}
use Rattle.wf_fn_time.specs.Moments.{last_tick, ticks_a_day}
use Rattle.wf_fn_time.proofs.RoundTripLemmas.{read-back, has_its_ticks}
use Rattle.wf_fn_time.proofs.laws.printed_moments_are_read.Goals as goal

read : (c : goal.After-day_at-day) → IsReadBack c.args.moment
read c =
    let day = c.day_at-day.ensures.value ∙ ap (λ t. day_at (t / ticks_a_day)) c.get.ensures.value in
    let is : is_day (day_at (c.args.moment / ticks_a_day)) ≡ true = ap is_day (sym day) ∙ c.day_at-day.ensures.in_calendar in
    let counted : day_number (day_at (c.args.moment / ticks_a_day)) ≡ c.args.moment / ticks_a_day =
    ap day_number (sym day) ∙ c.day_at-day.ensures.counted ∙ ap (λ t. t / ticks_a_day) c.get.ensures.value in
    read-back c.args.moment (subst (λ t. t ≤ last_tick) c.get.ensures.value c.get.ensures.in_range) is counted

pub returns : goal.returns
returns c = record { read = read c; ticks = has_its_ticks c.args.moment (read c) }
