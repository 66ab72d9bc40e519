use Rattle.std.proofs.Common.{ℕ, ◌*◌, ◌+◌, ◌<◌, ◌≤◌, Option, Some, None, arith, subst, sym}
use Rattle.wf_recur.specs.Due.{IsDue}
use Rattle.wf_recur.specs.Next.{IsLeastFrom}
use Rattle.wf_recur.specs.declared.timetable.Timetable.{Timetable}
use Rattle.wf_recur.proofs.TimetableLemmas.{IsDueInYears, none-scheduled, scheduled}
use Rattle.wf_recur.proofs.timetable.next_scheduled.Goals as goal

pub returns-in-Some : goal.returns-in-Some
returns-in-Some c =
    let from = c.div_ceil.result in
    let low : c.args.at ≤ from * 600000000 = omega (arith, c.div_ceil.ensures) in
    let high : from * 600000000 < c.args.at + 600000000 = omega (arith, c.div_ceil.ensures) in
    let P : Timetable → Type 0 = λ t. IsLeastFrom (IsDueInYears t) from (Some c.in-Some.minute) in
    let Q : Option ℕ → Type 0 = λ m. IsLeastFrom (IsDue c.args.recurrence.now c.args.start) c.args.at m in
    subst Q (sym c.of.ensures)
    (scheduled c.args.is_weekly c.args.recurrence.now c.args.start c.args.at from c.in-Some.minute c.requires.kind c.requires.start low high
    (subst P c.of-timetable.ensures.value c.in-Some.ensures))

pub returns-in-None : goal.returns-in-None
returns-in-None c =
    let from = c.div_ceil.result in
    let low : c.args.at ≤ from * 600000000 = omega (arith, c.div_ceil.ensures) in
    let high : from * 600000000 < c.args.at + 600000000 = omega (arith, c.div_ceil.ensures) in
    let P : Timetable → Type 0 = λ t. IsLeastFrom (IsDueInYears t) from None in
    none-scheduled c.args.is_weekly c.args.recurrence.now c.args.start c.args.at from c.requires.kind low high
    (subst P c.of-timetable.ensures.value c.in-None.ensures)
