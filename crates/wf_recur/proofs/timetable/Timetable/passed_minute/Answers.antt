use Rattle.wf_recur.proofs.TimetableLemmas.{day-passed, time-due}
use Rattle.wf_recur.proofs.timetable.Timetable.passed_minute.Goals as goal

pub returns-in-Some : goal.returns-in-Some
returns-in-Some c = day-passed c.args.self.now c.args.minute c.in-Some.day c.in-Some.ensures.passes

pub returns-in-None : goal.returns-in-None
returns-in-None c = time-due c.args.self.now c.args.minute c.in-None.ensures.passes c.passed_time.result c.passed_time.ensures
