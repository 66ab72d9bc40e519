use Rattle.std.proofs.Common.{◌≡◌, ◌+◌, ◌≤◌, length}
use Rattle.wf_lines.specs.Lines.{lines_of}
use Rattle.wf_schedule.specs.Reading.{behind}
use Rattle.wf_schedule.specs.Schedule.{numbers_from, schedule_of}
use Rattle.wf_schedule.proofs.reading.read_schedule.Given as goal

-- the lines that are left, behind the numbers so far, are the whole
abbrev pub invariant-loop-rest : goal.invariant-loop-rest
invariant-loop-rest l = record {
  all : behind l.schedule (numbers_from l.line (lines_of l.rest)) ≡ schedule_of l.bytes;
  few : l.line + length l.rest ≤ 1 + length l.bytes;
}

abbrev pub decreases-loop-rest : goal.decreases-loop-rest
decreases-loop-rest l = length l.rest
