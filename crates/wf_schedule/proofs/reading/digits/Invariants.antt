use Rattle.std.proofs.Common.{◌≡◌, ◌≤◌, drop}
use Rattle.wf_schedule.specs.Schedule.{digits_from, small}
use Rattle.wf_schedule.proofs.reading.digits.Given as goal

-- the digits that are left, behind those so far, come to what all do
abbrev pub invariant-loop-byte : goal.invariant-loop-byte
invariant-loop-byte l = record {
  all : small (digits_from l.sum (drop l.byte-index l.line)) ≡ small (digits_from 0 l.line);
  within : l.sum ≤ 4294967295;
}
