use Rattle.std.proofs.Common.{◌≡◌, ◌++◌, length, drop, take}
use Rattle.wf_paths.specs.Table.{either}
use Rattle.wf_paths.proofs.table.join.Given as goal

abbrev pub invariant-loop-place : goal.invariant-loop-place
invariant-loop-place l = record {
  done_and_left : take l.place l.row ++ either (drop l.place l.row) (drop l.place l.other) ≡ either l.fn.row l.other;
  as_long : length l.row ≡ length l.fn.row;
}
