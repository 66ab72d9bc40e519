use Rattle.std.proofs.Common.{◌≡◌, ◌≤◌, drop}
use Rattle.wf_tests.specs.Names.{folder_end}
use Rattle.wf_tests.proofs.names.folder_end.Given as goal

-- the last slash so far and of the bytes that are left
abbrev pub invariant-loop-place : goal.invariant-loop-place
invariant-loop-place l = record {
  all : folder_end l.end l.place (drop l.place l.name) ≡ folder_end 0 0 l.name;
  within : l.end ≤ l.place;
}
