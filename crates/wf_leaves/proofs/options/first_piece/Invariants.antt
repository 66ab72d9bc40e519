use Rattle.std.proofs.Common.{◌≡◌, ◌++◌, take, drop}
use Rattle.wf_leaves.specs.Options.{first_piece}
use Rattle.wf_leaves.proofs.options.first_piece.Given as goal

abbrev pub invariant-loop-place : goal.invariant-loop-place
invariant-loop-place l = take l.place l.bytes ++ first_piece (drop l.place l.bytes) ≡ first_piece l.bytes
