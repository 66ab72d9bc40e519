use Rattle.std.proofs.Common.{◌≡◌, drop}
use Rattle.wf_leaves.specs.Options.{has_later_option}
use Rattle.wf_leaves.proofs.options.has_later_option.Given as goal

abbrev pub invariant-loop-place : goal.invariant-loop-place
invariant-loop-place l = has_later_option l.word (drop l.place l.bytes) ≡ has_later_option l.word l.bytes
