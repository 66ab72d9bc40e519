use Rattle.std.proofs.Common.{◌≡◌, drop}
use Rattle.wf_leaves.specs.Options.{behind_blanks}
use Rattle.wf_leaves.proofs.options.behind_blanks.Given as goal

abbrev pub invariant-loop-place : goal.invariant-loop-place
invariant-loop-place l = behind_blanks (drop l.place l.bytes) ≡ behind_blanks l.bytes
