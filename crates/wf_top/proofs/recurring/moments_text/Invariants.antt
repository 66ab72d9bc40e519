use Rattle.std.proofs.Common.{◌≡◌, ◌++◌, drop}
use Rattle.std.specs.List.{flat_map}
use Rattle.wf_top.specs.Fires.{moment_line}
use Rattle.wf_top.proofs.recurring.moments_text.Given as goal

-- the lines so far, and those of the moments that are left
abbrev pub invariant-loop-moment : goal.invariant-loop-moment
invariant-loop-moment l = l.text.items ++ flat_map moment_line (drop l.moment-index l.moments) ≡ flat_map moment_line l.moments
