use Rattle.std.proofs.Common.{◌≡◌, ◌++◌, drop, map}
use Rattle.wf_talk.specs.Seen.{want_key}
use Rattle.wf_waits.specs.Kept.{fresh_key}
use Rattle.wf_waits.proofs.waits.fresh_of.Given as goal

-- those so far and those that are left are all
abbrev pub invariant-loop-place : goal.invariant-loop-place
invariant-loop-place l = map want_key l.wants.items ++ map fresh_key (drop l.place l.fresh.0) ≡ map fresh_key l.fresh.0
