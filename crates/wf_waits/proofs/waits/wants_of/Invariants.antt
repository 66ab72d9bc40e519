use Rattle.std.proofs.Common.{◌≡◌, ◌++◌, drop, map}
use Rattle.wf_talk.specs.Seen.{want_key}
use Rattle.wf_waits.specs.Kept.{keys_of}
use Rattle.wf_waits.proofs.waits.wants_of.Given as goal

-- those so far and those that are left are all
abbrev pub invariant-loop-waiting : goal.invariant-loop-waiting
invariant-loop-waiting l = map want_key l.wants.items ++ keys_of (drop l.waiting-index l.waits) ≡ keys_of l.waits
