use Rattle.std.proofs.Common.{◌≡◌, drop}
use Rattle.wf_recur.specs.Sets.{has_any}
use Rattle.wf_recur.proofs.sets.has_any.Given as goal

-- none so far is in the set, and those that are left decide
abbrev pub invariant-loop-is_in : goal.invariant-loop-is_in
invariant-loop-is_in l = has_any (drop l.is_in-index l.set) ≡ has_any l.set
