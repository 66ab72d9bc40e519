use Rattle.std.proofs.Common.{◌≡◌, ◌++◌}
use Rattle.wf_uses.proofs.names.listed.Given as goal

-- the names so far, and those that are left of the set
abbrev pub invariant-loop-name : goal.invariant-loop-name
invariant-loop-name l = l.items.items ++ l.name-iterator ≡ l.fn.set.keys
