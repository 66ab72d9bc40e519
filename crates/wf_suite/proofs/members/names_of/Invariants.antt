use Rattle.std.proofs.Common.{◌≡◌, ◌++◌, drop, map}
use Rattle.wf_val.specs.Seen.{tree}
use Rattle.wf_suite.specs.Members.{name_of}
use Rattle.wf_suite.proofs.members.names_of.Given as goal

-- the names so far, and those that are left
abbrev pub invariant-loop-value : goal.invariant-loop-value
invariant-loop-value l = l.names ++ map name_of (map tree (drop l.value-index l.value-items)) ≡ map name_of (map tree l.value-items)
