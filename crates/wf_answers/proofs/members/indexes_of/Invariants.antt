use Rattle.std.proofs.Common.{◌≡◌, ◌++◌, drop, map}
use Rattle.wf_val.specs.Seen.{tree}
use Rattle.wf_answers.specs.Members.{index_of}
use Rattle.wf_answers.proofs.members.indexes_of.Given as goal

-- the numbers so far, and those that are left
abbrev pub invariant-loop-value : goal.invariant-loop-value
invariant-loop-value l = l.at ++ map index_of (map tree (drop l.value-index l.values)) ≡ map index_of (map tree l.values)
