use Rattle.std.proofs.Common.{◌≡◌, ◌++◌, map, drop}
use Rattle.wf_val.specs.Seen.{tree}
use Rattle.wf_record_form.specs.Reading.{index_in}
use Rattle.wf_record_form.proofs.members.indexes_in.Given as goal

-- the numbers so far, and those that are left
abbrev pub invariant-loop-value : goal.invariant-loop-value
invariant-loop-value l = l.at ++ map index_in (map tree (drop l.value-index l.values)) ≡ map index_in (map tree l.values)
