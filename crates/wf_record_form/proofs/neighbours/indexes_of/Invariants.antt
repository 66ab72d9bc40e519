use Rattle.std.proofs.Common.{◌≡◌, drop, map}
use Rattle.wf_val.specs.Seen.{tree}
use Rattle.wf_record_form.specs.RecordForm.{indexes_after, indexes_of}
use Rattle.wf_record_form.proofs.neighbours.indexes_of.Given as goal

-- the numbers so far, with those that are left
abbrev pub invariant-loop-value : goal.invariant-loop-value
invariant-loop-value l = indexes_after l.at (map tree (drop l.value-index l.values)) ≡ indexes_of (map tree l.values)
