use Rattle.std.proofs.Common.{◌≡◌, ◌++◌, map, drop}
use Rattle.wf_val.specs.Seen.{tree}
use Rattle.wf_record_form.specs.Reading.{row_of}
use Rattle.wf_record.specs.Seen.{row_tree}
use Rattle.wf_record_form.proofs.reading.rows_of.Given as goal

-- the rows so far, and those that are left
abbrev pub invariant-loop-value : goal.invariant-loop-value
invariant-loop-value l = map row_tree l.rows ++ map row_of (map tree (drop l.value-index l.values)) ≡ map row_of (map tree l.values)
