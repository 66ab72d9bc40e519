use Rattle.std.proofs.Common.{◌≡◌, drop, map}
use Rattle.wf_val.specs.Seen.{tree}
use Rattle.wf_recur.specs.Reading.{with_values}
use Rattle.wf_recur.proofs.reading.with_values.Given as goal

-- what is in the set so far, with what is left, is the whole
abbrev pub invariant-loop-value : goal.invariant-loop-value
invariant-loop-value l = with_values l.part (map tree (drop l.value-index l.values)) l.set ≡ with_values l.part (map tree l.values) l.fn.set
