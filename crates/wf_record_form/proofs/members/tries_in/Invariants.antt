use Rattle.std.proofs.Common.{◌≡◌, ◌++◌, map, drop}
use Rattle.wf_val.specs.Seen.{tree}
use Rattle.wf_record_form.specs.Reading.{try_in}
use Rattle.wf_record_form.proofs.members.tries_in.Given as goal

-- the attempts so far, and those that are left
abbrev pub invariant-loop-value : goal.invariant-loop-value
invariant-loop-value l = l.tries ++ map try_in (map tree (drop l.value-index l.values)) ≡ map try_in (map tree l.values)
