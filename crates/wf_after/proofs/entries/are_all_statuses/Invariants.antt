use Rattle.std.proofs.Common.{◌≡◌, drop, map}
use Rattle.std.specs.List.{list_all}
use Rattle.wf_val.specs.Seen.{tree}
use Rattle.wf_after.specs.Entries.{is_status}
use Rattle.wf_after.proofs.entries.are_all_statuses.Given as goal

abbrev pub invariant-loop-value : goal.invariant-loop-value
invariant-loop-value l = list_all is_status (map tree (drop l.value-index l.values)) ≡ list_all is_status (map tree l.values)
