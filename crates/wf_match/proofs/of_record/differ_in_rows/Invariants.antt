use Rattle.std.proofs.Common.{◌≡◌, ◌++◌, drop, map}
use Rattle.wf_match.specs.OfRecord.{in_rows}
use Rattle.wf_match.specs.Told.{told}
use Rattle.wf_match.proofs.of_record.differ_in_rows.Given as goal
use Rattle.wf_val.specs.Seen.{tree, member}

-- those so far and those of the addresses that are left
abbrev pub invariant-loop-address : goal.invariant-loop-address
invariant-loop-address l =
    map told l.all.items ++ in_rows (map tree l.rows) (map member (drop l.address-index l.address-items))
    ≡ map told l.initial.all.items ++ in_rows (map tree l.rows) l.expected
