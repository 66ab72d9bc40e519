use Rattle.std.proofs.Common.{◌≡◌, ◌++◌, drop, map}
use Rattle.wf_match.specs.OfRecord.{in_record}
use Rattle.wf_match.specs.Told.{told}
use Rattle.wf_match.proofs.of_record.differ_in_record.Given as goal
use Rattle.wf_val.specs.Seen.{tree, member}

-- those so far and those of the members that are left
abbrev pub invariant-loop-name : goal.invariant-loop-name
invariant-loop-name l =
    map told l.all.items ++ in_record (map member (drop l.name-index l.name-items)) (tree l.record)
    ≡ map told l.initial.all.items ++ in_record l.expected (tree l.record)
