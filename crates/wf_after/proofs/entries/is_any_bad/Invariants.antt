use Rattle.std.proofs.Common.{◌≡◌, drop, map}
use Rattle.std.specs.List.{list_any}
use Rattle.wf_val.specs.Seen.{member}
use Rattle.wf_after.specs.Entries.{is_bad_entry}
use Rattle.wf_after.proofs.entries.is_any_bad.Given as goal

abbrev pub invariant-loop-name : goal.invariant-loop-name
invariant-loop-name l =
    list_any (is_bad_entry (map member l.graph) l.own) (map member (drop l.name-index l.entries))
    ≡ list_any (is_bad_entry (map member l.graph) l.own) (map member l.entries)
