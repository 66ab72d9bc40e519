use Rattle.std.proofs.Common.{◌≡◌, ◌++◌, drop, map}
use Rattle.std.specs.Prelude.{flat_map}
use Rattle.wf_history.specs.Seen.{listed_tree}
use Rattle.wf_top.specs.Commands.{listed_line}
use Rattle.wf_top.proofs.listing.listing_text.Given as goal

-- the lines so far, and those of the records that are left
abbrev pub invariant-loop-listed : goal.invariant-loop-listed
invariant-loop-listed l =
    l.text.items ++ flat_map listed_line (map listed_tree (drop l.listed-index l.listed-items))
    ≡ flat_map listed_line (map listed_tree l.listing)
