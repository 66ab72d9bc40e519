use Rattle.std.proofs.Common.{◌≡◌, map, take}
use Rattle.wf_val.specs.Seen.{tree}
use Rattle.wf_val.proofs.vals.copies.Given as goal

-- the copies so far
abbrev pub invariant-loop-item : goal.invariant-loop-item
invariant-loop-item l = map tree l.copies.items ≡ map tree (take l.item-index l.items)
