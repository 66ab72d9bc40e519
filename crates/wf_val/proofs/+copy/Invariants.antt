use Rattle.std.proofs.Common.{◌≡◌, map, take}
use Rattle.wf_val.specs.Seen.{tree, member}
use Rattle.wf_val.proofs.+copy.Given as goal

-- the copies so far
abbrev pub invariant-fields::Fields::copy-loop-name : goal.invariant-fields::Fields::copy-loop-name
invariant-fields::Fields::copy-loop-name l = map member l.copies.items ≡ map member (take l.name-index l.name-items)

abbrev pub invariant-vals::Vals::copy-loop-item : goal.invariant-vals::Vals::copy-loop-item
invariant-vals::Vals::copy-loop-item l = map tree l.copies.items ≡ map tree (take l.item-index l.item-items)
