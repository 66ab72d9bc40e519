use Rattle.std.proofs.Common.{◌≡◌, map, take}
use Rattle.wf_val.specs.Seen.{member}
use Rattle.wf_val.proofs.fields.copies.Given as goal

-- the copies so far
abbrev pub invariant-loop-name : goal.invariant-loop-name
invariant-loop-name l = map member l.copies.items ≡ map member (take l.name-index l.members)
