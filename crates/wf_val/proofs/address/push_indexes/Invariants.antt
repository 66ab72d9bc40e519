use Rattle.std.proofs.Common.{◌≡◌, ◌++◌, string_bytes, take}
use Rattle.wf_val.specs.Address.{indexes_text}
use Rattle.wf_val.proofs.address.push_indexes.Given as goal

-- the numbers so far
abbrev pub invariant-loop-index : goal.invariant-loop-index
invariant-loop-index l = string_bytes l.text ≡ string_bytes l.initial.text ++ indexes_text (take l.index-index l.at)
