use Rattle.std.proofs.Common.{◌≡◌, map, take}
use Rattle.wf_val.specs.Seen.{tree}
use Rattle.wf_functions.specs.Rows.{as_text}
use Rattle.wf_functions.proofs.rows.texts_of.Given as goal

-- the texts so far
abbrev pub invariant-loop-item : goal.invariant-loop-item
invariant-loop-item l = l.texts ≡ map as_text (map tree (take l.item-index l.items))
