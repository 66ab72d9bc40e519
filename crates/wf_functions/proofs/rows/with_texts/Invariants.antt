use Rattle.std.proofs.Common.{◌≡◌, map, take}
use Rattle.wf_val.specs.Seen.{tree}
use Rattle.wf_functions.specs.Rows.{texts_in}
use Rattle.wf_functions.proofs.rows.with_texts.Given as goal

-- the arguments so far
abbrev pub invariant-loop-arg : goal.invariant-loop-arg
invariant-loop-arg l = l.texts ≡ map texts_in (map tree (take l.arg-index l.args))
