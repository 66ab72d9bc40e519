use Rattle.std.proofs.Common.{◌≡◌, ◌++◌, map, length}
use Rattle.wf_val.specs.Seen.{tree}
use Rattle.wf_fn_list.specs.Chunks.{chunks}
use Rattle.wf_fn_list.specs.Parts.{listed}
use Rattle.wf_fn_list.proofs.chunks.pieces_of_list.Given as goal

-- the pieces cut off, with those of the rest, are those of all
abbrev pub invariant-loop-rest : goal.invariant-loop-rest
invariant-loop-rest l = l.pieces ++ map listed (chunks l.size (map tree l.rest)) ≡ map listed (chunks l.size (map tree l.values))

abbrev pub decreases-loop-rest : goal.decreases-loop-rest
decreases-loop-rest l = length l.rest
