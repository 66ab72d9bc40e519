use Rattle.std.proofs.Common.{◌≡◌, ◌++◌, map, length}
use denote.Shadow.{shadow}
use denote.Text.{Utf8}
use Rattle.std.specs.Str.{chars}
use Rattle.wf_fn_list.specs.Chunks.{chunks}
use Rattle.wf_fn_list.specs.Parts.{spelled}
use Rattle.wf_fn_list.proofs.chunks.pieces_of_text.Given as goal

-- the pieces cut off, with those of the rest, are those of all
abbrev pub invariant-loop-rest : goal.invariant-loop-rest
invariant-loop-rest l =
    shadow (Utf8 l.rest) × (l.pieces ++ map spelled (chunks l.size (chars l.rest)) ≡ map spelled (chunks l.size (chars l.text)))

abbrev pub decreases-loop-rest : goal.decreases-loop-rest
decreases-loop-rest l = length (chars l.rest)
