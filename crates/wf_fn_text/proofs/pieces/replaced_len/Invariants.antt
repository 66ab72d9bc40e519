use Rattle.std.proofs.Common.{◌≡◌, ◌+◌, length}
use denote.Text.{Utf8}
use denote.Shadow.{shadow}
use Rattle.wf_val.specs.Cut.{cut_u64}
use Rattle.wf_fn_text.specs.Pieces.{replaced}
use Rattle.wf_fn_text.proofs.pieces.replaced_len.Given as goal

-- what is counted so far, with what comes of the rest, is what comes of the whole
abbrev pub invariant-loop-before : goal.invariant-loop-before
invariant-loop-before l =
    shadow (Utf8 l.rest) × (cut_u64 (l.total + length (replaced l.old l.new l.rest)) ≡ cut_u64 (length (replaced l.old l.new l.text)))

abbrev pub decreases-loop-before : goal.decreases-loop-before
decreases-loop-before l = length l.rest
