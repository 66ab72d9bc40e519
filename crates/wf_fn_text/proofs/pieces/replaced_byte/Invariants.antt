use Rattle.std.proofs.Common.{◌≡◌, flat_map, string_bytes}
use Rattle.std.specs.Str.{encode_utf8_all}
use Rattle.wf_fn_text.specs.Pieces.{in_place}
use Rattle.wf_fn_text.proofs.pieces.replaced_byte.Given as goal

-- the characters so far
abbrev pub invariant-loop-character : goal.invariant-loop-character
invariant-loop-character l = string_bytes l.made ≡ flat_map (in_place l.old l.new) (encode_utf8_all l.yielded)
