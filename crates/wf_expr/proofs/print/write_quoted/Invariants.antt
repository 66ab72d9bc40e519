use Rattle.std.proofs.Common.{◌≡◌, ◌∷◌, ◌++◌, flat_map, string_bytes}
use Rattle.std.specs.Str.{encode_utf8_all}
use Rattle.wf_expr.specs.Printed.{quoted_byte}
use Rattle.wf_expr.proofs.print.write_quoted.Given as goal

-- the characters so far
abbrev pub invariant-loop-character : goal.invariant-loop-character
invariant-loop-character l =
    string_bytes l.out ≡ string_bytes l.fn.out ++ 39 ∷ flat_map quoted_byte (encode_utf8_all l.yielded)
