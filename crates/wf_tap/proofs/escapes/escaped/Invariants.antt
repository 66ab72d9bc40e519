use Rattle.std.proofs.Common.{◌≡◌, ◌++◌, string_bytes}
use Rattle.std.specs.Str.{chars, IsUtf8}
use Rattle.std.specs.Str.Iter.{chars_rest}
use Rattle.wf_tap.specs.Escapes.{all_shown, escaped}
use Rattle.wf_tap.proofs.escapes.escaped.Given as goal

-- what stands for the characters so far and for those that are left, which are a text
abbrev pub invariant-loop-c : goal.invariant-loop-c
invariant-loop-c l =
    IsUtf8 (chars_rest l.c-iterator)
    × (string_bytes l.shown ++ all_shown l.place (chars (chars_rest l.c-iterator)) ≡ escaped l.place l.text)
