-- V4: names have their form, and an action's stands once in the whole definition.
use Rattle.std.specs.Prelude.{ℕ, List, length, Bool, false, not, ◌&&◌, ◌||◌, ◌==◌, nat_le}
use Rattle.std.specs.List.{list_all}
use Rattle.std.specs.Str.{chars}
use Rattle.wf_after.specs.Pointer.{here}
use Rattle.wf_form.specs.Whole.{Whole}
use Rattle.wf_form.specs.declared.role.Role.{Role}

-- a byte of a text that is no control character (below U+0020, or U+007F)
abbrev pub is_printable : ℕ → Bool
is_printable b = nat_le 32 b && not (b == 127)

-- 1 to 80 characters, none of them a control character
abbrev pub is_name : List ℕ → Bool
is_name s = nat_le 1 (length (chars s)) && nat_le (length (chars s)) 80 && list_all is_printable s

abbrev pub is_bad_name : Whole → Role → List ℕ → Bool
is_bad_name whole (Role.Action level) name = not (is_name name) || whole.repeats name
is_bad_name whole Role.Parameter name = not (is_name name)
is_bad_name whole Role.Trigger name = not (is_name name)
is_bad_name whole Role.Output name = not (is_name name)
is_bad_name whole (Role.Case level) name = not (is_name name)
is_bad_name whole role name = false

unfoldable pub naming : Whole → Role → List ℕ → List (List ℕ)
naming whole role name = here (is_bad_name whole role name)
