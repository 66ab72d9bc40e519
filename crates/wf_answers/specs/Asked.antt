-- What is asked of a value.
use Rattle.std.specs.Prelude.{ℕ, pos, length, Bool, true, false, not, ◌&&◌, ◌||◌, ◌==◌, nat_le, bytes_eq, codes}
use Rattle.std.specs.List.{list_all}
use Rattle.std.specs.Str.{chars}
use Rattle.wf_val.specs.Get.{is_object}
use Rattle.wf_val.specs.ValueTree.{ValueTree, number, text, list, fits}

abbrev pub is_text : ValueTree → Bool
is_text (text s) = true
is_text t = false

abbrev pub is_list : ValueTree → Bool
is_list (list ts) = true
is_list t = false

abbrev pub is_fitting_object : ValueTree → Bool
is_fitting_object t = is_object t && fits t

-- A byte of a text that isn't a control character: those are U+0000 to U+001F and U+007F, one byte each in UTF-8, where
-- the bytes of longer characters are above them.
abbrev pub is_printable : ℕ → Bool
is_printable b = nat_le 32 b && not (b == 127)

-- a text of 1 to `most` characters, none of them a control character
abbrev pub is_name : ℕ → ValueTree → Bool
is_name most (text s) = nat_le 1 (length (chars s)) && nat_le (length (chars s)) most && list_all is_printable s
is_name most t = false

-- a number of a range, its ends included
abbrev pub is_within : ℕ → ℕ → ValueTree → Bool
is_within least most (number (pos n)) = nat_le least n && nat_le n most
is_within least most t = false

-- a number from 0
abbrev pub is_index : ValueTree → Bool
is_index (number (pos n)) = true
is_index t = false

-- what an attempt came to: a status code, that there was no connection, or that none came in time
abbrev pub is_status : ValueTree → Bool
is_status (number (pos n)) = nat_le 100 n && nat_le n 599
is_status (text s) = bytes_eq s (codes "noConnection") || bytes_eq s (codes "timedOut")
is_status t = false
