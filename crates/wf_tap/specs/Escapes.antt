-- How a text stands in a report, character by character (Unicode scalar values).
use Rattle.std.specs.Prelude.{ℕ, List, [], ◌∷◌, codes, Bool, ◌||◌, ◌==◌, nat_lt, if◌then◌else◌, flat_map, Option, Some, None, unwrap_or}
use Rattle.std.specs.Char.{encode_utf8}
use Rattle.std.specs.Str.{chars}
use Rattle.wf_tap.specs.declared.escapes.Place.{Place}

-- a control character, such as the end of a line
abbrev pub is_control : ℕ → Bool
is_control c = nat_lt c 32 || c == 127

-- XML 1.0 may not write it (production 2), not even escaped; of what is below 32 it may write three, which have references of their own
-- here
abbrev pub is_forbidden : ℕ → Bool
is_forbidden c = nat_lt c 32 || (c == 65534 || c == 65535)

-- U+FFFD, the replacement character, stands for what is forbidden
abbrev pub not_forbidden : ℕ → Option (List ℕ)
not_forbidden c = if is_forbidden c then Some (239 ∷ 191 ∷ 189 ∷ []) else None

-- what stands for a character, where it doesn't stand for itself: an entity for what begins a tag, an entity or the end of an attribute,
-- and a number for the white space that a reader of attributes would make into spaces
abbrev pub in_xml : ℕ → Option (List ℕ)
in_xml c =
    if c == 60 then Some (codes "&lt;") else
    (if c == 62 then Some (codes "&gt;") else
    (if c == 38 then Some (codes "&amp;") else
    (if c == 34 then Some (codes "&quot;") else
    (if c == 9 then Some (codes "&#9;") else
    (if c == 10 then Some (codes "&#10;") else
    (if c == 13 then Some (codes "&#13;") else not_forbidden c))))))

-- a space stands for a control character, so that a line stays one
abbrev pub in_line : ℕ → Option (List ℕ)
in_line c = if is_control c then Some (codes " ") else None

-- in a description TAP 14 has an escape for the sign that begins a directive, and for the sign of escapes
abbrev pub in_name : ℕ → Option (List ℕ)
in_name c = if c == 35 then Some (codes "\\#") else (if c == 92 then Some (codes "\\\\") else in_line c)

abbrev pub replaced : Place → ℕ → Option (List ℕ)
replaced Place.Name c = in_name c
replaced Place.Line c = in_line c
replaced Place.Xml c = in_xml c

abbrev pub shown : Place → ℕ → List ℕ
shown place c = unwrap_or (replaced place c) (encode_utf8 c)

-- characters as they stand there
abbrev pub all_shown : Place → List ℕ → List ℕ
all_shown place cs = flat_map (shown place) cs

-- a text as it stands there
abbrev pub escaped : Place → List ℕ → List ℕ
escaped place s = all_shown place (chars s)
