-- What the bytes of a file mean: a value, or why they are none.
use Rattle.std.specs.Prelude.{ℕ, ◌-◌, ◌^◌, suc, ℤ, pos, List, [], ◌∷◌, ◌++◌, drop, map, Bool, false, ◌==◌, nat_eq, nat_lt, if◌then◌else◌}
use Rattle.std.specs.Prelude.{Option, Some, None, is_none, unwrap_or, Result, Ok, Err}
use Rattle.std.specs.Str.{is_utf8}
use Rattle.std.specs.List.{starts_with}
use Rattle.serde_json.specs.Data as json
use Rattle.serde_json.specs.Read as reader
use Rattle.wf_val.specs.ValueTree as value
use Rattle.wf_json.specs.Pointer.{here, item_step, member_step, least}
use Rattle.wf_json.specs.declared.fault.JsonFault.{JsonFault}
use Rattle.wf_json.specs.declared.fault.Flaw.{Flaw}

-- ---- the JSON text

-- the byte order mark in UTF-8
abbrev pub mark : List ℕ
mark = 239 ∷ 187 ∷ 191 ∷ []

-- the bytes after one byte order mark, where one leads
abbrev pub after_mark : List ℕ → List ℕ
after_mark bytes = if starts_with nat_eq bytes mark then drop 3 bytes else bytes

-- the reading of bytes as a JSON text: they are UTF-8 and of the grammar of RFC 8259, lists and objects nest no deeper than 127,
-- each number's nearest float is finite, and of members with one name the last stands
abbrev pub json_of : List ℕ → Option json.Data
json_of bytes = if is_utf8 (after_mark bytes) then reader.read (after_mark bytes) else None

-- ---- its flaws

-- the whole number that a number is, where it is one of 64 bits with a sign; a number with a fraction or an exponent is read as a
-- float, and so are `-0` and what 64 bits can't hold
abbrev pub whole : json.Num → Option ℤ
whole (json.unsigned n) = if nat_lt n (2 ^ 63) then Some (pos n) else None
whole (json.negative z) = Some z
whole (json.float x) = None

-- whether a value is refused where it stands, with `room` for so many lists and objects in one another
abbrev pub has_flaw : Flaw → ℕ → json.Data → Bool
has_flaw Flaw.NotWhole room (json.number n) = is_none (whole n)
has_flaw Flaw.TooDeep room (json.array ds) = room == 0
has_flaw Flaw.TooDeep room (json.object ms) = room == 0
has_flaw flaw room d = false

-- the pointers, from a value on, of all places in it that have the flaw
abbrev mutual
  pub flawed_places : Flaw → ℕ → json.Data → List (List ℕ)
  flawed_places flaw room (json.array ds) = here (has_flaw flaw room (json.array ds)) ++ flawed_items flaw (room - 1) 0 ds
  flawed_places flaw room (json.object ms) = here (has_flaw flaw room (json.object ms)) ++ flawed_members flaw (room - 1) ms
  flawed_places flaw room d = here (has_flaw flaw room d)

  pub flawed_items : Flaw → ℕ → ℕ → json.Items → List (List ℕ)
  flawed_items flaw room place json.no_items = []
  flawed_items flaw room place (json.item d ds) =
      map (λ p. item_step place ++ p) (flawed_places flaw room d) ++ flawed_items flaw room (suc place) ds

  pub flawed_members : Flaw → ℕ → json.Members → List (List ℕ)
  flawed_members flaw room json.no_members = []
  flawed_members flaw room (json.member k d ms) = map (λ p. member_step k ++ p) (flawed_places flaw room d) ++ flawed_members flaw room ms

-- how many lists and objects may stand in one another
abbrev pub greatest_nesting : ℕ
greatest_nesting = 120

-- the least pointer of the flaw; a list or an object deeper than nesting 121 lies in one at 121, whose pointer is less
abbrev pub least_flaw : Flaw → json.Data → Option (List ℕ)
least_flaw flaw d = least (flawed_places flaw greatest_nesting d)

-- ---- its value

-- the value of a tree without flaws: a number that isn't whole has none, and is refused before its value is asked
abbrev mutual
  pub value_of : json.Data → value.ValueTree
  value_of json.null = value.null
  value_of (json.boolean b) = value.boolean b
  value_of (json.number n) = value.number (unwrap_or (whole n) (pos 0))
  value_of (json.string s) = value.text s
  value_of (json.array ds) = value.list (values_of ds)
  value_of (json.object ms) = value.object (members_of ms)

  pub values_of : json.Items → value.ValueTrees
  values_of json.no_items = value.no_values
  values_of (json.item d ds) = value.value_then (value_of d) (values_of ds)

  pub members_of : json.Members → value.MemberTrees
  members_of json.no_members = value.no_members
  members_of (json.member k d ms) = value.member_then k (value_of d) (members_of ms)

-- ---- the answer

-- the value, where there are no pointers of flaws; a number that isn't whole is named before what is too deep
abbrev pub value_unless : Option (List ℕ) → Option (List ℕ) → value.ValueTree → Result value.ValueTree JsonFault
value_unless (Some p) deep v = Err (JsonFault.NotWhole p)
value_unless None (Some p) v = Err (JsonFault.TooDeep p)
value_unless None None v = Ok v

abbrev pub read_json : Option json.Data → Result value.ValueTree JsonFault
read_json None = Err JsonFault.NotJson
read_json (Some d) = value_unless (least_flaw Flaw.NotWhole d) (least_flaw Flaw.TooDeep d) (value_of d)

-- what the bytes mean
abbrev pub read_value : List ℕ → Result value.ValueTree JsonFault
read_value bytes = read_json (json_of bytes)
