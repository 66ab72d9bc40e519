-- The JSON text of a value (RFC 8259), without white space, and with the members in the byte order of their names.
use Rattle.std.specs.Prelude.{ℕ, ◌/◌, ◌%◌, List, [], ◌∷◌, ◌++◌, true, false, ◌==◌, nat_lt, if◌then◌else◌, codes, flat_map}
use Rattle.std.specs.Char.{digit_char}
use Rattle.std.specs.Fmt.{signed_decimal}
use Rattle.wf_val.specs.ValueTree as value

-- what stands for a byte in a string (section 7): the short escapes of the quotation mark, the backslash and five control characters,
-- four hexadecimal digits for the other control characters, and the byte itself for all else
abbrev pub escaped : ℕ → List ℕ
escaped x =
    if x == 34 then codes "\\\"" else
    (if x == 92 then codes "\\\\" else
    (if x == 8 then codes "\\b" else
    (if x == 12 then codes "\\f" else
    (if x == 10 then codes "\\n" else
    (if x == 13 then codes "\\r" else
    (if x == 9 then codes "\\t" else
    (if nat_lt x 32 then codes "\\u00" ++ (digit_char (x / 16) ∷ digit_char (x % 16) ∷ []) else
    (x ∷ []))))))))

-- a string, between quotation marks
abbrev pub string : List ℕ → List ℕ
string s = 34 ∷ (flat_map escaped s ++ 34 ∷ [])

-- an array is `[`, perhaps a value and more values, each after a comma, and `]`; an object is the same with `{`, members and `}`
-- (sections 4 and 5)
abbrev mutual
  pub json : value.ValueTree → List ℕ
  json value.null = codes "null"
  json (value.boolean true) = codes "true"
  json (value.boolean false) = codes "false"
  json (value.number n) = signed_decimal n
  json (value.text s) = string s
  json (value.list ts) = 91 ∷ (values ts ++ 93 ∷ [])
  json (value.object ms) = 123 ∷ (members ms ++ 125 ∷ [])

  pub values : value.ValueTrees → List ℕ
  values value.no_values = []
  values (value.value_then t ts) = json t ++ more_values ts

  pub more_values : value.ValueTrees → List ℕ
  more_values value.no_values = []
  more_values (value.value_then t ts) = 44 ∷ (json t ++ more_values ts)

  pub members : value.MemberTrees → List ℕ
  members value.no_members = []
  members (value.member_then k t ms) = string k ++ (58 ∷ (json t ++ more_members ms))

  pub more_members : value.MemberTrees → List ℕ
  more_members value.no_members = []
  more_members (value.member_then k t ms) = 44 ∷ (string k ++ (58 ∷ (json t ++ more_members ms)))

-- a value as text: a text is itself, null is empty, and all else is its JSON text
abbrev pub text : value.ValueTree → List ℕ
text (value.text s) = s
text value.null = []
text t = json t
