-- WHAT IS MADE OF A WORD: identifiers and numbers (Workflow Definition Language, reference of the functions in expressions, `guid`
-- and `rand`). All that the arguments can be refused for comes before a word is drawn.
use Rattle.std.specs.Prelude.{ℕ, ◌%◌, ℤ, pos, ◌+ℤ◌, ◌-ℤ◌, int_lt, unsigned_abs, List, [], ◌∷◌, ◌++◌, length, take, Option, Some, None}
use Rattle.std.specs.Prelude.{Result, Ok, Err, codes, bytes_eq, if◌then◌else◌}
use Rattle.std.specs.Int.{w64, from_be_bytes}
use Rattle.uuid.specs.Parts.{with_version, with_variant}
use Rattle.uuid.specs.Text.{lower, simple_text, hyphenated_text, braced_text}
use Rattle.uuid.specs.declared.Variant.{Variant}
use Rattle.uuid.specs.declared.Version.{Version}
use Rattle.wf_val.specs.Arguments.{given, wrong_type, number_at, optional_text_at}
use Rattle.wf_val.specs.Arity.{takes}
use Rattle.wf_val.specs.ValueTree.{ValueTree, number, text}
use Rattle.wf_val.specs.declared.fault.EvalFault.{EvalFault}
use Rattle.wf_val.specs.declared.function.Fun.{Fun}
use Rattle.wf_functions.specs.declared.draw.Draw.{Draw}
use Rattle.wf_functions.specs.declared.draw.GuidForm.{GuidForm}

-- ---- what the arguments ask for

-- the form of an identifier that a text names; letter case counts
abbrev pub form_named : List ℕ → Result GuidForm EvalFault
form_named s =
    if bytes_eq s (codes "D") then Ok GuidForm.Dashed
    else (if bytes_eq s (codes "N") then Ok GuidForm.Digits
    else (if bytes_eq s (codes "B") then Ok GuidForm.Braced
    else (if bytes_eq s (codes "P") then Ok GuidForm.Parenthesized else Err (EvalFault.Range Fun.Guid))))

-- by default it has dashes
abbrev pub form_or_default : Option (List ℕ) → Result GuidForm EvalFault
form_or_default (Some s) = form_named s
form_or_default None = Ok GuidForm.Dashed

abbrev pub form_of : List ValueTree → Result GuidForm EvalFault
form_of ts = given (optional_text_at Fun.Guid ts 0) form_or_default

-- the numbers from the first argument on, below the second; there has to be one
abbrev pub bounds : ℤ → ℤ → Result (ℤ × ℤ) EvalFault
bounds least end = if int_lt least end then Ok (least, end) else Err (EvalFault.Range Fun.Rand)

abbrev pub bounds_of : List ValueTree → Result (ℤ × ℤ) EvalFault
bounds_of ts = given (number_at Fun.Rand ts 0) (λ least. given (number_at Fun.Rand ts 1) (λ end. bounds least end))

-- what a function makes of the next word; `guid` and `rand` are the functions that draw one
abbrev pub draw_by : Fun → List ValueTree → Result Draw EvalFault
draw_by Fun.Guid ts = given (form_of ts) (λ form. Ok (Draw.Guid form))
draw_by f ts = given (bounds_of ts) (λ b. Ok (Draw.Number b))

abbrev pub draw_of : Fun → List ValueTree → Result Draw EvalFault
draw_of f ts = if takes f (length ts) then draw_by f ts else Err (wrong_type f (length ts))

-- ---- what is made of a word

-- the version 4 identifier (RFC 9562, section 5.4) of the word's first 16 bytes
abbrev pub identifier : List ℕ → List ℕ
identifier word = with_version (with_variant (take 16 word) Variant.RFC4122) Version.Random

-- an identifier as text, in lower case
abbrev pub guid_text : GuidForm → List ℕ → List ℕ
guid_text GuidForm.Dashed id = hyphenated_text lower id
guid_text GuidForm.Digits id = simple_text lower id
guid_text GuidForm.Braced id = braced_text lower id
guid_text GuidForm.Parenthesized id = (40 ∷ []) ++ hyphenated_text lower id ++ 41 ∷ []

-- the number that the word's first 8 bytes fall on, the first byte being the highest: these bytes, as a number, leave their
-- remainder by the width of the bounds, which may be past 2^63
abbrev pub number_in : ℤ × ℤ → List ℕ → ℤ
number_in b word = b.0 +ℤ pos (from_be_bytes w64 (take 8 word) % unsigned_abs (b.1 -ℤ b.0))

abbrev pub made : Draw → List ℕ → ValueTree
made (Draw.Guid form) word = text (guid_text form (identifier word))
made (Draw.Number b) word = number (number_in b word)
