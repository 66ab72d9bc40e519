-- Base64 (RFC 4648, section 4) and data URLs (RFC 2397; Workflow Definition Language, conversion functions base64,
-- base64ToString, decodeBase64, dataUri and dataUriToString).
use Rattle.std.specs.Prelude.{ℕ, Bool, ◌&&◌, ◌==◌, List, ◌++◌, Option, Some, None, Result, Ok, Err, codes, drop, length, nat_eq, nat_lt}
use Rattle.std.specs.Prelude.{if◌then◌else◌}
use Rattle.std.specs.List.{starts_with, ends_with, position_or_len, before_first, after_first}
use Rattle.base64.specs.GeneralPurpose.{encode_of, decode_of}
use Rattle.base64.specs.Engines.{standard}
use Rattle.wf_val.specs.Arguments.{Answer, given, text_at, bounded}
use Rattle.wf_val.specs.ValueTree.{ValueTree, text}
use Rattle.wf_val.specs.declared.fault.EvalFault.{EvalFault}
use Rattle.wf_val.specs.declared.function.Fun.{Fun}
use Rattle.wf_fn_uri.specs.Escapes.{utf8_or_bad}

-- the bytes of the text in the standard alphabet, with padding
abbrev pub base64_row : List ValueTree → Answer
base64_row ts = given (text_at Fun.Base64 ts 0) (λ s. bounded (text (encode_of standard s)))

-- what was decoded, as a text
abbrev pub decoded_or_bad : {E : Type 0} → Fun → Result (List ℕ) E → Answer
decoded_or_bad f (Ok bytes) = utf8_or_bad f bytes
decoded_or_bad f (Err e) = Err (EvalFault.BadText f)

-- the text of an encoding
abbrev pub from_base64_row : Fun → List ValueTree → Answer
from_base64_row f ts = given (text_at f ts 0) (λ s. decoded_or_bad f (decode_of standard s))

-- a data URL of the text
abbrev pub data_uri_row : List ValueTree → Answer
data_uri_row ts = given (text_at Fun.DataUri ts 0) (λ s. bounded (text
    (codes "data:text/plain;charset=utf-8;base64," ++ encode_of standard s)))

-- what stands behind the scheme of a data URL
abbrev pub behind_scheme : List ℕ → Option (List ℕ)
behind_scheme s = if starts_with nat_eq s (codes "data:") then Some (drop 5 s) else None

abbrev pub is_comma : ℕ → Bool
is_comma b = b == 44

-- what stands behind the first comma, where `;base64` stands right before it
abbrev pub behind_comma : List ℕ → Option (List ℕ)
behind_comma s =
    if (nat_lt (position_or_len is_comma s) (length s) && ends_with nat_eq (before_first is_comma s) (codes ";base64")) then Some
    (after_first is_comma s) else None

-- the encoding that a data URL carries
abbrev pub encoded_part : Option (List ℕ) → Option (List ℕ)
encoded_part (Some s) = behind_comma s
encoded_part None = None

abbrev pub encoding_or_bad : Option (List ℕ) → Answer
encoding_or_bad (Some s) = decoded_or_bad Fun.DataUriToString (decode_of standard s)
encoding_or_bad None = Err (EvalFault.BadText Fun.DataUriToString)

-- the text of the encoding that a data URL carries
abbrev pub from_data_uri_row : List ValueTree → Answer
from_data_uri_row ts = given (text_at Fun.DataUriToString ts 0) (λ s. encoding_or_bad (encoded_part (behind_scheme s)))
