-- Rows of the functions base64, base64ToString, decodeBase64, dataUri and dataUriToString.
use lib.Utf8.{encode}
use Rattle.base64.proofs.OnLiterals.{base64_on_literals}
use Rattle.std.proofs.Common.{◌≡◌, refl, [], ◌∷◌, Ok, Err}
use Rattle.std.specs.Str.{chars, is_utf8}
use Rattle.wf_fn_uri.specs.Encodings.{base64_row, from_base64_row, data_uri_row, from_data_uri_row}
use Rattle.wf_val.proofs.RowValues.{yes, plus, word, items}
use Rattle.wf_val.specs.ValueTree.{null, text}
use Rattle.wf_val.specs.declared.fault.EvalFault.{EvalFault}
use Rattle.wf_val.specs.declared.function.Fun.{Fun}

-- base64
base64-example : base64_row (word "hello" ∷ []) ≡ Ok (word "aGVsbG8=")
unfolding base64_on_literals is_utf8 chars encode
base64-example = refl

base64-two_left : base64_row (word "f" ∷ []) ≡ Ok (word "Zg==")
unfolding base64_on_literals is_utf8 chars encode
base64-two_left = refl

base64-one_left : base64_row (word "fo" ∷ []) ≡ Ok (word "Zm8=")
unfolding base64_on_literals is_utf8 chars encode
base64-one_left = refl

base64-none_left : base64_row (word "foo" ∷ []) ≡ Ok (word "Zm9v")
unfolding base64_on_literals is_utf8 chars encode
base64-none_left = refl

base64-more : base64_row (word "foobar" ∷ []) ≡ Ok (word "Zm9vYmFy")
unfolding base64_on_literals is_utf8 chars encode
base64-more = refl

base64-empty : base64_row (word "" ∷ []) ≡ Ok (word "")
unfolding base64_on_literals is_utf8 chars encode
base64-empty = refl

base64-last_symbols : base64_row (text (195 ∷ 191 ∷ 126 ∷ 63 ∷ []) ∷ []) ≡ Ok (word "w79+Pw==")
unfolding base64_on_literals is_utf8 chars encode
base64-last_symbols = refl

base64-slash : base64_row (word "???" ∷ []) ≡ Ok (word "Pz8/")
unfolding base64_on_literals is_utf8 chars encode
base64-slash = refl

base64-number : base64_row (plus 1 ∷ []) ≡ Err (EvalFault.WrongType Fun.Base64 1)
base64-number = refl

-- base64ToString
base64_to_string-example : from_base64_row Fun.Base64ToString (word "aGVsbG8=" ∷ []) ≡ Ok (word "hello")
unfolding base64_on_literals is_utf8 chars encode
base64_to_string-example = refl

base64_to_string-no_padding : from_base64_row Fun.Base64ToString (word "aGVsbG8" ∷ []) ≡ Err (EvalFault.BadText Fun.Base64ToString)
unfolding base64_on_literals is_utf8 chars encode
base64_to_string-no_padding = refl

base64_to_string-list : from_base64_row Fun.Base64ToString (items [] ∷ []) ≡ Err (EvalFault.WrongType Fun.Base64ToString 1)
base64_to_string-list = refl

-- decodeBase64
decode_base64-example : from_base64_row Fun.DecodeBase64 (word "aGVsbG8=" ∷ []) ≡ Ok (word "hello")
unfolding base64_on_literals is_utf8 chars encode
decode_base64-example = refl

decode_base64-no_padding : from_base64_row Fun.DecodeBase64 (word "aGVsbG8" ∷ []) ≡ Err (EvalFault.BadText Fun.DecodeBase64)
unfolding base64_on_literals is_utf8 chars encode
decode_base64-no_padding = refl

decode_base64-list : from_base64_row Fun.DecodeBase64 (items [] ∷ []) ≡ Err (EvalFault.WrongType Fun.DecodeBase64 1)
decode_base64-list = refl

-- what is no encoding
base64_to_string-empty : from_base64_row Fun.Base64ToString (word "" ∷ []) ≡ Ok (word "")
unfolding base64_on_literals is_utf8 chars encode
base64_to_string-empty = refl

base64_to_string-two_pads : from_base64_row Fun.Base64ToString (word "Zg==" ∷ []) ≡ Ok (word "f")
unfolding base64_on_literals is_utf8 chars encode
base64_to_string-two_pads = refl

base64_to_string-one_pad_short : from_base64_row Fun.Base64ToString (word "Zg=" ∷ []) ≡ Err (EvalFault.BadText Fun.Base64ToString)
unfolding base64_on_literals is_utf8 chars encode
base64_to_string-one_pad_short = refl

base64_to_string-one_pad_more : from_base64_row Fun.Base64ToString (word "Zg===" ∷ []) ≡ Err (EvalFault.BadText Fun.Base64ToString)
unfolding base64_on_literals is_utf8 chars encode
base64_to_string-one_pad_more = refl

base64_to_string-pad_alone : from_base64_row Fun.Base64ToString (word "=" ∷ []) ≡ Err (EvalFault.BadText Fun.Base64ToString)
unfolding base64_on_literals is_utf8 chars encode
base64_to_string-pad_alone = refl

base64_to_string-bits_left : from_base64_row Fun.Base64ToString (word "Zh==" ∷ []) ≡ Err (EvalFault.BadText Fun.Base64ToString)
unfolding base64_on_literals is_utf8 chars encode
base64_to_string-bits_left = refl

base64_to_string-blank : from_base64_row Fun.Base64ToString (word "Zm9v " ∷ []) ≡ Err (EvalFault.BadText Fun.Base64ToString)
unfolding base64_on_literals is_utf8 chars encode
base64_to_string-blank = refl

base64_to_string-line_end : from_base64_row Fun.Base64ToString (text (90 ∷ 109 ∷ 57 ∷ 118 ∷ 10 ∷ []) ∷ [])
    ≡ Err (EvalFault.BadText Fun.Base64ToString)
unfolding base64_on_literals is_utf8 chars encode
base64_to_string-line_end = refl

base64_to_string-other_alphabet : from_base64_row Fun.Base64ToString (word "w79-Pw==" ∷ []) ≡ Err (EvalFault.BadText Fun.Base64ToString)
unfolding base64_on_literals is_utf8 chars encode
base64_to_string-other_alphabet = refl

base64_to_string-behind_padding : from_base64_row Fun.Base64ToString (word "Zg==Zg==" ∷ []) ≡ Err (EvalFault.BadText Fun.Base64ToString)
unfolding base64_on_literals is_utf8 chars encode
base64_to_string-behind_padding = refl

base64_to_string-one_symbol : from_base64_row Fun.Base64ToString (word "Zm9vY" ∷ []) ≡ Err (EvalFault.BadText Fun.Base64ToString)
unfolding base64_on_literals is_utf8 chars encode
base64_to_string-one_symbol = refl

base64_to_string-no_utf8 : from_base64_row Fun.Base64ToString (word "/w==" ∷ []) ≡ Err (EvalFault.BadText Fun.Base64ToString)
unfolding base64_on_literals is_utf8 chars encode
base64_to_string-no_utf8 = refl

base64_to_string-half_a_letter : from_base64_row Fun.Base64ToString (word "w7==" ∷ []) ≡ Err (EvalFault.BadText Fun.Base64ToString)
unfolding base64_on_literals is_utf8 chars encode
base64_to_string-half_a_letter = refl

-- dataUri
data_uri-example : data_uri_row (word "hello" ∷ []) ≡ Ok (word "data:text/plain;charset=utf-8;base64,aGVsbG8=")
unfolding base64_on_literals is_utf8 chars encode
data_uri-example = refl

data_uri-empty : data_uri_row (word "" ∷ []) ≡ Ok (word "data:text/plain;charset=utf-8;base64,")
unfolding base64_on_literals is_utf8 chars encode
data_uri-empty = refl

data_uri-truth : data_uri_row (yes ∷ []) ≡ Err (EvalFault.WrongType Fun.DataUri 1)
data_uri-truth = refl

-- dataUriToString
data_uri_to_string-example : from_data_uri_row (word "data:text/plain;charset=utf-8;base64,aGVsbG8=" ∷ []) ≡ Ok (word "hello")
unfolding base64_on_literals is_utf8 chars encode
data_uri_to_string-example = refl

data_uri_to_string-no_kind : from_data_uri_row (word "data:;base64,aGk=" ∷ []) ≡ Ok (word "hi")
unfolding base64_on_literals is_utf8 chars encode
data_uri_to_string-no_kind = refl

data_uri_to_string-other_kind : from_data_uri_row (word "data:application/json;base64,e30=" ∷ []) ≡ Ok (word "{}")
unfolding base64_on_literals is_utf8 chars encode
data_uri_to_string-other_kind = refl

data_uri_to_string-nothing : from_data_uri_row (word "data:;base64," ∷ []) ≡ Ok (word "")
unfolding base64_on_literals is_utf8 chars encode
data_uri_to_string-nothing = refl

data_uri_to_string-no_base64 : from_data_uri_row (word "data:,hello" ∷ []) ≡ Err (EvalFault.BadText Fun.DataUriToString)
unfolding base64_on_literals is_utf8 chars encode
data_uri_to_string-no_base64 = refl

data_uri_to_string-percent : from_data_uri_row (word "data:text/plain,hello" ∷ []) ≡ Err (EvalFault.BadText Fun.DataUriToString)
unfolding base64_on_literals is_utf8 chars encode
data_uri_to_string-percent = refl

data_uri_to_string-upper_scheme : from_data_uri_row (word "DATA:;base64,aGk=" ∷ []) ≡ Err (EvalFault.BadText Fun.DataUriToString)
unfolding base64_on_literals is_utf8 chars encode
data_uri_to_string-upper_scheme = refl

data_uri_to_string-upper_base64 : from_data_uri_row (word "data:;BASE64,aGk=" ∷ []) ≡ Err (EvalFault.BadText Fun.DataUriToString)
unfolding base64_on_literals is_utf8 chars encode
data_uri_to_string-upper_base64 = refl

data_uri_to_string-base64_before : from_data_uri_row (word "data:;base64;charset=utf-8,aGk=" ∷ [])
    ≡ Err (EvalFault.BadText Fun.DataUriToString)
unfolding base64_on_literals is_utf8 chars encode
data_uri_to_string-base64_before = refl

data_uri_to_string-no_semicolon : from_data_uri_row (word "data:base64,aGk=" ∷ []) ≡ Err (EvalFault.BadText Fun.DataUriToString)
unfolding base64_on_literals is_utf8 chars encode
data_uri_to_string-no_semicolon = refl

data_uri_to_string-first_comma : from_data_uri_row (word "data:a,b;base64,aGk=" ∷ []) ≡ Err (EvalFault.BadText Fun.DataUriToString)
unfolding base64_on_literals is_utf8 chars encode
data_uri_to_string-first_comma = refl

data_uri_to_string-second_comma : from_data_uri_row (word "data:;base64,a,Gk=" ∷ []) ≡ Err (EvalFault.BadText Fun.DataUriToString)
unfolding base64_on_literals is_utf8 chars encode
data_uri_to_string-second_comma = refl

data_uri_to_string-no_comma : from_data_uri_row (word "data:;base64" ∷ []) ≡ Err (EvalFault.BadText Fun.DataUriToString)
unfolding base64_on_literals is_utf8 chars encode
data_uri_to_string-no_comma = refl

data_uri_to_string-no_scheme : from_data_uri_row (word ";base64,aGk=" ∷ []) ≡ Err (EvalFault.BadText Fun.DataUriToString)
unfolding base64_on_literals is_utf8 chars encode
data_uri_to_string-no_scheme = refl

data_uri_to_string-blank_before : from_data_uri_row (word " data:;base64,aGk=" ∷ []) ≡ Err (EvalFault.BadText Fun.DataUriToString)
unfolding base64_on_literals is_utf8 chars encode
data_uri_to_string-blank_before = refl

data_uri_to_string-empty : from_data_uri_row (word "" ∷ []) ≡ Err (EvalFault.BadText Fun.DataUriToString)
unfolding base64_on_literals is_utf8 chars encode
data_uri_to_string-empty = refl

data_uri_to_string-bad_encoding : from_data_uri_row (word "data:;base64,aGk" ∷ []) ≡ Err (EvalFault.BadText Fun.DataUriToString)
unfolding base64_on_literals is_utf8 chars encode
data_uri_to_string-bad_encoding = refl

data_uri_to_string-no_utf8 : from_data_uri_row (word "data:;base64,/w==" ∷ []) ≡ Err (EvalFault.BadText Fun.DataUriToString)
unfolding base64_on_literals is_utf8 chars encode
data_uri_to_string-no_utf8 = refl

data_uri_to_string-null : from_data_uri_row (null ∷ []) ≡ Err (EvalFault.WrongType Fun.DataUriToString 1)
data_uri_to_string-null = refl
