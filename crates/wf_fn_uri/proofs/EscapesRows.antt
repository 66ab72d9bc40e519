-- Rows of the functions uriComponent, encodeUriComponent, uriComponentToString and decodeUriComponent.
use lib.Utf8.{encode}
use Rattle.percent_encoding.proofs.OnLiterals.{percent_encoding_on_literals}
use Rattle.std.proofs.Common.{◌≡◌, refl, [], ◌∷◌, Ok, Err}
use Rattle.std.specs.Str.{chars, is_utf8}
use Rattle.wf_fn_uri.specs.Escapes.{escaped_row, unescaped_row}
use Rattle.wf_val.proofs.RowValues.{plus, word}
use Rattle.wf_val.specs.ValueTree.{null, text}
use Rattle.wf_val.specs.declared.fault.EvalFault.{EvalFault}
use Rattle.wf_val.specs.declared.function.Fun.{Fun}

-- uriComponent
uri_component-example : escaped_row Fun.UriComponent (word "https://contoso.com" ∷ []) ≡ Ok (word "https%3A%2F%2Fcontoso.com")
unfolding percent_encoding_on_literals is_utf8 chars encode
uri_component-example = refl

uri_component-blank : escaped_row Fun.UriComponent (word "a b+c" ∷ []) ≡ Ok (word "a%20b%2Bc")
unfolding percent_encoding_on_literals is_utf8 chars encode
uri_component-blank = refl

uri_component-number : escaped_row Fun.UriComponent (plus 1 ∷ []) ≡ Err (EvalFault.WrongType Fun.UriComponent 1)
uri_component-number = refl

-- encodeUriComponent
encode_uri_component-example : escaped_row Fun.EncodeUriComponent (word "https://contoso.com" ∷ []) ≡ Ok (word "https%3A%2F%2Fcontoso.com")
unfolding percent_encoding_on_literals is_utf8 chars encode
encode_uri_component-example = refl

encode_uri_component-blank : escaped_row Fun.EncodeUriComponent (word "a b+c" ∷ []) ≡ Ok (word "a%20b%2Bc")
unfolding percent_encoding_on_literals is_utf8 chars encode
encode_uri_component-blank = refl

encode_uri_component-number : escaped_row Fun.EncodeUriComponent (plus 1 ∷ []) ≡ Err (EvalFault.WrongType Fun.EncodeUriComponent 1)
encode_uri_component-number = refl

-- all unreserved characters, and those beside them
uri_component-unreserved : escaped_row Fun.UriComponent (word "AZaz09-._~" ∷ []) ≡ Ok (word "AZaz09-._~")
unfolding percent_encoding_on_literals is_utf8 chars encode
uri_component-unreserved = refl

uri_component-letters_edges : escaped_row Fun.UriComponent (word "@[`{" ∷ []) ≡ Ok (word "%40%5B%60%7B")
unfolding percent_encoding_on_literals is_utf8 chars encode
uri_component-letters_edges = refl

uri_component-digits_edges : escaped_row Fun.UriComponent (word "/:" ∷ []) ≡ Ok (word "%2F%3A")
unfolding percent_encoding_on_literals is_utf8 chars encode
uri_component-digits_edges = refl

uri_component-reserved : escaped_row Fun.UriComponent (word "!*'();&=$,?#%" ∷ []) ≡ Ok (word "%21%2A%27%28%29%3B%26%3D%24%2C%3F%23%25")
unfolding percent_encoding_on_literals is_utf8 chars encode
uri_component-reserved = refl

uri_component-controls : escaped_row Fun.UriComponent (text (0 ∷ 10 ∷ 127 ∷ []) ∷ []) ≡ Ok (word "%00%0A%7F")
unfolding percent_encoding_on_literals is_utf8 chars encode
uri_component-controls = refl

uri_component-two_bytes : escaped_row Fun.UriComponent (text (195 ∷ 169 ∷ []) ∷ []) ≡ Ok (word "%C3%A9")
unfolding percent_encoding_on_literals is_utf8 chars encode
uri_component-two_bytes = refl

uri_component-four_bytes : escaped_row Fun.UriComponent (text (240 ∷ 159 ∷ 152 ∷ 128 ∷ []) ∷ []) ≡ Ok (word "%F0%9F%98%80")
unfolding percent_encoding_on_literals is_utf8 chars encode
uri_component-four_bytes = refl

uri_component-empty : escaped_row Fun.UriComponent (word "" ∷ []) ≡ Ok (word "")
unfolding percent_encoding_on_literals is_utf8 chars encode
uri_component-empty = refl

-- uriComponentToString
uri_component_to_string-example : unescaped_row Fun.UriComponentToString (word "https%3A%2F%2Fcontoso.com" ∷ [])
    ≡ Ok (word "https://contoso.com")
unfolding percent_encoding_on_literals is_utf8 chars encode
uri_component_to_string-example = refl

uri_component_to_string-no_utf8 : unescaped_row Fun.UriComponentToString (word "a%FF" ∷ [])
    ≡ Err (EvalFault.BadText Fun.UriComponentToString)
unfolding percent_encoding_on_literals is_utf8 chars encode
uri_component_to_string-no_utf8 = refl

uri_component_to_string-null : unescaped_row Fun.UriComponentToString (null ∷ []) ≡ Err (EvalFault.WrongType Fun.UriComponentToString 1)
uri_component_to_string-null = refl

-- decodeUriComponent
decode_uri_component-example : unescaped_row Fun.DecodeUriComponent (word "https%3A%2F%2Fcontoso.com" ∷ [])
    ≡ Ok (word "https://contoso.com")
unfolding percent_encoding_on_literals is_utf8 chars encode
decode_uri_component-example = refl

decode_uri_component-no_utf8 : unescaped_row Fun.DecodeUriComponent (word "a%FF" ∷ []) ≡ Err (EvalFault.BadText Fun.DecodeUriComponent)
unfolding percent_encoding_on_literals is_utf8 chars encode
decode_uri_component-no_utf8 = refl

decode_uri_component-null : unescaped_row Fun.DecodeUriComponent (null ∷ []) ≡ Err (EvalFault.WrongType Fun.DecodeUriComponent 1)
decode_uri_component-null = refl

-- what is no escape stays
uri_component_to_string-lone : unescaped_row Fun.UriComponentToString (word "100%" ∷ []) ≡ Ok (word "100%")
unfolding percent_encoding_on_literals is_utf8 chars encode
uri_component_to_string-lone = refl

uri_component_to_string-one_digit : unescaped_row Fun.UriComponentToString (word "%4" ∷ []) ≡ Ok (word "%4")
unfolding percent_encoding_on_literals is_utf8 chars encode
uri_component_to_string-one_digit = refl

uri_component_to_string-no_digit : unescaped_row Fun.UriComponentToString (word "%4g%g4" ∷ []) ≡ Ok (word "%4g%g4")
unfolding percent_encoding_on_literals is_utf8 chars encode
uri_component_to_string-no_digit = refl

uri_component_to_string-lone_before_escape : unescaped_row Fun.UriComponentToString (word "%%41" ∷ []) ≡ Ok (word "%A")
unfolding percent_encoding_on_literals is_utf8 chars encode
uri_component_to_string-lone_before_escape = refl

uri_component_to_string-lower_case : unescaped_row Fun.UriComponentToString (word "%4a%4A" ∷ []) ≡ Ok (word "JJ")
unfolding percent_encoding_on_literals is_utf8 chars encode
uri_component_to_string-lower_case = refl

uri_component_to_string-plus : unescaped_row Fun.UriComponentToString (word "a+b" ∷ []) ≡ Ok (word "a+b")
unfolding percent_encoding_on_literals is_utf8 chars encode
uri_component_to_string-plus = refl

uri_component_to_string-once : unescaped_row Fun.UriComponentToString (word "%2541" ∷ []) ≡ Ok (word "%41")
unfolding percent_encoding_on_literals is_utf8 chars encode
uri_component_to_string-once = refl

uri_component_to_string-not_again : unescaped_row Fun.UriComponentToString (word "%2%30" ∷ []) ≡ Ok (word "%20")
unfolding percent_encoding_on_literals is_utf8 chars encode
uri_component_to_string-not_again = refl

uri_component_to_string-two_bytes : unescaped_row Fun.UriComponentToString (word "%C3%a9" ∷ []) ≡ Ok (text (195 ∷ 169 ∷ []))
unfolding percent_encoding_on_literals is_utf8 chars encode
uri_component_to_string-two_bytes = refl

uri_component_to_string-half_a_letter : unescaped_row Fun.UriComponentToString (word "%C3" ∷ [])
    ≡ Err (EvalFault.BadText Fun.UriComponentToString)
unfolding percent_encoding_on_literals is_utf8 chars encode
uri_component_to_string-half_a_letter = refl

uri_component_to_string-surrogate : unescaped_row Fun.UriComponentToString (word "%ED%A0%80" ∷ [])
    ≡ Err (EvalFault.BadText Fun.UriComponentToString)
unfolding percent_encoding_on_literals is_utf8 chars encode
uri_component_to_string-surrogate = refl

uri_component_to_string-too_long_form : unescaped_row Fun.UriComponentToString (word "%C0%AF" ∷ [])
    ≡ Err (EvalFault.BadText Fun.UriComponentToString)
unfolding percent_encoding_on_literals is_utf8 chars encode
uri_component_to_string-too_long_form = refl

uri_component_to_string-empty : unescaped_row Fun.UriComponentToString (word "" ∷ []) ≡ Ok (word "")
unfolding percent_encoding_on_literals is_utf8 chars encode
uri_component_to_string-empty = refl
