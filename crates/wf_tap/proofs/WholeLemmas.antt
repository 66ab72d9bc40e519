-- No line of a report has a control character.
use Rattle.std.proofs.Common.{◌≡◌, ℕ, zero, suc, ◌+◌, ◌/◌, ◌%◌, ◌<◌, ◌≤◌, List, [], ◌∷◌, ◌++◌, length, get_or, map}
use Rattle.std.proofs.Common.{flat_map, Bool, true, false, cond, not, ◌&&◌, ◌||◌, ◌==◌, nat_lt, Option, Some, None, ℤ, pos, negsuc}
use Rattle.std.proofs.Common.{refl, sym, ap, ap₂, ◌∙◌, arith, append-nil, ltb-true, inl, inr, unwrap_or}
use Rattle.std.proofs.lemmas.Bool.{cases_lt}
use Rattle.std.proofs.lemmas.List.Folds.{list_all-append}
use Rattle.std.proofs.lemmas.Str.{encode_ascii, inside_one}
use Rattle.std.specs.Char.{digit_char, encode_utf8}
use Rattle.std.specs.Fmt.{digit_glyph, digits, digits_onto, signed_decimal}
use Rattle.std.specs.List.{list_all}
use Rattle.std.specs.Prelude.{codes, decimal}
use Rattle.std.specs.Str.{chars}
use Rattle.wf_json.specs.Json.{escaped as json_escaped, json, values, more_values, members as json_members, more_members, string}
use Rattle.wf_match.specs.Told.{told}
use Rattle.wf_tap.specs.Escapes.{escaped, in_line, in_name, is_control, shown}
use Rattle.wf_tap.specs.Laws.{is_one_line}
use Rattle.wf_tap.specs.Lines.{failure_line, found_text}
use Rattle.wf_tap.specs.Tap.{comment_line, comment_lines, file_lines, lines_from, point_line, points, tap_lines, verdict, Point}
use Rattle.wf_tap.specs.declared.escapes.Place.{Place}
use Rattle.wf_tap.specs.declared.report.Failure.{Failure}
use Rattle.wf_tap.specs.declared.report.Outcome.{Outcome}
use Rattle.wf_tap.specs.declared.report.Results.{Results}
use Rattle.wf_val.specs.ValueTree.{ValueTree, null, boolean, number, text, list, object}
use Rattle.wf_val.specs.ValueTree.{ValueTrees, no_values, value_then, MemberTrees, no_members, member_then}

abbrev is_plain : ℕ → Bool
is_plain x = not (nat_lt x 32)

plain_from : (x : ℕ) → 32 ≤ x → is_plain x ≡ true
plain_from x high = at (nat_lt x 32) refl
  where
    at : (b : Bool) → nat_lt x 32 ≡ b → not b ≡ true
    at true is = absurd (omega (arith, ltb-true x 32 is, high))
    at false is = refl

both : (xs ys : List ℕ) → is_one_line xs ≡ true → is_one_line ys ≡ true → is_one_line (xs ++ ys) ≡ true
both xs ys one two = list_all-append is_plain xs ys ∙ ap₂ (λ a b. a && b) one two

first_plain : (x : ℕ) (xs : List ℕ) → is_plain x ≡ true → is_one_line xs ≡ true → is_one_line (x ∷ xs) ≡ true
first_plain x xs one two = ap₂ (λ a b. a && b) one two

each_plain : {X : Type 0} (f : X → List ℕ) → ((x : X) → is_one_line (f x) ≡ true) → (xs : List X) → is_one_line (flat_map f xs) ≡ true
each_plain f one [] = refl
each_plain f one (x ∷ xs) = both (f x) (flat_map f xs) (one x) (each_plain f one xs)

-- ---- numbers

glyph_plain : (d : ℕ) → is_plain (digit_glyph false d) ≡ true
glyph_plain d = at (nat_lt d 10)
  where
    at : (b : Bool) → is_plain (cond b (48 + d) (87 + d)) ≡ true
    at true = plain_from (48 + d) (omega arith)
    at false = plain_from (87 + d) (omega arith)

onto_plain : (k n : ℕ) (acc : List ℕ) → is_one_line acc ≡ true → is_one_line (digits_onto k 10 false n acc) ≡ true
onto_plain zero n acc plain = plain
onto_plain (suc k) n acc plain =
    let here = first_plain (digit_glyph false (n % 10)) acc (glyph_plain (n % 10)) plain in
    at (n / 10 == 0) here (onto_plain k (n / 10) (digit_glyph false (n % 10) ∷ acc) here)
  where
    at : (b : Bool) → is_one_line (digit_glyph false (n % 10) ∷ acc) ≡ true
        → is_one_line (digits_onto k 10 false (n / 10) (digit_glyph false (n % 10) ∷ acc)) ≡ true
        → is_one_line (cond b (digit_glyph false (n % 10) ∷ acc) (digits_onto k 10 false (n / 10)
        (digit_glyph false (n % 10) ∷ acc))) ≡ true
    at true one two = one
    at false one two = two

decimal_plain : (n : ℕ) → is_one_line (decimal n) ≡ true
unfolding digits
decimal_plain n = onto_plain 64 n [] refl

signed_plain : (n : ℤ) → is_one_line (signed_decimal n) ≡ true
signed_plain (pos n) = decimal_plain n
signed_plain (negsuc n) = first_plain 45 (decimal (suc n)) refl (decimal_plain (suc n))

-- ---- texts in JSON

hex_plain : (d : ℕ) → is_plain (digit_char d) ≡ true
hex_plain d = at (nat_lt d 10)
  where
    at : (b : Bool) → is_plain (cond b (48 + d) (87 + d)) ≡ true
    at true = plain_from (48 + d) (omega arith)
    at false = plain_from (87 + d) (omega arith)

skip : (b : Bool) (one two : List ℕ) → is_one_line one ≡ true → is_one_line two ≡ true → is_one_line (cond b one two) ≡ true
skip true one two first second = first
skip false one two first second = second

byte_plain : (x : ℕ) → is_one_line (json_escaped x) ≡ true
byte_plain x =
    skip (x == 34) _ _ refl (skip (x == 92) _ _ refl (skip (x == 8) _ _ refl (skip (x == 12) _ _ refl (skip (x == 10) _ _ refl
    (skip (x == 13) _ _ refl (skip (x == 9) _ _ refl (at (nat_lt x 32) refl)))))))
  where
    at : (b : Bool) → nat_lt x 32 ≡ b
        → is_one_line (cond b (codes "\\u00" ++ (digit_char (x / 16) ∷ digit_char (x % 16) ∷ [])) (x ∷ [])) ≡ true
    at true is =
        both (codes "\\u00") (digit_char (x / 16) ∷ digit_char (x % 16) ∷ []) refl
        (first_plain (digit_char (x / 16)) (digit_char (x % 16) ∷ []) (hex_plain (x / 16))
        (first_plain (digit_char (x % 16)) [] (hex_plain (x % 16)) refl))
    at false is = first_plain x [] (ap not is) refl

string_plain : (s : List ℕ) → is_one_line (string s) ≡ true
string_plain s =
    first_plain 34 (flat_map json_escaped s ++ 34 ∷ []) refl
    (both (flat_map json_escaped s) (34 ∷ []) (each_plain json_escaped byte_plain s) refl)

mutual
  json_plain : (t : ValueTree) → is_one_line (json t) ≡ true
  json_plain null = refl
  json_plain (boolean true) = refl
  json_plain (boolean false) = refl
  json_plain (number n) = signed_plain n
  json_plain (text s) = string_plain s
  json_plain (list ts) = first_plain 91 (values ts ++ 93 ∷ []) refl (both (values ts) (93 ∷ []) (values_plain ts) refl)
  json_plain (object ms) = first_plain 123 (json_members ms ++ 125 ∷ []) refl (both (json_members ms) (125 ∷ []) (members_plain ms) refl)

  values_plain : (ts : ValueTrees) → is_one_line (values ts) ≡ true
  values_plain no_values = refl
  values_plain (value_then t ts) = both (json t) (more_values ts) (json_plain t) (more_values_plain ts)

  more_values_plain : (ts : ValueTrees) → is_one_line (more_values ts) ≡ true
  more_values_plain no_values = refl
  more_values_plain (value_then t ts) =
      first_plain 44 (json t ++ more_values ts) refl (both (json t) (more_values ts) (json_plain t) (more_values_plain ts))

  members_plain : (ms : MemberTrees) → is_one_line (json_members ms) ≡ true
  members_plain no_members = refl
  members_plain (member_then k t ms) =
      both (string k) (58 ∷ (json t ++ more_members ms)) (string_plain k)
      (first_plain 58 (json t ++ more_members ms) refl (both (json t) (more_members ms) (json_plain t) (more_members_plain ms)))

  more_members_plain : (ms : MemberTrees) → is_one_line (more_members ms) ≡ true
  more_members_plain no_members = refl
  more_members_plain (member_then k t ms) =
      first_plain 44 (string k ++ (58 ∷ (json t ++ more_members ms))) refl
      (both (string k) (58 ∷ (json t ++ more_members ms)) (string_plain k)
      (first_plain 58 (json t ++ more_members ms) refl (both (json t) (more_members ms) (json_plain t) (more_members_plain ms))))

-- ---- texts in a line

high_plain : (xs : List ℕ) → ((k : ℕ) → k < length xs → 128 ≤ get_or xs k 0) → is_one_line xs ≡ true
high_plain [] high = refl
high_plain (x ∷ xs) high =
    let first : 128 ≤ x = high 0 (omega arith) in
    first_plain x xs (plain_from x (omega (arith, first))) (high_plain xs (λ k within. high (suc k) (omega (arith, within))))

char_plain : (c : ℕ) → nat_lt c 32 ≡ false → is_one_line (encode_utf8 c) ≡ true
char_plain c is = elim (cases_lt c 128) [
  | inl small ↦ rw (encode_ascii c small) (first_plain c [] (ap not is) refl)
  | inr big ↦ high_plain (encode_utf8 c) (λ k below. elim (cases_lt (get_or (encode_utf8 c) k 0) 128) [
    | inl low ↦ absurd (omega (arith, big, low, inside_one c [] (encode_utf8 c) k (sym (append-nil _)) below low))
    | inr h ↦ h
  ])
]

no_control : (c : ℕ) → is_control c ≡ false → nat_lt c 32 ≡ false
no_control c is = at (nat_lt c 32) refl is
  where
    at : (b : Bool) → nat_lt c 32 ≡ b → (b || c == 127) ≡ false → nat_lt c 32 ≡ false
    at true is not' = absurd (cc)
    at false is not' = is

line_plain : (c : ℕ) → is_one_line (unwrap_or (in_line c) (encode_utf8 c)) ≡ true
line_plain c = at (is_control c) refl
  where
    at : (b : Bool) → is_control c ≡ b → is_one_line (unwrap_or (cond b (Some (codes " ")) None) (encode_utf8 c)) ≡ true
    at true is = refl
    at false is = char_plain c (no_control c is)

skip_shown : (c : ℕ) (b : Bool) (one : List ℕ) (o : Option (List ℕ)) → is_one_line one ≡ true
    → is_one_line (unwrap_or o (encode_utf8 c)) ≡ true → is_one_line (unwrap_or (cond b (Some one) o) (encode_utf8 c)) ≡ true
skip_shown c true one o first second = first
skip_shown c false one o first second = second

name_plain : (c : ℕ) → is_one_line (unwrap_or (in_name c) (encode_utf8 c)) ≡ true
name_plain c = skip_shown c (c == 35) _ _ refl (skip_shown c (c == 92) _ _ refl (line_plain c))

-- ---- the lines

found_plain : (o : Option ValueTree) → is_one_line (found_text o) ≡ true
found_plain None = refl
found_plain (Some t) = json_plain t

failure_plain : (f : Failure) → is_one_line (failure_line f) ≡ true
failure_plain (Failure.Differs d) =
    let t = told d in
    let end = codes ", found " ++ found_text t.found in
    let values = json t.expected ++ end in
    both (string t.pointer) (codes ": expected " ++ values) (string_plain t.pointer)
    (both (codes ": expected ") values refl
    (both (json t.expected) end (json_plain t.expected) (both (codes ", found ") (found_text t.found) refl (found_plain t.found))))
failure_plain (Failure.Says s) = each_plain (shown Place.Line) line_plain (chars s)

comments_plain : (fs : List Failure) → list_all is_one_line (map comment_line fs) ≡ true
comments_plain [] = refl
comments_plain (f ∷ fs) =
    ap₂ (λ a b. a && b) (both (codes "# ") (failure_line f) refl (failure_plain f)) (comments_plain fs)

file_plain : (several : Bool) (file : List ℕ) → list_all is_one_line (file_lines several file) ≡ true
file_plain true file = ap (λ a. a && true) (both (codes "# in ") (string file) refl (string_plain file))
file_plain false file = refl

behind_plain : (several : Bool) (file : List ℕ) (fs : List Failure) → list_all is_one_line (comment_lines several file fs) ≡ true
behind_plain several file [] = refl
behind_plain several file (f ∷ fs) =
    list_all-append is_one_line (file_lines several file) (map comment_line (f ∷ fs))
    ∙ ap₂ (λ a b. a && b) (file_plain several file) (comments_plain (f ∷ fs))

verdict_plain : (fs : List Failure) → is_one_line (verdict fs) ≡ true
verdict_plain [] = refl
verdict_plain (f ∷ fs) = refl

point_plain : (n : ℕ) (o : Outcome) → is_one_line (point_line n o) ≡ true
point_plain n o =
    let name = escaped Place.Name o.name in
    let end = codes " - " ++ name in
    both (verdict o.failures) (decimal n ++ end) (verdict_plain o.failures)
    (both (decimal n) end (decimal_plain n) (both (codes " - ") name refl (each_plain (shown Place.Name) name_plain (chars o.name))))

from_plain : (several : Bool) (n : ℕ) (ps : List Point) → list_all is_one_line (lines_from several n ps) ≡ true
from_plain several n [] = refl
from_plain several n (p ∷ ps) =
    ap₂ (λ a b. a && b) (point_plain n p.1) (
    list_all-append is_one_line (comment_lines several p.0 p.1.failures) (lines_from several (suc n) ps)
    ∙ ap₂ (λ a b. a && b) (behind_plain several p.0 p.1.failures) (from_plain several (suc n) ps)
    )

pub all_plain : (rs : List Results) → list_all is_one_line (tap_lines rs) ≡ true
all_plain rs =
    ap₂ (λ a b. a && b) (both (codes "1..") (decimal (length (points rs))) refl (decimal_plain (length (points rs))))
    (from_plain (nat_lt 1 (length rs)) 1 (points rs))
