-- A text grows by a character, and by an expression.
use Rattle.std.proofs.Common.{◌≡◌, ℕ, List, [], ◌∷◌, ◌++◌, map, chars, string_bytes, Global, refl, sym, ap, ◌∙◌, append_assoc, append-nil}
use Rattle.std.specs.Char.{encode_utf8, IsScalar}
use Rattle.std.specs.declared.string.String.{String}
use Rattle.std.proofs.lemmas.Str.{chars-append, chars_past_char, chars-nil, IsUtf8-string_bytes, IsUtf8-encode}
use Rattle.wf_expr.specs.Reading.{character, embedded}
use Rattle.wf_expr.specs.FrontSeen.{characters, sections_seen}
use Rattle.wf_expr.specs.declared.front.Section.{Section}

map_append : (xs ys : List ℕ) → map character (xs ++ ys) ≡ map character xs ++ map character ys
map_append [] ys = refl
map_append (x ∷ xs) ys = ap (λ l. character x ∷ l) (map_append xs ys)

pub sections_append : (ss : List Section) (s : Section) → sections_seen (ss ++ s ∷ []) ≡ sections_seen ss ++ (characters (string_bytes s.literal) ++ embedded s.expression s.length ∷ [])
sections_append [] s = refl
sections_append (x ∷ ss) s = ap (λ l. characters (string_bytes x.literal) ++ embedded x.expression x.length ∷ l) (sections_append ss s) ∙ sym (append_assoc (characters (string_bytes x.literal)) (embedded x.expression x.length ∷ sections_seen ss) (characters (string_bytes s.literal) ++ embedded s.expression s.length ∷ []))

-- a character of its own is one character
one : (c : ℕ) → IsScalar c → chars (encode_utf8 c) ≡ c ∷ []
one c h = chars_past_char (encode_utf8 c) [] c (IsUtf8-encode c h) (sym (append-nil (encode_utf8 c))) ∙ ap (λ l. c ∷ l) chars-nil

pub characters_push : (s : String Global) (c : ℕ) → IsScalar c → characters (string_bytes s ++ encode_utf8 c) ≡ characters (string_bytes s) ++ character c ∷ []
characters_push s c h = ap (map character) (chars-append (string_bytes s) (encode_utf8 c) (IsUtf8-string_bytes s)) ∙ (ap (λ l. map character (chars (string_bytes s) ++ l)) (one c h) ∙ map_append (chars (string_bytes s)) (c ∷ []))

pub none_seen : characters [] ≡ []
none_seen = ap (map character) chars-nil

pub push_seen : (ss : List Section) (s : String Global) (c : ℕ) → IsScalar c → sections_seen ss ++ characters (string_bytes s ++ encode_utf8 c) ≡ (sections_seen ss ++ characters (string_bytes s)) ++ character c ∷ []
push_seen ss s c h = ap (λ l. sections_seen ss ++ l) (characters_push s c h) ∙ sym (append_assoc (sections_seen ss) (characters (string_bytes s)) (character c ∷ []))

pub section_seen : (ss : List Section) (s : Section) → sections_seen (ss ++ s ∷ []) ++ characters [] ≡ (sections_seen ss ++ characters (string_bytes s.literal)) ++ embedded s.expression s.length ∷ []
section_seen ss s = ap (λ l. sections_seen (ss ++ s ∷ []) ++ l) none_seen ∙ (append-nil (sections_seen (ss ++ s ∷ [])) ∙ (sections_append ss s ∙ sym (append_assoc (sections_seen ss) (characters (string_bytes s.literal)) (embedded s.expression s.length ∷ []))))
