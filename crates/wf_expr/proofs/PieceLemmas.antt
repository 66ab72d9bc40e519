-- The pieces of a text, and the length of its first expression that is too long, by its sections.
use Rattle.std.proofs.Common.{◌≡◌, ℕ, ◌≤◌, List, [], ◌∷◌, ◌++◌, length, map, chars, string_bytes, Global, None, nat_eq, true, false, refl, sym, ap, ◌∙◌, append_assoc, append-nil, arith}
use Rattle.std.specs.Char.{encode_utf8}
use Rattle.std.specs.declared.string.String.{String}
use Rattle.std.proofs.lemmas.Str.{encodes-chars, IsUtf8-string_bytes, length-encode, len_utf8_bounds}
use lib.Utf8.{encodes}
use Rattle.wf_template.specs.ExprTree.{ExprTree}
use Rattle.wf_template.specs.TemplateTree.{PieceTree, letters, part, plain, parts}
use Rattle.wf_expr.specs.Reading.{Item, character, embedded, put_character, pieces_of, template_of_pieces}
use Rattle.wf_expr.specs.Spells.{over, first_over}
use Rattle.wf_expr.specs.FrontSeen.{characters, sections_seen, items_seen, lettered, sections_pieces, sections_over}
use Rattle.wf_expr.specs.declared.front.Front.{Front}
use Rattle.wf_expr.specs.declared.front.Section.{Section}

-- lengths

characters_over : (cs : List ℕ) (items : List Item) → first_over (map character cs ++ items) ≡ first_over items
characters_over [] items = refl
characters_over (c ∷ cs) items = characters_over cs items

only_characters_over : (cs : List ℕ) → first_over (map character cs) ≡ None
only_characters_over [] = refl
only_characters_over (c ∷ cs) = only_characters_over cs

sections_are_over : (ss : List Section) (text : List ℕ) → first_over (sections_seen ss ++ characters text) ≡ sections_over ss
sections_are_over [] text = only_characters_over (chars text)
sections_are_over (s ∷ ss) text =
    let one = characters (string_bytes s.literal) in
    let more = sections_seen ss in
    ap first_over (append_assoc one (embedded s.expression s.length ∷ more) (characters text))
    ∙ (characters_over (chars (string_bytes s.literal)) (embedded s.expression s.length ∷ (more ++ characters text))
    ∙ ap (over s.length) (sections_are_over ss text))

pub first_over_seen : (f : Front) → first_over (items_seen f) ≡ sections_over f.sections.items
first_over_seen f = sections_are_over f.sections.items (string_bytes f.literal)

-- pieces

is_lettered : (t : List ℕ) → 1 ≤ length t → lettered t ≡ letters t ∷ []
is_lettered [] h = absurd (omega (arith, h))
is_lettered (b ∷ bs) h = refl

length_append : (a t : List ℕ) → length a ≤ length (a ++ t)
length_append [] t = omega arith
length_append (x ∷ a) t = omega (arith, length_append a t)

one_lettered : (c : ℕ) (t : List ℕ) → lettered (encode_utf8 c ++ t) ≡ letters (encode_utf8 c ++ t) ∷ []
one_lettered c t = is_lettered (encode_utf8 c ++ t) (omega (arith, (len_utf8_bounds c).0, length-encode c, length_append (encode_utf8 c) t))

-- a text before nothing, and before an expression
put_none : (c : ℕ) (t : List ℕ) → put_character c (lettered t) ≡ letters (encode_utf8 c ++ t) ∷ []
put_none c [] = ap (λ l. letters l ∷ []) (sym (append-nil (encode_utf8 c)))
put_none c (b ∷ bs) = refl

put_part : (c : ℕ) (t : List ℕ) (ps : List PieceTree) (e : ExprTree) → put_character c (lettered t ++ part e ∷ ps) ≡ letters (encode_utf8 c ++ t) ∷ part e ∷ ps
put_part c [] ps e = ap (λ l. letters l ∷ part e ∷ ps) (sym (append-nil (encode_utf8 c)))
put_part c (b ∷ bs) ps e = refl

last_pieces : (cs : List ℕ) → pieces_of (map character cs) ≡ lettered (encodes cs)
last_pieces [] = refl
last_pieces (c ∷ cs) = ap (put_character c) (last_pieces cs) ∙ (put_none c (encodes cs) ∙ sym (one_lettered c (encodes cs)))

first_pieces : (cs : List ℕ) (e : ExprTree) (n : ℕ) (items : List Item) → pieces_of (map character cs ++ embedded e n ∷ items) ≡ lettered (encodes cs) ++ part e ∷ pieces_of items
first_pieces [] e n items = refl
first_pieces (c ∷ cs) e n items = ap (put_character c) (first_pieces cs e n items) ∙ (put_part c (encodes cs) (pieces_of items) e ∙ ap (λ l. l ++ part e ∷ pieces_of items) (sym (one_lettered c (encodes cs))))

spelled : (s : String Global) → encodes (chars (string_bytes s)) ≡ string_bytes s
spelled s = encodes-chars (string_bytes s) (IsUtf8-string_bytes s)

sections_make : (ss : List Section) (text : String Global) → pieces_of (sections_seen ss ++ characters (string_bytes text)) ≡ sections_pieces ss ++ lettered (string_bytes text)
sections_make [] text = last_pieces (chars (string_bytes text)) ∙ ap lettered (spelled text)
sections_make (s ∷ ss) text =
    let one = characters (string_bytes s.literal) in
    let last = characters (string_bytes text) in
    let more = sections_seen ss in
    ap pieces_of (append_assoc one (embedded s.expression s.length ∷ more) last)
    ∙ (first_pieces (chars (string_bytes s.literal)) s.expression s.length (more ++ last)
    ∙ (ap (λ l. lettered l ++ part s.expression ∷ pieces_of (more ++ last)) (spelled s.literal)
    ∙ (ap (λ l. lettered (string_bytes s.literal) ++ part s.expression ∷ l) (sections_make ss text)
    ∙ sym (append_assoc (lettered (string_bytes s.literal)) (part s.expression ∷ sections_pieces ss) (lettered (string_bytes text))))))

-- a text without sections is plain, and one with sections has parts
plain_text : (t : List ℕ) → template_of_pieces (lettered t) ≡ plain t
plain_text [] = refl
plain_text (b ∷ bs) = refl

parts_text : (t : List ℕ) (e : ExprTree) (ps : List PieceTree) → template_of_pieces (lettered t ++ part e ∷ ps) ≡ parts (lettered t ++ part e ∷ ps)
parts_text [] e ps = refl
parts_text (b ∷ bs) e ps = refl

pub plain_seen : (ss : List Section) (text : String Global) → nat_eq (length ss) 0 ≡ true → template_of_pieces (pieces_of (sections_seen ss ++ characters (string_bytes text))) ≡ plain (string_bytes text)
plain_seen [] text h = ap template_of_pieces (sections_make [] text) ∙ plain_text (string_bytes text)
plain_seen (s ∷ ss) text h = absurd (grind (arith, h))

with_parts : (s : Section) (ss : List Section) (text : List ℕ) → template_of_pieces (sections_pieces (s ∷ ss) ++ lettered text) ≡ parts (sections_pieces (s ∷ ss) ++ lettered text)
with_parts s ss text =
    let e = append_assoc (lettered (string_bytes s.literal)) (part s.expression ∷ sections_pieces ss) (lettered text) in
    ap template_of_pieces e ∙ (parts_text (string_bytes s.literal) s.expression (sections_pieces ss ++ lettered text) ∙ ap parts (sym e))

pub parts_seen : (ss : List Section) (text : String Global) → nat_eq (length ss) 0 ≡ false → template_of_pieces (pieces_of (sections_seen ss ++ characters (string_bytes text))) ≡ parts (sections_pieces ss ++ lettered (string_bytes text))
parts_seen [] text h = absurd (cc)
parts_seen (s ∷ ss) text h = ap template_of_pieces (sections_make (s ∷ ss) text) ∙ with_parts s ss (string_bytes text)
