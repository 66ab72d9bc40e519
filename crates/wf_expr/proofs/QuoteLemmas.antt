-- The quotes of a text, in its bytes and in its characters.
use Rattle.std.proofs.Common.{◌≡◌, ◌≢◌, ℕ, suc, ◌<◌, Bool, true, false, ◌&&◌, if◌then◌else◌, nat_eq, List, [], ◌∷◌, ◌++◌, length, get_or, flat_map, refl, sym, ap, ◌∙◌, arith, append-nil, append_assoc}
use Rattle.std.specs.Char.{encode_utf8}
use Rattle.std.specs.Str.{encode_utf8_all, all_scalars, chars, IsUtf8}
use Rattle.std.proofs.Math.Utf8.{scalar}
use Rattle.std.proofs.lemmas.Grind.{flat_map-append}
use Rattle.std.proofs.lemmas.Str.{inside_one, encodes-append, encodes-chars, chars-encodes, scalars-chars}
use Rattle.wf_expr.specs.Printed.{quoted_byte}

once : (b : ℕ) → b ≢ 39 → quoted_byte b ≡ b ∷ []
once b h = grind arith

no_quotes : (bs : List ℕ) → ((k : ℕ) → k < length bs → get_or bs k 0 ≢ 39) → flat_map quoted_byte bs ≡ bs
no_quotes [] h = refl
no_quotes (b ∷ bs) h = let e = once b (h 0 (omega arith)) in let i = no_quotes bs (λ k l. h (suc k) (omega arith)) in rw e (ap (λ l. b ∷ l) i)

-- a character of more than one byte has no quote in it
pub quoted_other : (c : ℕ) → c ≢ 39 → flat_map quoted_byte (encode_utf8 c) ≡ encode_utf8 c
quoted_other c h =
    no_quotes (encode_utf8 c) (λ k l e. let is : c ≡ get_or (encode_utf8 c) k 0 = inside_one c [] (encode_utf8 c) k (sym (append-nil (encode_utf8 c))) l (omega (arith, e)) in h (is ∙ e))

pub quoted_quote : (c : ℕ) → c ≡ 39 → flat_map quoted_byte (encode_utf8 c) ≡ 39 ∷ 39 ∷ []
unfolding encode_utf8
quoted_quote c h = rw h refl

push : (ys : List ℕ) (c : ℕ) → encode_utf8_all (ys ++ c ∷ []) ≡ encode_utf8_all ys ++ encode_utf8 c
push ys c = encodes-append ys (c ∷ []) ∙ ap (λ l. encode_utf8_all ys ++ l) (append-nil (encode_utf8 c))

quoted_push : (ys : List ℕ) (c : ℕ) → flat_map quoted_byte (encode_utf8_all (ys ++ c ∷ [])) ≡ flat_map quoted_byte (encode_utf8_all ys) ++ flat_map quoted_byte (encode_utf8 c)
quoted_push ys c = ap (λ l. flat_map quoted_byte l) (push ys c) ∙ flat_map-append quoted_byte (encode_utf8_all ys) (encode_utf8 c)

-- behind the first quote and the characters ys comes one more, or the last quote
pub one_more : (first out new : List ℕ) (ys : List ℕ) (c : ℕ) → out ≡ first ++ 39 ∷ flat_map quoted_byte (encode_utf8_all ys) → new ≡ out ++ flat_map quoted_byte (encode_utf8 c) → new ≡ first ++ 39 ∷ flat_map quoted_byte (encode_utf8_all (ys ++ c ∷ []))
one_more first out new ys c before written =
    let q = flat_map quoted_byte (encode_utf8 c) in
    written ∙ ap (λ l. l ++ q) before ∙ append_assoc first (39 ∷ flat_map quoted_byte (encode_utf8_all ys)) q ∙ ap (λ l. first ++ 39 ∷ l) (sym (quoted_push ys c))

pub last_quote : (first out new : List ℕ) (ys : List ℕ) (s : List ℕ) → out ≡ first ++ 39 ∷ flat_map quoted_byte (encode_utf8_all ys) → new ≡ out ++ 39 ∷ [] → encode_utf8_all ys ≡ s → new ≡ first ++ (39 ∷ flat_map quoted_byte s ++ 39 ∷ [])
last_quote first out new ys s before written whole =
    written ∙ ap (λ l. l ++ 39 ∷ []) before ∙ append_assoc first (39 ∷ flat_map quoted_byte (encode_utf8_all ys)) (39 ∷ []) ∙ ap (λ l. first ++ (39 ∷ flat_map quoted_byte l ++ 39 ∷ [])) whole

-- the bytes of the characters, each quote twice, are the bytes with each quote twice
pub is_quote : (c : ℕ) → nat_eq c 39 ≡ true → c ≡ 39
is_quote c h = grind arith

pub is_other : (c : ℕ) → nat_eq c 39 ≡ false → c ≢ 39
is_other c h e = grind arith

encode_quoted : (c : ℕ) → encode_utf8_all (quoted_byte c) ≡ flat_map quoted_byte (encode_utf8 c)
unfolding encode_utf8
encode_quoted c = go (nat_eq c 39) refl
  where
    go : (b : Bool) → nat_eq c 39 ≡ b → encode_utf8_all (if b then 39 ∷ 39 ∷ [] else c ∷ []) ≡ flat_map quoted_byte (encode_utf8 c)
    go true e = sym (quoted_quote c (is_quote c e))
    go false e = append-nil (encode_utf8 c) ∙ sym (quoted_other c (is_other c e))

encodes_quoted : (cs : List ℕ) → encode_utf8_all (flat_map quoted_byte cs) ≡ flat_map quoted_byte (encode_utf8_all cs)
encodes_quoted [] = refl
encodes_quoted (c ∷ cs) =
    encodes-append (quoted_byte c) (flat_map quoted_byte cs)
    ∙ (λ i. encode_quoted c i ++ encodes_quoted cs i)
    ∙ sym (flat_map-append quoted_byte (encode_utf8 c) (encode_utf8_all cs))

are_both : (a b : Bool) → (a && b) ≡ true → (a ≡ true) × (b ≡ true)
are_both true b h = (refl, h)
are_both false b h = absurd (cc)

scalars_quoted : (cs : List ℕ) → all_scalars cs ≡ true → all_scalars (flat_map quoted_byte cs) ≡ true
scalars_quoted [] h = refl
scalars_quoted (c ∷ cs) h = let p = are_both (scalar c) (all_scalars cs) h in go (nat_eq c 39) p.0 (scalars_quoted cs p.1)
  where
    go : (b : Bool) → scalar c ≡ true → all_scalars (flat_map quoted_byte cs) ≡ true → all_scalars ((if b then 39 ∷ 39 ∷ [] else c ∷ []) ++ flat_map quoted_byte cs) ≡ true
    go true e rest = rest
    go false e rest = rw e rest

-- of a text, in UTF-8
pub IsUtf8-quoted : (s : List ℕ) → IsUtf8 s → IsUtf8 (flat_map quoted_byte s)
IsUtf8-quoted s u = (flat_map quoted_byte u.0, (scalars_quoted u.0 u.1.0, encodes_quoted u.0 ∙ ap (λ l. flat_map quoted_byte l) u.1.1))

pub chars-quoted : (s : List ℕ) → IsUtf8 s → chars (flat_map quoted_byte s) ≡ flat_map quoted_byte (chars s)
chars-quoted s u =
    let e : encode_utf8_all (flat_map quoted_byte (chars s)) ≡ flat_map quoted_byte s = encodes_quoted (chars s) ∙ ap (λ l. flat_map quoted_byte l) (encodes-chars s u) in
    ap chars (sym e) ∙ chars-encodes (flat_map quoted_byte (chars s)) (scalars_quoted (chars s) (scalars-chars s u))
