-- A text with another in place of each that stands in it, from what is before the first of them, and what is behind it.
use Rattle.std.proofs.Common.{◌≡◌, ℕ, zero, suc, ◌+◌, ◌<◌, ◌≤◌, inl, inr, List, ◌∷◌, ◌++◌, length, take, drop, sym, ◌∙◌, ap, arith}
use Rattle.std.proofs.Common.{subst, append-nil, Bor, Bool, true, false, [], nat_eq, cond, refl, ◌≢◌, get_or, flat_map, slice_index_or}
use Rattle.std.proofs.lemmas.Bool.{cond-true, cond-false}
use Rattle.std.proofs.lemmas.Grind.{flat_map-append}
use Rattle.std.proofs.lemmas.List.{length-append}
use Rattle.std.proofs.lemmas.Str.{inside_one, encodes-append, length-encode, encode_ascii, byte_from_char}
use Rattle.std.specs.Char.{encode_utf8, len_utf8}
use Rattle.std.specs.List.{starts_with, onto_first}
use Rattle.std.specs.Str.{encode_utf8_all, IsUtf8}
use Rattle.std.specs.Str.Pattern.{FindsText, LacksTextAt}
use Rattle.std.specs.Str.Replace.{ReplacesMatches}
use Rattle.wf_val.specs.Cut.{cut_u64}
use Rattle.wf_fn_text.specs.Pieces.{pieces, replaced, in_place}
use Rattle.wf_fn_text.proofs.LawLemmas.{some-pieces, joined, joined-behind, joined-onto}
use Rattle.wf_fn_text.proofs.PieceLemmas.{pieces-none, pieces-found}

replaced-none : (old new s : List ℕ) → ((i : ℕ) → i ≤ length s → LacksTextAt old s i) → replaced old new s ≡ s
replaced-none old new s lacks = ap (joined new) (pieces-none old s lacks) ∙ append-nil s

-- what is before the first, the new text, and what comes of the rest
pub replaced-cut : (old new s before after : List ℕ) → pieces old s ≡ before ∷ pieces old after
    → replaced old new s ≡ before ++ (new ++ replaced old new after)
replaced-cut old new s before after cut = ap (joined new) cut ∙ joined-behind new before (pieces old after) (some-pieces old 0 after)

-- what std's `replace` gives
pub is_replaced : (new : List ℕ) (n : ℕ) (p : Bor (List ℕ)) (s out : List ℕ) → 0 < length p.now
    → ReplacesMatches (λ p. FindsText p.now) (λ p q. q.now ≡ p.now) new n p s out → out ≡ replaced p.now new s
is_replaced new zero p s out some h = h.1 ∙ sym (replaced-none p.now new s h.0)
is_replaced new (suc n) p s out some h =
    let a = h.0 in
    let b = h.1 in
    let rest : h.3 ≡ replaced p.now new (drop b s) = elim h.6 [
      | inl k ↦ is_replaced new n h.2 (drop b s) h.3 (subst (λ o. 0 < length o) (sym h.5) some) k.1
          ∙ ap (λ o. replaced o new (drop b s)) h.5
      | inr k ↦ absurd (omega (arith, some, k.0, h.4.1.ends))
    ] in
    h.7 ∙ ap (λ r. take a s ++ (new ++ r)) rest
    ∙ sym (replaced-cut p.now new s (take a s) (drop b s) (pieces-found p.now s a b some h.4.0 h.4.1))

-- the bytes before a place and those of the new text, moved from the rest to the total
pub total-moved : (old new s before after : List ℕ) (t moved : ℕ) → pieces old s ≡ before ∷ pieces old after
    → moved ≡ cut_u64 (t + cut_u64 (length before + length new))
    → cut_u64 (moved + length (replaced old new after)) ≡ cut_u64 (t + length (replaced old new s))
total-moved old new s before after t moved cut is =
    let all : length (replaced old new s) ≡ length before + (length new + length (replaced old new after)) =
    ap length (replaced-cut old new s before after cut) ∙ length-append before (new ++ replaced old new after)
    ∙ ap (λ n. length before + n) (length-append new (replaced old new after)) in
    rw (is, all) (grind arith)

pub total-ended : (old new s : List ℕ) (t : ℕ) → ((i : ℕ) → i ≤ length s → LacksTextAt old s i)
    → cut_u64 (t + length s) ≡ cut_u64 (t + length (replaced old new s))
total-ended old new s t lacks = ap (λ l. cut_u64 (t + length l)) (sym (replaced-none old new s lacks))

-- for a text of one byte, each byte by itself

starts-same : (o b : ℕ) (bs : List ℕ) → nat_eq b o ≡ starts_with nat_eq (b ∷ bs) (o ∷ [])
starts-same o b bs = grind arith

replaced-one : (o : ℕ) (new : List ℕ) (b : ℕ) (bs : List ℕ) (t : Bool) → nat_eq b o ≡ t
    → replaced (o ∷ []) new bs ≡ flat_map (in_place o new) bs
    → joined new (cond t ([] ∷ pieces (o ∷ []) bs) (onto_first b (pieces (o ∷ []) bs))) ≡ in_place o new b ++ flat_map (in_place o new) bs
replaced-one o new b bs true is next =
    joined-behind new [] (pieces (o ∷ []) bs) (some-pieces (o ∷ []) 0 bs) ∙ ap (λ l. new ++ l) next
    ∙ ap (λ l. l ++ flat_map (in_place o new) bs) (sym (cond-true (nat_eq b o) new (b ∷ []) is))
replaced-one o new b bs false is next =
    joined-onto new b (pieces (o ∷ []) bs) (some-pieces (o ∷ []) 0 bs) ∙ ap (λ l. b ∷ l) next
    ∙ ap (λ l. l ++ flat_map (in_place o new) bs) (sym (cond-false (nat_eq b o) new (b ∷ []) is))

pub replaced-bytes : (o : ℕ) (new s : List ℕ) → replaced (o ∷ []) new s ≡ flat_map (in_place o new) s
replaced-bytes o new [] = refl
replaced-bytes o new (b ∷ bs) =
    replaced-one o new b bs (starts_with nat_eq (b ∷ bs) (o ∷ [])) (starts-same o b bs) (replaced-bytes o new bs)

-- a text of one byte is ASCII
pub one-byte : (b : ℕ) → IsUtf8 (b ∷ []) → b < 128
one-byte b u = by u.0 u.1.1
  where
    narrow : (c : ℕ) → len_utf8 c ≤ 1 → c < 128
    narrow c h = grind arith

    by : (cs : List ℕ) → encode_utf8_all cs ≡ b ∷ [] → b < 128
    by [] e = absurd (cc)
    by (c ∷ cs) e =
        let short = narrow c (omega (arith, ap length e, length-append (encode_utf8 c) (encode_utf8_all cs), length-encode c)) in
        omega (arith, short, byte_from_char (b ∷ []) (encode_utf8_all cs) c (sym e) short)

-- the byte of a text that has one
pub alone : (bs : List ℕ) → 1 ≤ length bs → length bs < 2 → bs ≡ slice_index_or bs 0 0 ∷ []
alone [] some few = absurd (omega (arith, some))
alone (b ∷ []) some few = refl
alone (b ∷ d ∷ bs) some few = absurd (omega (arith, few))

in_place-other : (o : ℕ) (new : List ℕ) (b : ℕ) → b ≢ o → in_place o new b ≡ b ∷ []
in_place-other o new b h = grind arith

bytes-other : (o : ℕ) (new bs : List ℕ) → ((k : ℕ) → k < length bs → get_or bs k 0 ≢ o) → flat_map (in_place o new) bs ≡ bs
bytes-other o new [] h = refl
bytes-other o new (b ∷ bs) h =
    let e = in_place-other o new b (h 0 (omega arith)) in
    let i = bytes-other o new bs (λ k l. h (suc k) (omega (arith, l))) in rw e (ap (λ l. b ∷ l) i)

-- no byte of a character of more than one is ASCII
pub character_other : (o : ℕ) (new : List ℕ) (c : ℕ) → o < 128 → c ≢ o → flat_map (in_place o new) (encode_utf8 c) ≡ encode_utf8 c
character_other o new c ascii h =
    bytes-other o new (encode_utf8 c) (λ k l e. let is : c ≡ get_or (encode_utf8 c) k 0 =
    inside_one c [] (encode_utf8 c) k (sym (append-nil (encode_utf8 c))) l (omega (arith, e, ascii)) in h (is ∙ e))

in_place-old : (o : ℕ) (new : List ℕ) → in_place o new o ≡ new
in_place-old o new = grind arith

pub character_old : (o : ℕ) (new : List ℕ) (c : ℕ) → o < 128 → c ≡ o → flat_map (in_place o new) (encode_utf8 c) ≡ new
character_old o new c ascii h =
    ap (flat_map (in_place o new)) (ap encode_utf8 h ∙ encode_ascii o ascii) ∙ append-nil (in_place o new o) ∙ in_place-old o new

-- behind the characters ys comes one more
pub character-pushed : (o : ℕ) (new before after ys : List ℕ) (c : ℕ) → before ≡ flat_map (in_place o new) (encode_utf8_all ys)
    → after ≡ before ++ flat_map (in_place o new) (encode_utf8 c)
    → after ≡ flat_map (in_place o new) (encode_utf8_all (ys ++ c ∷ []))
character-pushed o new before after ys c so_far put =
    put ∙ ap (λ l. l ++ flat_map (in_place o new) (encode_utf8 c)) so_far
    ∙ sym (flat_map-append (in_place o new) (encode_utf8_all ys) (encode_utf8 c))
    ∙ ap (flat_map (in_place o new)) (sym (encodes-append ys (c ∷ []) ∙ ap (λ l. encode_utf8_all ys ++ l) (append-nil (encode_utf8 c))))
