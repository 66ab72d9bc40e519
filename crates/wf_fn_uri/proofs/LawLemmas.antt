-- Encodings are undone, and escaped texts are made of unreserved characters and escapes.
use Rattle.std.proofs.Common.{◌≡◌, ℕ, suc, ◌+◌, ◌<◌, ◌%◌, ◌/◌, List, [], ◌∷◌, ◌++◌, length, refl, sym, ◌∙◌, ap, arith, Bool, true}
use Rattle.std.proofs.Common.{false, cond, Some, None, codes, ◌&&◌, nat_lt}
use Rattle.std.proofs.lemmas.Bool.{agree_below_at, lt-ltb}
use Rattle.std.specs.Fmt.{digit_glyph}
use Rattle.std.specs.List.{All}
use Rattle.percent_encoding.proofs.PercentLemmas.{round_trip}
use Rattle.percent_encoding.specs.Percent.{percent_decode, percent_encode_byte}
use Rattle.wf_fn_uri.specs.declared.escapes.TheConstants.{UNRESERVED}
use Rattle.wf_fn_uri.specs.Encodings.{behind_scheme, encoded_part}
use Rattle.wf_fn_uri.specs.Escapes.{escaped, is_unreserved}
use Rattle.wf_fn_uri.specs.Laws.{IsEscaped, is_upper_hex}
use Rattle.wf_fn_uri.proofs.EscapeLemmas.{as_table_all}

pub escaped-back : (s : List ℕ) → All (λ b. b < 256) s → percent_decode (escaped s) ≡ s
escaped-back s h = ap percent_decode (sym (as_table_all s h)) ∙ round_trip UNRESERVED s refl h

hex : (d : ℕ) → d < 16 → is_upper_hex (digit_glyph true d) ≡ true
hex d h = agree_below_at (λ d. is_upper_hex (digit_glyph true d)) (λ d. true) 16 d refl h

below-16 : (n : ℕ) → n % 16 < 16
below-16 n = omega arith

escaped-byte : (b : ℕ) (rest : List ℕ) (t : Bool) → is_unreserved b ≡ t → IsEscaped rest
    → IsEscaped (cond t (b ∷ []) (percent_encode_byte b) ++ rest)
unfolding percent_encode_byte
escaped-byte b rest true is h = IsEscaped.itself b rest is h
escaped-byte b rest false is h =
    IsEscaped.escape (digit_glyph true (b / 16 % 16)) (digit_glyph true (b % 16)) rest (hex (b / 16 % 16) (below-16 (b / 16))) (hex
    (b % 16) (below-16 b)) h

pub escaped-made : (s : List ℕ) → IsEscaped (escaped s)
escaped-made [] = IsEscaped.nothing
escaped-made (b ∷ bs) = escaped-byte b (escaped bs) (is_unreserved b) refl (escaped-made bs)

-- a text that stands, where a place in it does
where-some : (n m k : ℕ) (x : List ℕ) → n ≡ k + m → 0 < m → cond (nat_lt k n && true) (Some x) None ≡ Some x
where-some n m k x is some = let lt : k < n = omega arith in ap (λ t. cond (t && true) (Some x) None) (lt-ltb k n lt)

pub carried : (e : List ℕ) → encoded_part (behind_scheme (codes "data:text/plain;charset=utf-8;base64," ++ e)) ≡ Some e
carried e = where-some (length (codes "text/plain;charset=utf-8;base64," ++ e)) (suc (length e)) 31 e (omega arith) (omega arith)
