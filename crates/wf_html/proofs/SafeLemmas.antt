-- An escaped text is read back.
use Rattle.std.proofs.Common.{◌≡◌, ◌≢◌, ℕ, Bool, true, false, List, [], ◌∷◌, ◌++◌, if◌then◌else◌, nat_eq, codes, refl, sym, subst, arith}
use Rattle.std.proofs.lemmas.Bool.{eqb-true, eq-eqb}
use Rattle.wf_html.specs.Html.{escape, escaped}
use Rattle.wf_html.specs.Safe.{IsPlain, ReadsAs, ends, plain, ampersand, less, greater, quote, apostrophe}

-- a choice by a test of a byte: what holds where the byte is this one, and where it isn't
by_byte : (P : List ℕ → Type 0) (b k : ℕ) (yes' no' : List ℕ) → (b ≡ k → P yes') → (b ≢ k → P no')
    → P (if nat_eq b k then yes' else no')
by_byte P b k yes' no' is other = chosen (nat_eq b k) refl
  where
    chosen : (t : Bool) → nat_eq b k ≡ t → P (if t then yes' else no')
    chosen true e = is (eqb-true b k e)
    chosen false e = other (λ same. absurd (grind (arith, e, eq-eqb b k same)))

reads_byte : (b : ℕ) (rest text : List ℕ) → ReadsAs rest text → ReadsAs (escaped b ++ rest) (b ∷ text)
reads_byte b rest text after =
    let P : List ℕ → Type 0 = λ front. ReadsAs (front ++ rest) (b ∷ text) in
    by_byte P b 38 _ _ (λ e. subst (λ n. ReadsAs (codes "&amp;" ++ rest) (n ∷ text)) (sym e) (ampersand rest text after)) (λ no38.
    by_byte P b 60 _ _ (λ e. subst (λ n. ReadsAs (codes "&lt;" ++ rest) (n ∷ text)) (sym e) (less rest text after)) (λ no60.
    by_byte P b 62 _ _ (λ e. subst (λ n. ReadsAs (codes "&gt;" ++ rest) (n ∷ text)) (sym e) (greater rest text after)) (λ no62.
    by_byte P b 34 _ _ (λ e. subst (λ n. ReadsAs (codes "&quot;" ++ rest) (n ∷ text)) (sym e) (quote rest text after)) (λ no34.
    by_byte P b 39 _ _ (λ e. subst (λ n. ReadsAs (codes "&#39;" ++ rest) (n ∷ text)) (sym e) (apostrophe rest text after)) (λ no39.
    plain b rest text (record {
      no_ampersand = no38;
      no_less = no60;
      no_greater = no62;
      no_quote = no34;
      no_apostrophe = no39;
    }) after)))))

pub read_back : (text : List ℕ) → ReadsAs (escape text) text
read_back [] = ends
read_back (b ∷ text) = reads_byte b (escape text) text (read_back text)
