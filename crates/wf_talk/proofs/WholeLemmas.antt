-- One byte more: the lines that are whole then, and the bytes behind them.
use Rattle.std.proofs.Common.{◌≡◌, ◌≢◌, ℕ, Bool, true, false, cond, nat_eq, List, [], ◌∷◌, ◌++◌, length, take}
use Rattle.std.proofs.Common.{refl, ap, ◌∙◌, arith}
use Rattle.std.proofs.Math.Seq.{take-append_seam, take-length}
use Rattle.std.proofs.lemmas.Bool.Decides.{nat_tests}
use Rattle.wf_lines.specs.Lines.{lines_of, with_byte}
use Rattle.wf_talk.specs.Whole.{onto_first, onto_rest, rest_of, unended, whole_lines}

-- ---- a line feed

feed_behind : (c : ℕ) (ends : Bool) (w : List (List ℕ)) (r : List ℕ)
    → cond ends ([] ∷ (w ++ r ∷ [])) (onto_first c (w ++ r ∷ [])) ≡ cond ends ([] ∷ w) (onto_first c w) ++ cond ends r (onto_rest c w r)
    ∷ []
feed_behind c true w r = refl
feed_behind c false [] r = refl
feed_behind c false (line ∷ w) r = refl

-- the bytes behind the last line feed are a whole line
pub whole-feed : (g : List ℕ) → whole_lines (g ++ 10 ∷ []) ≡ whole_lines g ++ rest_of g ∷ []
whole-feed [] = refl
whole-feed (c ∷ g) =
    ap (λ w. cond (nat_eq c 10) ([] ∷ w) (onto_first c w)) (whole-feed g) ∙ feed_behind c (nat_eq c 10) (whole_lines g) (rest_of g)

rest_behind_feed : (c : ℕ) (ends : Bool) (w : List (List ℕ)) (r s : List ℕ) → cond ends s (onto_rest c (w ++ r ∷ []) s) ≡ s
rest_behind_feed c true w r s = refl
rest_behind_feed c false [] r s = refl
rest_behind_feed c false (line ∷ w) r s = refl

-- and nothing is behind it
pub rest-feed : (g : List ℕ) → rest_of (g ++ 10 ∷ []) ≡ []
rest-feed [] = refl
rest-feed (c ∷ g) =
    ap (λ w. cond (nat_eq c 10) (rest_of (g ++ 10 ∷ [])) (onto_rest c w (rest_of (g ++ 10 ∷ [])))) (whole-feed g)
    ∙ rest_behind_feed c (nat_eq c 10) (whole_lines g) (rest_of g) (rest_of (g ++ 10 ∷ [])) ∙ rest-feed g

-- ---- another byte

other : (b : ℕ) → b ≢ 10 → nat_eq b 10 ≡ false
other b apart = grind (arith, nat_tests)

-- it ends no line
whole-test : (g : List ℕ) (b : ℕ) → nat_eq b 10 ≡ false → whole_lines (g ++ b ∷ []) ≡ whole_lines g
whole-test [] b is = ap (λ e. cond e ([] ∷ []) []) is
whole-test (c ∷ g) b is = ap (λ w. cond (nat_eq c 10) ([] ∷ w) (onto_first c w)) (whole-test g b is)

pub whole-other : (g : List ℕ) (b : ℕ) → b ≢ 10 → whole_lines (g ++ b ∷ []) ≡ whole_lines g
whole-other g b apart = whole-test g b (other b apart)

rest_longer : (c : ℕ) (ends : Bool) (w : List (List ℕ)) (r : List ℕ) (b : ℕ)
    → cond ends (r ++ b ∷ []) (onto_rest c w (r ++ b ∷ [])) ≡ cond ends r (onto_rest c w r) ++ b ∷ []
rest_longer c true w r b = refl
rest_longer c false [] r b = refl
rest_longer c false (line ∷ w) r b = refl

rest-test : (g : List ℕ) (b : ℕ) → nat_eq b 10 ≡ false → rest_of (g ++ b ∷ []) ≡ rest_of g ++ b ∷ []
rest-test [] b is = ap (λ e. cond e [] (b ∷ [])) is
rest-test (c ∷ g) b is =
    ap (λ w. cond (nat_eq c 10) (rest_of (g ++ b ∷ [])) (onto_rest c w (rest_of (g ++ b ∷ [])))) (whole-test g b is)
    ∙ ap (λ r. cond (nat_eq c 10) r (onto_rest c (whole_lines g) r)) (rest-test g b is)
    ∙ rest_longer c (nat_eq c 10) (whole_lines g) (rest_of g) b

-- and is one of the bytes behind the last line feed
pub rest-other : (g : List ℕ) (b : ℕ) → b ≢ 10 → rest_of (g ++ b ∷ []) ≡ rest_of g ++ b ∷ []
rest-other g b apart = rest-test g b (other b apart)

-- ---- the lines before a byte stay

whole-first_by : (g : List ℕ) (b : ℕ) (is_feed : Bool) → nat_eq b 10 ≡ is_feed
    → take (length (whole_lines g)) (whole_lines (g ++ b ∷ [])) ≡ whole_lines g
whole-first_by g b true is =
    let feed : b ≡ 10 = grind (arith, nat_tests) in
    ap (λ c. take (length (whole_lines g)) (whole_lines (g ++ c ∷ []))) feed
    ∙ ap (take (length (whole_lines g))) (whole-feed g) ∙ take-append_seam (whole_lines g) (rest_of g ∷ [])
whole-first_by g b false is = ap (take (length (whole_lines g))) (whole-test g b is) ∙ take-length (whole_lines g)

pub whole-first : (g : List ℕ) (b : ℕ) → take (length (whole_lines g)) (whole_lines (g ++ b ∷ [])) ≡ whole_lines g
whole-first g b = whole-first_by g b (nat_eq b 10) refl

-- ---- lines as those of a file

split_line : (b : ℕ) (ends : Bool) (w : List (List ℕ)) (r : List ℕ)
    → cond ends ([] ∷ (w ++ unended r)) (with_byte b (w ++ unended r)) ≡ cond ends ([] ∷ w) (onto_first b w) ++ unended
    (cond ends r (onto_rest b w r))
split_line b true w r = refl
split_line b false [] [] = refl
split_line b false [] (c ∷ r) = refl
split_line b false (line ∷ w) r = refl

-- The lines of a file are those that a line feed ends, and the bytes behind the last one, where there are any.
pub lines_split : (g : List ℕ) → lines_of g ≡ whole_lines g ++ unended (rest_of g)
lines_split [] = refl
lines_split (b ∷ g) =
    ap (λ lines. cond (nat_eq b 10) ([] ∷ lines) (with_byte b lines)) (lines_split g)
    ∙ split_line b (nat_eq b 10) (whole_lines g) (rest_of g)
