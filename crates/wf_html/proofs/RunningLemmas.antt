-- No element that runs something begins in a page: none begins in a tag, not even at its end, and none in a text.
use Rattle.std.proofs.Common.{◌≡◌, ◌≢◌, ℕ, ◌+◌, ◌<◌, ◌≤◌, Bool, true, false, List, [], ◌∷◌, ◌++◌, nat_eq, flat_map, codes, refl}
use Rattle.std.proofs.Common.{ap, ◌∙◌, arith}
use Rattle.std.specs.List.{AllByRecursion}
use Rattle.std.specs.Char.{to_ascii_lowercase}
use Rattle.std.proofs.lemmas.Bool.{eqb-true}
use Rattle.std.proofs.lemmas.Str.Ascii.{lowercase_is}
use Rattle.wf_html.proofs.PieceLemmas.{written_flat}
use Rattle.wf_html.proofs.SafeLemmas.{read_back}
use Rattle.wf_html.specs.Html.{Piece, opened, closed, said, escape, piece_text, written}
use Rattle.wf_html.specs.Safe.{ReadsAs, ends, plain, ampersand, less, greater, quote, apostrophe}
use Rattle.wf_html.specs.Still.{has, running}
use Rattle.wf_html.specs.Tags.{close_text, open_text}
use Rattle.wf_html.specs.declared.tag.Look.{Look}
use Rattle.wf_html.specs.declared.tag.Tag.{Tag}

-- ---- what stands in a tag stands behind it, where it may

abbrev Behind : List ℕ → List ℕ → Type 0
Behind front rest = AllByRecursion (λ word. has (front ++ rest) word ≡ has rest word) running

open_skips : (t : Tag) (rest : List ℕ) → Behind (open_text t) rest
open_skips (Tag.Box Look.Succeeded) rest =
    (refl, (refl, (refl, (refl, (refl, (refl, (refl, (refl, (refl, (refl, (refl, (refl, (refl, tt)))))))))))))
open_skips (Tag.Mark Look.Succeeded) rest =
    (refl, (refl, (refl, (refl, (refl, (refl, (refl, (refl, (refl, (refl, (refl, (refl, (refl, tt)))))))))))))
open_skips t rest = (refl, (refl, (refl, (refl, (refl, (refl, (refl, (refl, (refl, (refl, (refl, (refl, (refl, tt)))))))))))))

close_skips : (t : Tag) (rest : List ℕ) → Behind (close_text t) rest
close_skips Tag.Page rest = (refl, (refl, (refl, (refl, (refl, (refl, (refl, (refl, (refl, (refl, (refl, (refl, (refl, tt)))))))))))))
close_skips t rest = (refl, (refl, (refl, (refl, (refl, (refl, (refl, (refl, (refl, (refl, (refl, (refl, (refl, tt)))))))))))))

-- ---- nothing begins in a text

not_capital : (b l : ℕ) → 60 ≡ l → (b < 65 → l ≡ b) → (90 < b → l ≡ b) → (65 ≤ b → b ≤ 90 → l ≡ b + 32) → b ≡ 60
not_capital b l same small high capital = grind (arith, small, high, capital)

-- a small letter is no `<`
no_bracket : (b : ℕ) → b ≢ 60 → nat_eq 60 (to_ascii_lowercase b) ≡ false
no_bracket b other = by (nat_eq 60 (to_ascii_lowercase b)) refl
  where
    by : (t : Bool) → nat_eq 60 (to_ascii_lowercase b) ≡ t → nat_eq 60 (to_ascii_lowercase b) ≡ false
    by true e =
        let same = eqb-true 60 (to_ascii_lowercase b) e in
        let small : b < 65 → to_ascii_lowercase b ≡ b = (lowercase_is b).1 in
        let high : 90 < b → to_ascii_lowercase b ≡ b = (lowercase_is b).2 in
        let capital : 65 ≤ b → b ≤ 90 → to_ascii_lowercase b ≡ b + 32 = λ from to. (lowercase_is b).0 (from, to) in
        absurd (other (not_capital b (to_ascii_lowercase b) same small high capital))
    by false e = e

skip_read : (word bytes text rest : List ℕ) → ReadsAs bytes text → has (bytes ++ rest) (60 ∷ word) ≡ has rest (60 ∷ word)
skip_read word bytes text rest ends = refl
skip_read word bytes text rest (plain b bs t is after) = rw (no_bracket b is.no_less) (skip_read word bs t rest after)
skip_read word bytes text rest (ampersand bs t after) = skip_read word bs t rest after
skip_read word bytes text rest (less bs t after) = skip_read word bs t rest after
skip_read word bytes text rest (greater bs t after) = skip_read word bs t rest after
skip_read word bytes text rest (quote bs t after) = skip_read word bs t rest after
skip_read word bytes text rest (apostrophe bs t after) = skip_read word bs t rest after

-- ---- all pieces

module _ (word : List ℕ) (opens : (t : Tag) (rest : List ℕ) → has (open_text t ++ rest) (60 ∷ word) ≡ has rest (60 ∷ word))
    (closes : (t : Tag) (rest : List ℕ) → has (close_text t ++ rest) (60 ∷ word) ≡ has rest (60 ∷ word)) where
  none_in : (ps : List Piece) → has (flat_map piece_text ps) (60 ∷ word) ≡ false
  none_in [] = refl
  none_in (opened t ∷ ps) = opens t (flat_map piece_text ps) ∙ none_in ps
  none_in (closed t ∷ ps) = closes t (flat_map piece_text ps) ∙ none_in ps
  none_in (said text ∷ ps) = skip_read word (escape text) text (flat_map piece_text ps) (read_back text) ∙ none_in ps

  none_written : (ps : List Piece) → has (written [] ps) (60 ∷ word) ≡ false
  none_written ps = ap (λ bytes. has bytes (60 ∷ word)) (written_flat [] ps) ∙ none_in ps

-- all words that begin with `<`, of which tags have none
none_of : (words : List (List ℕ))
    → ((t : Tag) (rest : List ℕ) → AllByRecursion (λ w. has (open_text t ++ rest) (60 ∷ w) ≡ has rest (60 ∷ w)) words)
    → ((t : Tag) (rest : List ℕ) → AllByRecursion (λ w. has (close_text t ++ rest) (60 ∷ w) ≡ has rest (60 ∷ w)) words) → (ps : List Piece)
    → AllByRecursion (λ w. has (written [] ps) (60 ∷ w) ≡ false) words
none_of [] opens closes ps = tt
none_of (w ∷ words) opens closes ps = (
  none_written w (λ t rest. (opens t rest).0) (λ t rest. (closes t rest).0) ps,
  none_of words (λ t rest. (opens t rest).1) (λ t rest. (closes t rest).1) ps,
)

pub none_runs : (ps : List Piece) → AllByRecursion (λ word. has (written [] ps) word ≡ false) running
none_runs ps =
    none_of (codes "script" ∷ codes "iframe" ∷ codes "object" ∷ codes "embed" ∷ codes "link" ∷ codes "base" ∷ codes "img" ∷ codes "svg"
    ∷ codes "math" ∷ codes "video" ∷ codes "form" ∷ codes "input" ∷ codes "a" ∷ []) open_skips close_skips ps
