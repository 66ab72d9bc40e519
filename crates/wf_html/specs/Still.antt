-- What makes a page stand still: nothing in it runs, and nothing is fetched for it (HTML Living Standard, section 4.12.1; Content Security
-- Policy, level 3).
use Rattle.std.specs.Prelude.{◌≡◌, ℕ, Bool, true, false, List, [], ◌∷◌, ◌++◌, ◌&&◌, ◌||◌, nat_eq, codes}
use Rattle.std.specs.Str.{str_to_ascii_lowercase}

-- a text begins with a word
abbrev pub begins : List ℕ → List ℕ → Bool
begins [] text = true
begins (c ∷ word) [] = false
begins (c ∷ word) (b ∷ text) = nat_eq c b && begins word text

-- a word stands in a text
abbrev pub stands_in : List ℕ → List ℕ → Bool
stands_in word [] = begins word []
stands_in word (b ∷ text) = begins word (b ∷ text) || stands_in word text

-- a word stands in a text, in small letters or in capitals
abbrev pub has : List ℕ → List ℕ → Bool
has text word = stands_in word (str_to_ascii_lowercase text)

-- an attribute begins with `on`, behind any of the bytes that may stand before it
abbrev pub has_handler : List ℕ → Bool
has_handler text =
    has text (codes "\ton") || has text (codes "\non") || has text (12 ∷ codes "on") || has text (codes "\ron")
    || has text (codes " on") || has text (codes "\"on") || has text (codes "'on") || has text (codes "/on")

-- nothing in a text runs, and nothing is fetched for it
pub record IsStill (text : List ℕ) : Type 0 where
  pub no_script : has text (codes "<script") ≡ false
  pub no_address : has text (codes "javascript:") ≡ false
  pub no_handler : has_handler text ≡ false
  pub no_source : has text (codes "src=") ≡ false
  pub no_link : has text (codes "href=") ≡ false
  pub no_import : has text (codes "@import") ≡ false
  pub no_picture : has text (codes "url(") ≡ false

-- what stands before the style of a page: that it is HTML in UTF-8, and that nothing is run in it or fetched for it but its style
abbrev pub opening : List ℕ
opening =
    codes "<!DOCTYPE html>\n<html lang=\"en\">\n<meta charset=\"utf-8\">\n"
    ++ (codes "<meta name=\"viewport\" content=\"width=device-width,initial-scale=1\">\n"
    ++ (codes "<meta http-equiv=\"Content-Security-Policy\" content=\"default-src 'none'; style-src 'unsafe-inline'\">\n"
    ++ codes "<style>\n"))

-- and what stands behind it
abbrev pub style_end : List ℕ
style_end = codes "</style>\n"

-- the head of a page: a style, in which no tag can stand, between these
pub record IsHead (head : List ℕ) : Type 0 where
  pub style : List ℕ
  pub is : head ≡ opening ++ (style ++ style_end)
  pub no_tag : has style (codes "<") ≡ false

-- how the elements begin that run something, or for which something is fetched
abbrev pub running : List (List ℕ)
running =
    codes "<script" ∷ codes "<iframe" ∷ codes "<object" ∷ codes "<embed" ∷ codes "<link" ∷ codes "<base" ∷ codes "<img" ∷ codes "<svg"
    ∷ codes "<math" ∷ codes "<video" ∷ codes "<form" ∷ codes "<input" ∷ codes "<a" ∷ []
