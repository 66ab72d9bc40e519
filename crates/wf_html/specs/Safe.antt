-- What a browser reads of a text of a page in which no tag stands (HTML Living Standard, section 13.2.5.1).
use Rattle.std.specs.Prelude.{◌≢◌, ℕ, List, [], ◌∷◌, ◌++◌, codes}

-- a byte that means nothing beside itself
pub record IsPlain (b : ℕ) : Type 0 where
  pub no_ampersand : b ≢ 38
  pub no_less : b ≢ 60
  pub no_greater : b ≢ 62
  pub no_quote : b ≢ 34
  pub no_apostrophe : b ≢ 39

-- Bytes that begin no tag and end no attribute, and the text that is read of them: plain bytes, and five references.
pub data ReadsAs : List ℕ → List ℕ → Type 0 where
  ends : ReadsAs [] []
  plain : (b : ℕ) (rest text : List ℕ) → IsPlain b → ReadsAs rest text → ReadsAs (b ∷ rest) (b ∷ text)
  ampersand : (rest text : List ℕ) → ReadsAs rest text → ReadsAs (codes "&amp;" ++ rest) (38 ∷ text)
  less : (rest text : List ℕ) → ReadsAs rest text → ReadsAs (codes "&lt;" ++ rest) (60 ∷ text)
  greater : (rest text : List ℕ) → ReadsAs rest text → ReadsAs (codes "&gt;" ++ rest) (62 ∷ text)
  quote : (rest text : List ℕ) → ReadsAs rest text → ReadsAs (codes "&quot;" ++ rest) (34 ∷ text)
  apostrophe : (rest text : List ℕ) → ReadsAs rest text → ReadsAs (codes "&#39;" ++ rest) (39 ∷ text)
