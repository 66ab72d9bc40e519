-- What a reader of a report rests on.
use Rattle.std.specs.Prelude.{◌≡◌, ℕ, suc, List, [], ◌∷◌, ◌++◌, codes, Bool, false, not, ◌||◌, ◌==◌, nat_lt, nat_eq, Contains}
use Rattle.std.specs.Char.{encode_utf8}
use Rattle.std.specs.List.{list_all, starts_with}
use Rattle.wf_tap.specs.Escapes.{is_forbidden}
use Rattle.wf_tap.specs.Tap.{Point, point_line}

-- a line that tells an outcome
abbrev pub tells_outcome : List ℕ → Bool
tells_outcome l = starts_with nat_eq l (codes "ok ") || starts_with nat_eq l (codes "not ok ")

-- the lines of outcomes, the first of which has the number n
abbrev pub point_lines : ℕ → List Point → List (List ℕ)
point_lines n [] = []
point_lines n (p ∷ ps) = point_line n p.1 ∷ point_lines (suc n) ps

-- no byte of it is below 32, so none is the end of a line
abbrev pub is_one_line : List ℕ → Bool
is_one_line l = list_all (λ x. not (nat_lt x 32)) l

-- the references that stand for characters (XML 1.0, section 4.1)
abbrev pub references : List (List ℕ)
references =
    codes "&lt;" ∷ codes "&gt;" ∷ codes "&amp;" ∷ codes "&quot;" ∷ codes "&#9;" ∷ codes "&#10;" ∷ codes "&#13;" ∷ []

-- What may stand between the quotation marks of an attribute and in an element (productions 10 and 14): references, and characters that
-- aren't forbidden and begin neither a tag nor a reference, and end no attribute.
pub data IsXmlText : List ℕ → Type 0 where
  ended : IsXmlText []
  reference : (r s : List ℕ) → Contains references r → IsXmlText s → IsXmlText (r ++ s)
  character : (c : ℕ) (s : List ℕ) → is_forbidden c ≡ false → (c == 60) ≡ false → (c == 62) ≡ false → (c == 38) ≡ false
      → (c == 34) ≡ false → IsXmlText s → IsXmlText (encode_utf8 c ++ s)
