-- A page as pieces, and what is written of them (HTML Living Standard, sections 13.1.2 and 13.1.4).
use Rattle.std.specs.Prelude.{ℕ, List, [], ◌∷◌, ◌++◌, flat_map, if◌then◌else◌, nat_eq, codes}
use Rattle.wf_html.specs.Tags.{open_text, close_text}
use Rattle.wf_html.specs.declared.tag.Tag.{Tag}

-- a tag opens, a tag closes, or a text is said
pub data Piece : Type 0 where
  opened : Tag → Piece
  closed : Tag → Piece
  said : List ℕ → Piece

-- the reference that stands for a byte, where it is one of the five that mean something in a page
abbrev pub escaped : ℕ → List ℕ
escaped b =
    if nat_eq b 38 then codes "&amp;"
    else if nat_eq b 60 then codes "&lt;"
    else if nat_eq b 62 then codes "&gt;"
    else if nat_eq b 34 then codes "&quot;"
    else if nat_eq b 39 then codes "&#39;"
    else b ∷ []

abbrev pub escape : List ℕ → List ℕ
escape text = flat_map escaped text

abbrev pub piece_text : Piece → List ℕ
piece_text (opened t) = open_text t
piece_text (closed t) = close_text t
piece_text (said text) = escape text

-- what there was, and behind it each piece
abbrev pub written : List ℕ → List Piece → List ℕ
written done [] = done
written done (p ∷ ps) = written (done ++ piece_text p) ps

-- a text alone in a tag
abbrev pub with_text : Tag → List ℕ → List Piece
with_text t text = opened t ∷ said text ∷ closed t ∷ []
