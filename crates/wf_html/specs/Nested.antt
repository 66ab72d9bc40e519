-- Pieces that close what they open, the last first.
use Rattle.std.specs.Prelude.{ℕ, List, [], ◌∷◌, ◌++◌}
use Rattle.wf_html.specs.Html.{Piece, opened, closed, said}
use Rattle.wf_html.specs.declared.tag.Tag.{Tag}

-- texts, and tags with what stands in them
pub data IsNested : List Piece → Type 0 where
  nothing : IsNested []
  text : (t : List ℕ) (rest : List Piece) → IsNested rest → IsNested (said t ∷ rest)
  tag : (t : Tag) (inside rest : List Piece) → IsNested inside → IsNested rest → IsNested (opened t ∷ inside ++ closed t ∷ rest)
