-- Nested pieces in a row are nested.
use Rattle.std.proofs.Common.{◌≡◌, ℕ, List, [], ◌∷◌, ◌++◌, sym, subst, ap, append_assoc}
use Rattle.wf_html.specs.Html.{Piece, opened, closed, said}
use Rattle.wf_html.specs.Nested.{IsNested, nothing, text, tag}
use Rattle.wf_html.specs.declared.tag.Tag.{Tag}

pub nested_append : (ps qs : List Piece) → IsNested ps → IsNested qs → IsNested (ps ++ qs)
nested_append ps qs nothing after = after
nested_append ps qs (text t rest first) after = text t (rest ++ qs) (nested_append rest qs first after)
nested_append ps qs (tag t inside rest one first) after =
    subst IsNested (ap (λ xs. opened t ∷ xs) (sym (append_assoc inside (closed t ∷ rest) qs)))
    (tag t inside (rest ++ qs) one (nested_append rest qs first after))

-- what stands alone in a tag
pub nested_in : (t : Tag) (inside : List Piece) → IsNested inside → IsNested (opened t ∷ inside ++ closed t ∷ [])
nested_in t inside one = tag t inside [] one nothing
