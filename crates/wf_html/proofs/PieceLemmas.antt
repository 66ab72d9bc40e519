-- Pieces in a row are written one after the other.
use Rattle.std.proofs.Common.{◌≡◌, ℕ, List, [], ◌∷◌, ◌++◌, flat_map, refl, sym, ap, ◌∙◌, append_assoc, append-nil}
use Rattle.wf_html.specs.Html.{Piece, piece_text, written}

pub written_append : (done : List ℕ) (ps qs : List Piece) → written done (ps ++ qs) ≡ written (written done ps) qs
written_append done [] qs = refl
written_append done (p ∷ ps) qs = written_append (done ++ piece_text p) ps qs

pub written_flat : (done : List ℕ) (ps : List Piece) → written done ps ≡ done ++ flat_map piece_text ps
written_flat done [] = sym (append-nil done)
written_flat done (p ∷ ps) = written_flat (done ++ piece_text p) ps ∙ append_assoc done (piece_text p) (flat_map piece_text ps)
