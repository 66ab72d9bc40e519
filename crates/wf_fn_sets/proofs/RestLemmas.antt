-- What is done of a list, and what is left of it.
use Rattle.std.proofs.Common.{◌≡◌, ℕ, ◌+◌, ◌<◌, List, [], ◌∷◌, ◌++◌, append_assoc, length, map, drop, get_or, ap, sym, ◌∙◌}
use Rattle.std.specs.List.{flat_map}
use Rattle.std.proofs.lemmas.List.Folds.{flat_map-map}
use Rattle.std.proofs.lemmas.List.{map-append, at_drop_more}

-- what is left at a place begins with the item there
pub rest-from : {X Y : Type 0} (left : List X → Y) (xs : List X) (i : ℕ) (x : X) → i < length xs → x ≡ get_or xs i x → left (drop i xs)
    ≡ left (x ∷ drop (i + 1) xs)
rest-from left xs i x lt is = at_drop_more left xs i x lt ∙ ap (λ y. left (y ∷ drop (i + 1) xs)) (sym is)

-- lists that are read off, joined
pub joined_mapped : {X Y : Type 0} (f : X → List Y) (xs : List X) → flat_map (λ ys. ys) (map f xs) ≡ flat_map f xs
joined_mapped f xs = flat_map-map (λ ys. ys) f xs

-- what is done, with what comes behind it, where one more is done
pub one-more : {X Y : Type 0} (f : X → Y) (done more : List X) (x : X) (behind : List Y) → more ≡ done ++ x ∷ []
    → map f more ++ behind ≡ map f done ++ f x ∷ behind
one-more f done more x behind is =
    ap (λ l. map f l ++ behind) is ∙ ap (λ l. l ++ behind) (map-append f done (x ∷ [])) ∙ append_assoc (map f done) (f x ∷ []) behind
