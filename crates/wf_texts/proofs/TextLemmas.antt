-- The least of pointers from parts: one part more.
use Rattle.std.proofs.Common.{◌≡◌, ◌+◌, ◌<◌, ℕ, suc, List, [], ◌∷◌, ◌++◌, map, length, drop, get_or, drop-cons, Option, None, option_map, add-one, sym, ap, ◌∙◌}
use Rattle.wf_kinds.specs.Pointer.{item_step, lesser, least}
use Rattle.wf_kinds.proofs.PointerLemmas.{lesser-assoc, lesser-none, least-append, least-front}

-- names that an attribute can write
pub least_append : (ps qs : List (List ℕ)) → least (ps ++ qs) ≡ lesser (least ps) (least qs)
least_append = least-append

pub least_front : (s : List ℕ) (ps : List (List ℕ)) → least (map (λ p. s ++ p) ps) ≡ option_map (λ p. s ++ p) (least ps)
least_front = least-front

pub least_end : (ps : List (List ℕ)) → least (ps ++ []) ≡ least ps
least_end ps = least-append ps [] ∙ lesser-none (least ps)

pub lesser_none : (p : Option (List ℕ)) → lesser p None ≡ p
lesser_none = lesser-none

-- the best so far has become best'
pub more : (ps qs : List (List ℕ)) (best best' : Option (List ℕ)) → best' ≡ lesser best (least ps)
    → lesser best' (least qs) ≡ lesser best (least (ps ++ qs))
more ps qs best best' now =
    ap (λ o. lesser o (least qs)) now ∙ sym (lesser-assoc best (least ps) (least qs)) ∙ ap (lesser best) (sym (least-append ps qs))

pub part_more : (step : List ℕ) (ps qs : List (List ℕ)) (best best' rest : Option (List ℕ))
    → rest ≡ least ps → best' ≡ lesser best (option_map (λ p. step ++ p) rest)
    → lesser best' (least qs) ≡ lesser best (least (map (λ p. step ++ p) ps ++ qs))
part_more step ps qs best best' rest found now =
    more (map (λ p. step ++ p) ps) qs best best'
    (now ∙ ap (lesser best) (ap (option_map (λ p. step ++ p)) found ∙ sym (least-front step ps)))

-- the same of the item at a place, where the rest begins at the next
pub item_more : (place : ℕ) (ps : List (List ℕ)) (qs : ℕ → List (List ℕ)) (best best' rest : Option (List ℕ))
    → rest ≡ least ps → best' ≡ lesser best (option_map (λ p. item_step place ++ p) rest)
    → lesser best' (least (qs (place + 1))) ≡ lesser best (least (map (λ p. item_step place ++ p) ps ++ qs (suc place)))
item_more place ps qs best best' rest found now = rw add-one (part_more (item_step place) ps (qs (suc place)) best best' rest found now)

-- a step in front of what was found
pub under : (step : List ℕ) (ps : List (List ℕ)) (found : Option (List ℕ)) → found ≡ least ps
    → option_map (λ p. step ++ p) found ≡ least (map (λ p. step ++ p) ps)
under step ps found is = ap (option_map (λ p. step ++ p)) is ∙ sym (least-front step ps)

-- the list from a place on
pub drop_at_place : {X : Type 0} (xs : List X) (i : ℕ) (x : X) → i < length xs → x ≡ get_or xs i x → drop i xs ≡ x ∷ drop (i + 1) xs
drop_at_place xs i x within is = rw add-one (drop-cons xs i x within ∙ ap (λ y. y ∷ drop (suc i) xs) (sym is))
