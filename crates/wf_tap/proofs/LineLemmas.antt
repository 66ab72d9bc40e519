-- Lines with their ends, in two parts.
use Rattle.std.proofs.Common.{◌≡◌, ℕ, ◌+◌, ◌<◌, List, [], ◌∷◌, ◌++◌, length, drop, get_or, flat_map}
use Rattle.std.proofs.Common.{refl, sym, ap, ◌∙◌, append_assoc, append-nil}
use Rattle.std.proofs.lemmas.List.{at_drop_more}
use Rattle.wf_tap.specs.Lines.{ended}

pub ended_append : (xs ys : List (List ℕ)) → ended (xs ++ ys) ≡ ended xs ++ ended ys
ended_append [] ys = refl
ended_append (x ∷ xs) ys =
    ap (λ l. (x ++ 10 ∷ []) ++ l) (ended_append xs ys) ∙ sym (append_assoc (x ++ 10 ∷ []) (ended xs) (ended ys))

-- what is left at a place begins with the item there
rest_from : {X Y : Type 0} (left : List X → Y) (xs : List X) (i : ℕ) (x : X) → i < length xs → x ≡ get_or xs i x
    → left (drop i xs) ≡ left (x ∷ drop (i + 1) xs)
rest_from left xs i x lt is = at_drop_more left xs i x lt ∙ ap (λ y. left (y ∷ drop (i + 1) xs)) (sym is)

-- the lines of one item more are written
pub item_written : {X : Type 0} (f : X → List (List ℕ)) (xs : List X) (i : ℕ) (x : X) (done more : List ℕ) → i < length xs
    → x ≡ get_or xs i x → more ≡ done ++ ended (f x)
    → more ++ ended (flat_map f (drop (i + 1) xs)) ≡ done ++ ended (flat_map f (drop i xs))
item_written f xs i x done more lt is written =
    let rest = flat_map f (drop (i + 1) xs) in
    ap (λ s. s ++ ended rest) written
    ∙ append_assoc done (ended (f x)) (ended rest)
    ∙ ap (λ s. done ++ s) (sym (ended_append (f x) rest))
    ∙ ap (λ s. done ++ s) (sym (rest_from (λ l. ended (flat_map f l)) xs i x lt is))

-- lines between two others
pub framed : (old a b d first last : List ℕ) (body : List (List ℕ)) → a ≡ old ++ (first ++ 10 ∷ []) → b ≡ a ++ ended body
    → d ≡ b ++ (last ++ 10 ∷ []) → d ≡ old ++ ended (first ∷ (body ++ last ∷ []))
framed old a b d first last body opened written closed =
    let before = first ++ 10 ∷ [] in
    let behind = last ++ 10 ∷ [] in
    closed
    ∙ ap (λ s. s ++ behind) (written ∙ ap (λ s. s ++ ended body) opened)
    ∙ append_assoc (old ++ before) (ended body) behind
    ∙ append_assoc old before (ended body ++ behind)
    ∙ ap (λ s. old ++ (before ++ (ended body ++ s))) (sym (append-nil behind))
    ∙ ap (λ s. old ++ (before ++ s)) (sym (ended_append body (last ∷ [])))
