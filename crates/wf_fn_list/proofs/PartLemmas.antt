-- Parts of a list that may be shorter.
use Rattle.std.proofs.Common.{◌≡◌, ℕ, zero, suc, ◌∙◌, min, List, [], ◌∷◌, length, map, take, drop, ap, sym, arith}
use Rattle.std.proofs.lemmas.List.{take-map, drop-map}

take-min : {X : Type 0} (n : ℕ) (xs : List X) → take (min n (length xs)) xs ≡ take n xs
take-min zero xs = let e : min 0 (length xs) ≡ 0 = omega arith in ap (λ k. take k xs) e
take-min (suc n) [] = let e : min (suc n) 0 ≡ 0 = omega arith in ap (λ k. take k []) e
take-min (suc n) (x ∷ xs) =
    let e : min (suc n) (suc (length xs)) ≡ suc (min n (length xs)) = omega arith in
    ap (λ k. take k (x ∷ xs)) e ∙ ap (λ ys. x ∷ ys) (take-min n xs)

drop-min : {X : Type 0} (n : ℕ) (xs : List X) → drop (min n (length xs)) xs ≡ drop n xs
drop-min zero xs = let e : min 0 (length xs) ≡ 0 = omega arith in ap (λ k. drop k xs) e
drop-min (suc n) [] = let e : min (suc n) 0 ≡ 0 = omega arith in ap (λ k. drop k []) e
drop-min (suc n) (x ∷ xs) =
    let e : min (suc n) (suc (length xs)) ≡ suc (min n (length xs)) = omega arith in
    ap (λ k. drop k (x ∷ xs)) e ∙ drop-min n xs

pub front : {X Y : Type 0} (f : X → Y) (n : ℕ) (xs : List X) → map f (take (min n (length xs)) xs) ≡ take n (map f xs)
front f n xs = ap (map f) (take-min n xs) ∙ sym (take-map f n xs)

pub rest : {X Y : Type 0} (f : X → Y) (n : ℕ) (xs : List X) → map f (drop (min n (length xs)) xs) ≡ drop n (map f xs)
rest f n xs = ap (map f) (drop-min n xs) ∙ sym (drop-map f n xs)
