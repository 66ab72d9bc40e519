-- The first piece, and the pieces of what is behind it.
use Rattle.std.proofs.Common.{◌≡◌, ℕ, zero, suc, ◌-◌, ◌<◌, List, [], ◌∷◌, ◌++◌, length, map, take, drop, refl, sym, ◌∙◌, ap, arith}
use Rattle.std.proofs.Common.{append_assoc}
use Rattle.std.proofs.lemmas.List.{append-nil}
use Rattle.std.proofs.lemmas.Str.{encodes-chars, length-le-encodes}
use Rattle.std.specs.List.{flat_map}
use Rattle.std.specs.Str.{chars, encode_utf8_all, IsUtf8}
use Rattle.wf_fn_list.specs.Chunks.{onto_first, pieces_from, chunks}

-- one item, and so many more where there are so many
cut : {X : Type 0} (others room : ℕ) (x : X) (xs : List X) → pieces_from others room (x ∷ xs)
    ≡ (x ∷ take room xs) ∷ pieces_from others others (drop room xs)
cut others zero x xs = refl
cut others (suc room) x [] = refl
cut others (suc room) x (y ∷ ys) = ap (onto_first x) (cut others room y ys)

-- an item in front of the first piece is in front of all
joined-onto : {X : Type 0} (x : X) (pieces : List (List X)) → flat_map (λ piece. piece) (onto_first x pieces)
    ≡ x ∷ flat_map (λ piece. piece) pieces
joined-onto x [] = refl
joined-onto x (piece ∷ pieces) = refl

joined-from : {X : Type 0} (others room : ℕ) (xs : List X) → flat_map (λ piece. piece) (pieces_from others room xs) ≡ xs
joined-from others room [] = refl
joined-from others zero (x ∷ xs) = ap (λ l. x ∷ l) (joined-from others others xs)
joined-from others (suc room) (x ∷ xs) = joined-onto x (pieces_from others room xs) ∙ ap (λ l. x ∷ l) (joined-from others room xs)

-- the pieces joined
pub chunks-joined : {X : Type 0} (size : ℕ) (xs : List X) → flat_map (λ piece. piece) (chunks size xs) ≡ xs
chunks-joined size xs = joined-from (size - 1) (size - 1) xs

pub chunks-cons : {X : Type 0} (size : ℕ) (xs : List X) → 0 < size → 0 < length xs → chunks size xs
    ≡ take size xs ∷ chunks size (drop size xs)
chunks-cons zero xs some full = absurd (omega (arith, some))
chunks-cons (suc others) [] some full = absurd (omega (arith, full))
chunks-cons (suc others) (x ∷ xs) some full =
    let one_less : suc others - 1 ≡ others = omega arith in
    ap (λ n. pieces_from n n (x ∷ xs)) one_less
    ∙ cut others others x xs
    ∙ ap (λ n. (x ∷ take others xs) ∷ pieces_from n n (drop others xs)) (sym one_less)

-- one more piece is cut off
pub piece-cut : {X Z : Type 0} (shown : List X → Z) (size : ℕ) (xs : List X) (done now : List Z) → 0 < size → 0 < length xs → now
    ≡ done ++ shown (take size xs) ∷ []
    → now ++ map shown (chunks size (drop size xs)) ≡ done ++ map shown (chunks size xs)
piece-cut shown size xs done now some full is =
    ap (λ l. l ++ map shown (chunks size (drop size xs))) is
    ∙ append_assoc done (shown (take size xs) ∷ []) (map shown (chunks size (drop size xs)))
    ∙ ap (λ l. done ++ map shown l) (sym (chunks-cons size xs some full))

-- nothing is left
pub all-cut : {X Z : Type 0} (shown : List X → Z) (size : ℕ) (xs : List X) (done : List Z) → length xs ≡ 0
    → done ++ map shown (chunks size xs) ≡ done
all-cut shown size [] done none = append-nil done
all-cut shown size (x ∷ xs) done none = absurd (omega (arith, none))

-- a text has characters where it has bytes
some-bytes : (cs bs : List ℕ) → encode_utf8_all cs ≡ bs → 0 < length bs → 0 < length cs
some-bytes [] bs is full = absurd (omega (arith, ap length is))
some-bytes (c ∷ cs) bs is full = omega arith

pub some-characters : (bs : List ℕ) → IsUtf8 bs → 0 < length bs → 0 < length (chars bs)
some-characters bs utf8 full = some-bytes (chars bs) bs (encodes-chars bs utf8) full

pub no-characters : (bs : List ℕ) → IsUtf8 bs → length bs ≡ 0 → length (chars bs) ≡ 0
no-characters bs utf8 none =
    omega (arith, none, length-le-encodes (chars bs), ap length (encodes-chars bs utf8))
