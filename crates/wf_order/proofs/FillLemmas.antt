-- Tables that are filled place by place.
use Rattle.std.proofs.Common.{◌≡◌, ℕ, zero, suc, ◌+◌, ◌<◌, Bool, true, false, cond, List, [], ◌∷◌, ◌++◌, map, add-one, length, replicate, set, slice_get, unwrap_or, subst, true≢false, option_map, Option, Some, None, nat_eq, refl, sym, ap, ap₂, ◌∙◌, arith}
use Rattle.std.proofs.lemmas.Bool.{eq-eqb, eqb-true}
use Rattle.std.proofs.lemmas.List.{length-map, length-replicate, length-set, map-append}
use Rattle.wf_order.specs.Table.{PlaceTree}
use Rattle.wf_paths.specs.Table.{from}
use Rattle.wf_order.specs.Walk.{Entry, filled, is_free, put}
use Rattle.wf_order.specs.OrderSeen.{place_tree, places_seen}
use Rattle.wf_order.specs.declared.place.Place.{Place}

map_set : {X Y : Type 0} (f : X → Y) (xs : List X) (i : ℕ) (x : X) → map f (set xs i x) ≡ set (map f xs) i (f x)
map_set f [] i x = refl
map_set f (y ∷ xs) zero x = refl
map_set f (y ∷ xs) (suc i) x = ap (λ ys. f y ∷ ys) (map_set f xs i x)

within : (ps : List (Option PlaceTree)) (n : ℕ) → is_free (slice_get ps n) ≡ true → n < length ps
within [] n h = absurd (cc)
within (p ∷ ps) zero h = omega arith
within (p ∷ ps) (suc n) h = let less = within ps n h in omega (arith, less)

-- a free number is in the table
pub free_within : (ps : List (Option Place)) (n : ℕ) → is_free (slice_get (places_seen ps) n) ≡ true → n < length ps
free_within ps n h = let less = within (places_seen ps) n h in omega (arith, less, length-map ps (option_map place_tree))

-- a place that is put where it is free
pub seen_put : (ps : List (Option Place)) (n : ℕ) (p : Place) → is_free (slice_get (places_seen ps) n) ≡ true
    → places_seen (set ps n (Some p)) ≡ put (places_seen ps) n (place_tree p)
seen_put ps n p h = rw h (map_set (option_map place_tree) ps n (Some p))

replicate_more : {X : Type 0} (n : ℕ) (x : X) → replicate (suc n) x ≡ replicate n x ++ x ∷ []
replicate_more zero x = refl
replicate_more (suc n) x = ap (λ xs. x ∷ xs) (replicate_more n x)

-- one free place more
pub seen_free : (ps : List (Option Place)) (n : ℕ) → places_seen ps ≡ replicate n None →
    places_seen (ps ++ None ∷ []) ≡ replicate (n + 1) None
seen_free ps n is =
    map-append (option_map place_tree) ps (None ∷ []) ∙ ap (λ qs. qs ++ None ∷ []) is
    ∙ sym (replicate_more n None) ∙ ap (λ m. replicate m None) (sym (add-one n))

-- ---- what stands in a table that is filled

abbrev pub or_else : Option PlaceTree → Option PlaceTree → Option PlaceTree
or_else (Some p) q = Some p
or_else None q = q

-- the first place of a number among those that were found
abbrev pub first : List Entry → ℕ → Option PlaceTree
first [] m = None
first (e ∷ es) m = cond (nat_eq e.0 m) (Some e.1) (first es m)

cond_else : (b : Bool) (p : PlaceTree) (x y q : Option PlaceTree) → x ≡ or_else y q → cond b (Some p) x ≡ or_else (cond b (Some p) y) q
cond_else true p x y q is = refl
cond_else false p x y q is = is

pub first-append : (es fs : List Entry) (m : ℕ) → first (es ++ fs) m ≡ or_else (first es m) (first fs m)
first-append [] fs m = refl
first-append (e ∷ es) fs m = cond_else (nat_eq e.0 m) e.1 (first (es ++ fs) m) (first es m) (first fs m) (first-append es fs m)

-- a number of the table with what is found for it, where it was free
abbrev or_found : Option (Option PlaceTree) → Option PlaceTree → Option (Option PlaceTree)
or_found None q = None
or_found (Some o) q = Some (or_else o q)

none_found : (o : Option (Option PlaceTree)) → o ≡ or_found o None
none_found None = refl
none_found (Some None) = refl
none_found (Some (Some p)) = refl

found_then : (b : Bool) (o : Option (Option PlaceTree)) (p : PlaceTree) (q : Option PlaceTree)
    → or_found (cond b (or_found o (Some p)) o) q ≡ or_found o (cond b (Some p) q)
found_then true None p q = refl
found_then true (Some None) p q = refl
found_then true (Some (Some r)) p q = refl
found_then false o p q = refl

cond_cons : {X : Type 0} (b : Bool) (x : X) (xs ys : List X) → cond b (x ∷ xs) (x ∷ ys) ≡ x ∷ cond b xs ys
cond_cons true x xs ys = refl
cond_cons false x xs ys = refl

put-suc : (o : Option PlaceTree) (ps : List (Option PlaceTree)) (k : ℕ) (p : PlaceTree) → put (o ∷ ps) (suc k) p ≡ o ∷ put ps k p
put-suc o ps k p = cond_cons (is_free (slice_get ps k)) o (set ps k (Some p)) ps

put_same : (ps : List (Option PlaceTree)) (m : ℕ) (p : PlaceTree) → slice_get (put ps m p) m ≡ or_found (slice_get ps m) (Some p)
put_same [] m p = refl
put_same (None ∷ ps) zero p = refl
put_same (Some q ∷ ps) zero p = refl
put_same (o ∷ ps) (suc m) p = ap (λ qs. slice_get qs (suc m)) (put-suc o ps m p) ∙ put_same ps m p

put_other : (ps : List (Option PlaceTree)) (k m : ℕ) (p : PlaceTree) → (k ≡ m → ⊥) → slice_get (put ps k p) m ≡ slice_get ps m
put_other [] k m p apart = refl
put_other (o ∷ ps) zero zero p apart = absurd (apart refl)
put_other (None ∷ ps) zero (suc m) p apart = refl
put_other (Some q ∷ ps) zero (suc m) p apart = refl
put_other (o ∷ ps) (suc k) zero p apart = ap (λ qs. slice_get qs zero) (put-suc o ps k p)
put_other (o ∷ ps) (suc k) (suc m) p apart =
    ap (λ qs. slice_get qs (suc m)) (put-suc o ps k p) ∙ put_other ps k m p (λ same. apart (ap suc same))

get_put : (ps : List (Option PlaceTree)) (k m : ℕ) (p : PlaceTree)
    → slice_get (put ps k p) m ≡ cond (nat_eq k m) (or_found (slice_get ps m) (Some p)) (slice_get ps m)
get_put ps k m p = elim (nat_eq k m) as (λ b. nat_eq k m ≡ b →
    slice_get (put ps k p) m ≡ cond b (or_found (slice_get ps m) (Some p)) (slice_get ps m)) [
      | true ↦ λ is. subst (λ (j : ℕ). slice_get (put ps j p) m ≡ or_found (slice_get ps m) (Some p)) (sym (eqb-true k m is))
          (put_same ps m p)
      | false ↦ λ is. put_other ps k m p (λ same. true≢false (sym (eq-eqb k m same) ∙ is))
    ] refl

pub get_filled : (ps : List (Option PlaceTree)) (es : List Entry) (m : ℕ) →
    slice_get (filled ps es) m ≡ or_found (slice_get ps m) (first es m)
get_filled ps [] m = none_found (slice_get ps m)
get_filled ps (e ∷ es) m =
    get_filled (put ps e.0 e.1) es m
    ∙ ap (λ o. or_found o (first es m)) (get_put ps e.0 m e.1)
    ∙ found_then (nat_eq e.0 m) (slice_get ps m) e.1 (first es m)

cond_length : (b : Bool) (xs ys : List (Option PlaceTree)) → length xs ≡ length ys → length (cond b xs ys) ≡ length ys
cond_length true xs ys same = same
cond_length false xs ys same = refl

length-filled : (ps : List (Option PlaceTree)) (es : List Entry) → length (filled ps es) ≡ length ps
length-filled ps [] = refl
length-filled ps (e ∷ es) =
    length-filled (put ps e.0 e.1) es ∙ cond_length (is_free (slice_get ps e.0)) (set ps e.0 (Some e.1)) ps (length-set ps e.0 (Some e.1))

-- a list by its places
list_from : {X : Type 0} (i n : ℕ) (xs : List X) (f : ℕ → X) → length xs ≡ n → ((m : ℕ) → m < n → slice_get xs m ≡ Some (f (i + m))) →
    xs ≡ from i n f
list_from i zero [] f size at = refl
list_from i (suc n) [] f size at = absurd (omega (arith, size))
list_from i zero (x ∷ xs) f size at = absurd (omega (arith, size))
list_from i (suc n) (x ∷ xs) f size at =
    ap₂ (λ y ys. y ∷ ys) (ap (λ o. unwrap_or o x) (at zero (omega arith)) ∙ ap f (omega arith))
    (list_from (suc i) n xs f (omega (arith, size)) (λ m small. at (suc m) (omega (arith, small)) ∙ ap (λ k. Some (f k)) (omega arith)))

abbrev free : Option PlaceTree
free = None

get_free : (n m : ℕ) → m < n → slice_get (replicate n free) m ≡ Some free
get_free zero m small = absurd (omega (arith, small))
get_free (suc n) zero small = refl
get_free (suc n) (suc m) small = get_free n m (omega (arith, small))

-- a table that was free and is filled has the first place of each number
pub filled_from : (n : ℕ) (es : List Entry) → filled (replicate n None) es ≡ from 0 n (first es)
filled_from n es =
    list_from 0 n (filled (replicate n None) es) (first es) (length-filled (replicate n None) es ∙ length-replicate n None)
    (λ m small. get_filled (replicate n None) es m ∙ ap (λ o. or_found o (first es m)) (get_free n m small)
    ∙ ap (λ k. Some (first es k)) (omega arith))
