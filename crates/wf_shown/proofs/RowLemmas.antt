-- Where the rows of an action stand among those of a record; and the first rows, and the others.
use Rattle.std.proofs.Common.{◌≡◌, ℕ, zero, suc, ◌+◌, ◌-◌, ◌<◌, ◌≤◌, Bool, true, false, List, [], ◌∷◌, length, get_or, take, drop, map, min, Option, Ordering, Less, Equal, Greater, cond, is_eq, refl, sym, ap, ◌∙◌, subst, arith, add-one, drop-cons}
use Rattle.std.specs.List.{AllByRecursion, AllWithin, filter}
use Rattle.std.specs.List.Sorted.{IsNonDecreasingBy, IsPartitionPoint, IsPartitionedBy}
use Rattle.std.specs.Ordering.{is_lt, ordering_index, ordering_reverse, ordering_then}
use Rattle.std.proofs.lemmas.Cmp.{nat_list_cmp_total}
use Rattle.std.proofs.lemmas.List.{get_or-drop, take_all, take_min, take-map, drop-map, length-drop}
use Rattle.std.proofs.lemmas.List.Sorted.{IsNonDecreasingBy-drop}
use Rattle.wf_lists.specs.KeyOrder.{IsInKeyOrder}
use Rattle.wf_record.specs.Record.{RowTree}
use Rattle.wf_record.specs.Seen.{row_tree}
use Rattle.wf_record.specs.declared.row.Row.{Row}
use Rattle.wf_val.specs.Address.{address_cmp}
use Rattle.wf_val.specs.NameOrder.{bytes_cmp}
use Rattle.wf_shown.specs.Rows.{is_of, most_shown, rows_of, rows_pieces, several}

-- ---- the order of names

abbrev Name : Type 0
Name = List ℕ

-- of two names in order the first is no further behind a third than the second
rank_under : (a b k : Name) (o : Ordering) → bytes_cmp b k ≡ o → bytes_cmp a b ≡ Less
    → ordering_index (bytes_cmp a k) ≤ ordering_index o
rank_under a b k Less is less = rw (nat_list_cmp_total.trans a b k less is) (omega arith)
rank_under a b k Equal is less =
    let same : bytes_cmp a b ≡ bytes_cmp a k =
    nat_list_cmp_total.antisymm a b ∙ ap ordering_reverse (nat_list_cmp_total.congr b k a is) ∙ sym (nat_list_cmp_total.antisymm a k) in
    rw (sym same ∙ less) (omega arith)
rank_under a b k Greater is less =
    elim (bytes_cmp a k) as (λ o. ordering_index o ≤ 2) [ Less ↦ omega arith | Equal ↦ omega arith | Greater ↦ omega arith ]

rank_tied : (a b k : Name) → bytes_cmp a b ≡ Equal → ordering_index (bytes_cmp a k) ≤ ordering_index (bytes_cmp b k)
rank_tied a b k tie = rw (nat_list_cmp_total.congr a b k tie) (omega arith)

rank_rises : (a b k : Name) (o p : Ordering) → bytes_cmp a b ≡ o → ordering_then o p ≡ Less
    → ordering_index (bytes_cmp a k) ≤ ordering_index (bytes_cmp b k)
rank_rises a b k Less p is less = rank_under a b k (bytes_cmp b k) refl is
rank_rises a b k Equal p is less = rank_tied a b k is
rank_rises a b k Greater p is less = absurd (cc)

abbrev rank : Name → Row → ℕ
rank k r = ordering_index (bytes_cmp r.address.name k)

all_at : (P : Row → Type 0) (xs : List Row) (j : ℕ) (d : Row) → j < length xs → AllByRecursion P xs → P (get_or xs j d)
all_at P [] j d lt all = absurd (omega arith)
all_at P (x ∷ xs) zero d lt all = all.0
all_at P (x ∷ xs) (suc j) d lt all = all_at P xs j d (omega arith) all.1

ranks_rise : (k : Name) (xs : List Row) → IsInKeyOrder address_cmp (λ r. r.address) xs → IsNonDecreasingBy (rank k) xs
ranks_rise k [] order i j d le lt = absurd (omega arith)
ranks_rise k (x ∷ xs) order zero zero d le lt = omega arith
ranks_rise k (x ∷ xs) order zero (suc j) d le lt =
    let y : Row = get_or xs j d in
    let less = all_at (λ y. address_cmp x.address y.address ≡ Less) xs j d (omega arith) order.0 in
    rank_rises x.address.name y.address.name k _ _ refl less
ranks_rise k (x ∷ xs) order (suc i) zero d le lt = absurd (omega arith)
ranks_rise k (x ∷ xs) order (suc i) (suc j) d le lt = ranks_rise k xs order.1 i j d (omega arith) (omega arith)

-- ---- the tests of the searches

abbrev pub is_before : Name → Row → Bool
is_before k r = is_lt (bytes_cmp r.address.name k)

abbrev pub is_at : Name → Row → Bool
is_at k r = is_eq (bytes_cmp r.address.name k)

before-rank : (o : Ordering) → is_lt o ≡ true → ordering_index o ≡ 0
before-rank Less is = refl
before-rank Equal is = absurd (cc)
before-rank Greater is = absurd (cc)

rank-before : (o : Ordering) → ordering_index o ≤ 0 → is_lt o ≡ true
rank-before Less le = refl
rank-before Equal le = absurd (omega (arith, le))
rank-before Greater le = absurd (omega (arith, le))

at-rank : (o : Ordering) → is_eq o ≡ true → ordering_index o ≡ 1
at-rank Less is = absurd (cc)
at-rank Equal is = refl
at-rank Greater is = absurd (cc)

rank-at : (o : Ordering) → is_lt o ≡ false → ordering_index o ≤ 1 → is_eq o ≡ true
rank-at Less is le = absurd (cc)
rank-at Equal is le = refl
rank-at Greater is le = absurd (omega (arith, le))

pub parted_before : (k : Name) (xs : List Row) → IsInKeyOrder address_cmp (λ r. r.address) xs → IsPartitionedBy (is_before k) xs
parted_before k xs order i j d le lt is =
    let rise = ranks_rise k xs order i j d le lt in
    let zero' = before-rank (bytes_cmp (get_or xs j d).address.name k) is in
    rank-before (bytes_cmp (get_or xs i d).address.name k) (omega (arith, rise, zero'))

pub parted_at : (k : Name) (xs : List Row) → IsNonDecreasingBy (rank k) xs
    → ((i : ℕ) (d : Row) → i < length xs → is_before k (get_or xs i d) ≡ false) → IsPartitionedBy (is_at k) xs
parted_at k xs rises none i j d le lt is =
    let rise = rises i j d le lt in
    let one = at-rank (bytes_cmp (get_or xs j d).address.name k) is in
    rank-at (bytes_cmp (get_or xs i d).address.name k) (none i d (omega (arith, le, lt))) (omega (arith, rise, one))

-- ---- what they find

-- what passes no test is left out
filter_skip : (q : Row → Bool) (f : ℕ) (xs : List Row) → ((i : ℕ) (d : Row) → i < f → q (get_or xs i d) ≡ false)
    → filter q xs ≡ filter q (drop f xs)
filter_skip q zero xs none = refl
filter_skip q (suc f) [] none = refl
filter_skip q (suc f) (x ∷ xs) none = rw (none 0 x (omega arith)) (filter_skip q f xs (λ i d lt. none (suc i) d (omega (arith, lt))))

filter_none : (q : Row → Bool) (xs : List Row) → ((i : ℕ) (d : Row) → i < length xs → q (get_or xs i d) ≡ false) → filter q xs ≡ []
filter_none q [] none = refl
filter_none q (x ∷ xs) none = rw (none 0 x (omega arith)) (filter_none q xs (λ i d lt. none (suc i) d (omega (arith, lt))))

filter_front : (q : Row → Bool) (m : ℕ) (xs : List Row) → m ≤ length xs → ((i : ℕ) (d : Row) → i < m → q (get_or xs i d) ≡ true)
    → ((i : ℕ) (d : Row) → m ≤ i → i < length xs → q (get_or xs i d) ≡ false) → filter q xs ≡ take m xs
filter_front q zero xs le all none = filter_none q xs (λ i d lt. none i d (omega arith) lt)
filter_front q (suc m) [] le all none = absurd (omega (arith, le))
filter_front q (suc m) (x ∷ xs) le all none =
    rw (all 0 x (omega arith)) (
    ap (λ ys. x ∷ ys) (filter_front q m xs (omega (arith, le)) (λ i d lt. all (suc i) d (omega (arith, lt)))
    (λ i d le' lt. none (suc i) d (omega (arith, le')) (omega (arith, lt))))
    )

filter_tree : (k : Name) (xs : List Row) → map row_tree (filter (is_at k) xs) ≡ rows_of k (map row_tree xs)
filter_tree k [] = refl
filter_tree k (x ∷ xs) =
    elim (is_eq (bytes_cmp x.address.name k)) as (λ b. map row_tree (cond b (x ∷ filter (is_at k) xs) (filter (is_at k) xs))
    ≡ cond b (row_tree x ∷ rows_of k (map row_tree xs)) (rows_of k (map row_tree xs))) [
      | true ↦ ap (λ rs. row_tree x ∷ rs) (filter_tree k xs)
      | false ↦ filter_tree k xs
    ]

before-not_at : (o : Ordering) → is_lt o ≡ true → is_eq o ≡ false
before-not_at Less is = refl
before-not_at Equal is = absurd (cc)
before-not_at Greater is = refl

pub from_on : (xs : List Row) (f : ℕ) → take (length xs - f) (drop f xs) ≡ drop f xs
from_on xs f = take_all (length xs - f) (drop f xs) (rw (length-drop f xs) (omega arith))

pub not_before : (k : Name) (xs : List Row) (f : ℕ) → AllWithin (λ y. is_before k y ≡ false) xs f (length xs)
    → (i : ℕ) (d : Row) → i < length (drop f xs) → is_before k (get_or (drop f xs) i d) ≡ false
not_before k xs f behind i d lt =
    let same = get_or-drop f xs i d in
    let within : f + i < length xs = omega (arith, lt, length-drop f xs) in
    ap (is_before k) same ∙ behind (f + i) d (omega arith) within

pub rest_parted : (k : Name) (xs : List Row) (f : ℕ) → IsInKeyOrder address_cmp (λ r. r.address) xs
    → AllWithin (λ y. is_before k y ≡ false) xs f (length xs) → IsPartitionedBy (is_at k) (drop f xs)
rest_parted k xs f order behind =
    parted_at k (drop f xs) (IsNonDecreasingBy-drop (rank k) f xs (ranks_rise k xs order)) (not_before k xs f behind)

pub found : (k : Name) (xs : List Row) (f m : ℕ) → IsPartitionPoint (λ y. is_before k y ≡ true) (λ y. is_before k y ≡ false) xs f
    → m ≤ length (drop f xs) → IsPartitionPoint (λ y. is_at k y ≡ true) (λ y. is_at k y ≡ false) (drop f xs) m
    → map row_tree (take m (drop f xs)) ≡ rows_of k (map row_tree xs)
found k xs f m front le part =
    let skipped = filter_skip (is_at k) f xs (λ i d lt. before-not_at (bytes_cmp (get_or xs i d).address.name k) (front.0 i d (omega arith) lt)) in
    let taken = filter_front (is_at k) m (drop f xs) le (λ i d lt. part.0 i d (omega arith) lt) (λ i d le' lt. part.1 i d le' lt) in
    ap (map row_tree) (sym (skipped ∙ taken)) ∙ filter_tree k xs

-- ---- the first rows, and the others

drop_min : (n : ℕ) (xs : List Row) → drop (min n (length xs)) xs ≡ drop n xs
drop_min zero xs = let e : min 0 (length xs) ≡ 0 = omega arith in rw e refl
drop_min (suc n) [] = let e : min (suc n) 0 ≡ 0 = omega arith in rw e refl
drop_min (suc n) (x ∷ xs) = let e : min (suc n) (suc (length xs)) ≡ suc (min n (length xs)) = omega arith in rw e (drop_min n xs)

pub first_of : (xs : List Row) → map row_tree (take (min most_shown (length xs)) xs) ≡ take most_shown (map row_tree xs)
first_of xs = ap (map row_tree) (take_min most_shown xs) ∙ sym (take-map row_tree most_shown xs)

pub rest_of : (xs : List Row) → map row_tree (drop (min most_shown (length xs)) xs) ≡ drop most_shown (map row_tree xs)
rest_of xs = ap (map row_tree) (drop_min most_shown xs) ∙ sym (drop-map row_tree most_shown xs)

pub several_rows : (closes : Bool) (earlier : Option (List RowTree)) (rs : List RowTree) → 2 ≤ length rs
    → rows_pieces closes earlier rs ≡ several closes earlier rs
several_rows closes earlier [] le = absurd (omega (arith, le))
several_rows closes earlier (r ∷ []) le = absurd (omega (arith, le))
several_rows closes earlier (r ∷ s ∷ rs) le = refl

-- the list from a place on
pub drop_at_place : {X : Type 0} (xs : List X) (i : ℕ) (x : X) → i < length xs → x ≡ get_or xs i x → drop i xs ≡ x ∷ drop (i + 1) xs
drop_at_place xs i x within is = rw add-one (drop-cons xs i x within ∙ ap (λ y. y ∷ drop (suc i) xs) (sym is))
