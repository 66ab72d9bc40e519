-- Names that stand once have numbers that stand once, and that are below their count.
use Rattle.std.proofs.Common.{◌≡◌, ◌<◌, ◌≤◌, ◌+◌, inl, inr, ℕ, Bool, true, false, cond, List, [], ◌∷◌, ◌++◌, length, map, Less, nat_eq}
use Rattle.std.proofs.Common.{bytes_eq, refl, sym, ap, subst, ◌∙◌, arith, true≢false}
use Rattle.std.specs.Prelude.{◌||◌}
use Rattle.std.specs.List.{count_by, list_any}
use Rattle.std.specs.Ordering.{is_eq, is_lt, ordering_reverse}
use Rattle.std.specs.declared.cmp.Ordering.{Ordering}
use Rattle.std.specs.declared.cmp.Ordering.TheVariants.{Equal, Greater}
use Rattle.std.proofs.lemmas.Bool.{eqb-true}
use Rattle.std.proofs.lemmas.Cmp.{nat_list_cmp_total, tied_itself}
use Rattle.std.proofs.lemmas.List.Sums.{count_by-le-length, sum_by-cons}
use Rattle.std.proofs.lemmas.Map.Text.{is_eq-slice_cmp}
use Rattle.std.proofs.lemmas.Slice.Eq.{bytes_eq-Decides}
use Rattle.wf_val.specs.NameOrder.{bytes_cmp}
use Rattle.wf_paths.proofs.PathLemmas.{or_left, or_right, or_split}
use Rattle.wf_reading.specs.Facts.{AreOnce}
use Rattle.wf_reading.specs.Numbers.{is_below}
use Rattle.wf_reading.proofs.PartLemmas.{equal_keys}
use Rattle.wf_order.proofs.OrderLaws.{clash, two}

pub bytes_eq-same : (k : List ℕ) → bytes_eq k k ≡ true
bytes_eq-same k = (bytes_eq-Decides k k).1 refl

-- ---- counts

module _ {X : Type 0} (p : X → Bool) where
  count-more : (x : X) (xs : List X) (b : Bool) → p x ≡ b → count_by p (x ∷ xs) ≡ cond b 1 0 + count_by p xs
  count-more x xs b is = sum_by-cons (λ y. cond (p y) 1 0) x xs ∙ ap (λ c. cond c 1 0 + count_by p xs) is

  count-step : (x : X) (xs : List X) → count_by p xs ≤ count_by p (x ∷ xs)
  count-step x xs = elim (two (p x)) [
    | inl is ↦ omega (arith, count-more x xs true is)
    | inr is ↦ omega (arith, count-more x xs false is)
  ]

-- a name that doesn't pass isn't counted
count-short : (p : List ℕ → Bool) (k : List ℕ) (xs : List (List ℕ)) → p k ≡ false → list_any (bytes_eq k) xs ≡ true
    → count_by p xs < length xs
count-short p k [] out among = absurd (true≢false (sym among))
count-short p k (x ∷ xs) out among = elim (two (bytes_eq k x)) [
  | inl same ↦
      let this : p x ≡ false = subst (λ (y : List ℕ). p y ≡ false) (equal_keys k x same) out in
      omega (arith, count-more p x xs false this, count_by-le-length p xs)
  | inr other ↦
      let later = count-short p k xs out (sym (ap (λ b. b || list_any (bytes_eq k) xs) other) ∙ among) in
      elim (two (p x)) [
        | inl is ↦ omega (arith, later, count-more p x xs true is)
        | inr is ↦ omega (arith, later, count-more p x xs false is)
      ]
]

module _ (p q : List ℕ → Bool) (more : (x : List ℕ) → p x ≡ true → q x ≡ true) where
  count-le : (xs : List (List ℕ)) → count_by p xs ≤ count_by q xs
  count-le [] = omega arith
  count-le (x ∷ xs) = elim (two (p x)) [
    | inl is ↦ omega (arith, count-le xs, count-more p x xs true is, count-more q x xs true (more x is))
    | inr is ↦ omega (arith, count-le xs, count-more p x xs false is, count-step q x xs)
  ]

  count-less : (k : List ℕ) (xs : List (List ℕ)) → p k ≡ false → q k ≡ true → list_any (bytes_eq k) xs ≡ true
      → count_by p xs < count_by q xs
  count-less k [] less greater among = absurd (true≢false (sym among))
  count-less k (x ∷ xs) less greater among = elim (two (bytes_eq k x)) [
    | inl same ↦
        let is : k ≡ x = equal_keys k x same in
        omega (
          arith,
          count-le xs,
          count-more p x xs false (subst (λ (y : List ℕ). p y ≡ false) is less),
          count-more q x xs true (subst (λ (y : List ℕ). q y ≡ true) is greater),
        )
    | inr other ↦
        let later = count-less k xs less greater (sym (ap (λ b. b || list_any (bytes_eq k) xs) other) ∙ among) in
        elim (two (p x)) [
          | inl is ↦ omega (arith, later, count-more p x xs true is, count-more q x xs true (more x is))
          | inr is ↦ omega (arith, later, count-more p x xs false is, count-step q x xs)
        ]
  ]

-- ---- places of names

less_is : (o : Ordering) → is_lt o ≡ true → o ≡ Less
less_is Less is = refl
less_is Equal is = absurd (true≢false (sym is))
less_is Greater is = absurd (true≢false (sym is))

not_below_itself : (k : List ℕ) → is_below k k ≡ false
not_below_itself k = ap is_lt (tied_itself nat_list_cmp_total k)

-- the place of a lesser name is lesser
lesser_place : (names : List (List ℕ)) (k l : List ℕ) → bytes_cmp k l ≡ Less → list_any (bytes_eq k) names ≡ true
    → count_by (is_below k) names < count_by (is_below l) names
lesser_place names k l less among =
    count-less (is_below k) (is_below l)
    (λ n is. ap is_lt (nat_list_cmp_total.trans n k l (less_is (bytes_cmp n k) is) less))
    k names (not_below_itself k) (ap is_lt less) among

pub same_place : (names : List (List ℕ)) (k l : List ℕ) → list_any (bytes_eq k) names ≡ true → list_any (bytes_eq l) names ≡ true
    → count_by (is_below k) names ≡ count_by (is_below l) names → k ≡ l
same_place names k l has_k has_l same = elim (bytes_cmp k l) as (λ (o : Ordering). bytes_cmp k l ≡ o → k ≡ l) [
  | Less ↦ λ is. absurd (omega (arith, same, lesser_place names k l is has_k))
  | Equal ↦ λ is. equal_keys k l (sym (is_eq-slice_cmp k l) ∙ ap is_eq is)
  | Greater ↦ λ is. absurd (omega (arith, same, lesser_place names l k (nat_list_cmp_total.antisymm l k ∙ ap ordering_reverse is) has_l))
] refl

pub place_below : (names : List (List ℕ)) (k : List ℕ) → list_any (bytes_eq k) names ≡ true → count_by (is_below k) names < length names
place_below names k among = count-short (is_below k) k names (not_below_itself k) among

-- ---- numbers that stand once

abbrev pub AreApart : List ℕ → Type 0
AreApart [] = Unit {0}
AreApart (n ∷ ns) = (list_any (nat_eq n) ns ≡ false) × AreApart ns

pub any-append : (t : ℕ → Bool) (xs ys : List ℕ) → list_any t (xs ++ ys) ≡ (list_any t xs || list_any t ys)
any-append t [] ys = refl
any-append t (x ∷ xs) ys = elim (two (t x)) [
  | inl is ↦ ap (λ b. b || list_any t (xs ++ ys)) is ∙ sym (ap (λ b. (b || list_any t xs) || list_any t ys) is)
  | inr is ↦ ap (λ b. b || list_any t (xs ++ ys)) is ∙ any-append t xs ys ∙ sym (ap (λ b. (b || list_any t xs) || list_any t ys) is)
]

pub none-first : (b c : Bool) → (b || c) ≡ false → b ≡ false
none-first true c is = is
none-first false c is = refl

none-second : (b c : Bool) → (b || c) ≡ false → c ≡ false
none-second true c is = absurd (true≢false is)
none-second false c is = is

pub apart-first : (xs ys : List ℕ) → AreApart (xs ++ ys) → AreApart xs
apart-first [] ys apart = tt
apart-first (x ∷ xs) ys apart =
    (none-first (list_any (nat_eq x) xs) (list_any (nat_eq x) ys) (sym (any-append (nat_eq x) xs ys) ∙ apart.0), apart-first xs ys apart.1)

pub apart-second : (xs ys : List ℕ) → AreApart (xs ++ ys) → AreApart ys
apart-second [] ys apart = apart
apart-second (x ∷ xs) ys apart = apart-second xs ys apart.1

pub apart-between : (xs ys : List ℕ) → AreApart (xs ++ ys) → (m : ℕ) → list_any (nat_eq m) xs ≡ true → list_any (nat_eq m) ys ≡ false
apart-between [] ys apart m among = absurd (true≢false (sym among))
apart-between (x ∷ xs) ys apart m among = elim (or_split (nat_eq m x) (list_any (nat_eq m) xs) among) [
  | inl is ↦ subst (λ (k : ℕ). list_any (nat_eq k) ys ≡ false) (sym (eqb-true m x is))
      (none-second (list_any (nat_eq x) xs) (list_any (nat_eq x) ys) (sym (any-append (nat_eq x) xs ys) ∙ apart.0))
  | inr later ↦ apart-between xs ys apart.1 m later
]

module _ (f : List ℕ → ℕ) where
  alone : (n : List ℕ) (ns : List (List ℕ)) → list_any (bytes_eq n) ns ≡ false
      → ((m : List ℕ) → list_any (bytes_eq m) ns ≡ true → f n ≡ f m → n ≡ m) → list_any (nat_eq (f n)) (map f ns) ≡ false
  alone n [] other apart = refl
  alone n (m ∷ ns) other apart = elim (two (nat_eq (f n) (f m))) [
    | inl same ↦
        let is : n ≡ m = apart m (or_left (bytes_eq m m) (list_any (bytes_eq m) ns) (bytes_eq-same m)) (eqb-true (f n) (f m) same) in
        absurd (clash (bytes_eq n m) (subst (λ (k : List ℕ). bytes_eq n k ≡ true) is (bytes_eq-same n))
        (none-first (bytes_eq n m) (list_any (bytes_eq n) ns) other))
    | inr differ ↦ ap (λ b. b || list_any (nat_eq (f n)) (map f ns)) differ
        ∙ alone n ns (none-second (bytes_eq n m) (list_any (bytes_eq n) ns) other)
        (λ k among. apart k (or_right (bytes_eq k m) (list_any (bytes_eq k) ns) among))
  ]

  -- names that stand once, of which f tells any two apart
  pub apart-map : (names : List (List ℕ))
      → ((k l : List ℕ) → list_any (bytes_eq k) names ≡ true → list_any (bytes_eq l) names ≡ true → f k ≡ f l → k ≡ l)
      → AreOnce names → AreApart (map f names)
  apart-map [] apart once = tt
  apart-map (n ∷ ns) apart once = (
    alone n ns once.0 (λ m among. apart n m (or_left (bytes_eq n n) (list_any (bytes_eq n) ns) (bytes_eq-same n))
        (or_right (bytes_eq m n) (list_any (bytes_eq m) ns) among)),
    apart-map ns (λ k l has_k has_l. apart k l (or_right (bytes_eq k n) (list_any (bytes_eq k) ns) has_k)
        (or_right (bytes_eq l n) (list_any (bytes_eq l) ns) has_l)) once.1,
  )

  pub below-map : (names : List (List ℕ)) (n : ℕ) → ((k : List ℕ) → list_any (bytes_eq k) names ≡ true → f k < n) → (m : ℕ)
      → list_any (nat_eq m) (map f names) ≡ true → m < n
  below-map [] n below m among = absurd (true≢false (sym among))
  below-map (k ∷ ks) n below m among = elim (or_split (nat_eq m (f k)) (list_any (nat_eq m) (map f ks)) among) [
    | inl is ↦ subst (λ (x : ℕ). x < n) (sym (eqb-true m (f k) is))
        (below k (or_left (bytes_eq k k) (list_any (bytes_eq k) ks) (bytes_eq-same k)))
    | inr later ↦ below-map ks n (λ j has_j. below j (or_right (bytes_eq j k) (list_any (bytes_eq j) ks) has_j)) m later
  ]
