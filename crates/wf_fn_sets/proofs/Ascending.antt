-- Items in an order in which some may tie: an ascending list is the only one whose items that tie stand as they stand in it.
use Rattle.std.proofs.Common.{◌≡◌, ℕ, suc, ◌+◌, List, [], ◌∷◌, refl, sym, ◌∙◌, ap, arith, cond, Bool, true, false, not, ◌&&◌, get_or, subst}
use Rattle.std.proofs.lemmas.Cmp.{upto, tied_itself}
use Rattle.std.specs.Cmp.{IsTotalOrder}
use Rattle.std.specs.List.{AllByRecursion, filter}
use Rattle.std.specs.List.Sorted.{IsSorted, ties}
use Rattle.std.specs.Ordering.{is_lt, is_gt, ordering_reverse}
use Rattle.std.specs.declared.cmp.Ordering.{Ordering}
use Rattle.std.specs.declared.cmp.Ordering.TheVariants.{Less, Equal, Greater}

pub first-same : {X : Type 0} (x y : X) (xs ys : List X) → x ∷ xs ≡ y ∷ ys → x ≡ y
first-same x y xs ys is = ap (λ l. get_or l 0 x) is

pub rest-same : {X : Type 0} (x y : X) (xs ys : List X) → x ∷ xs ≡ y ∷ ys → xs ≡ ys
rest-same x y xs ys is = ap rest is
  where
    rest : {X : Type 0} → List X → List X
    rest [] = []
    rest (z ∷ zs) = zs

not-empty : {X : Type 0} (x : X) (xs : List X) → [] ≡ x ∷ xs → ⊥
not-empty x xs is = cc

pub all-filtered : {X : Type 0} (P : X → Type 0) (test : X → Bool) (xs : List X) → AllByRecursion P xs → AllByRecursion P (filter test xs)
all-filtered P test [] all = tt
all-filtered P test (x ∷ xs) all = at (test x) (all-filtered P test xs all.1)
  where
    at : (b : Bool) → AllByRecursion P (filter test xs) → AllByRecursion P (cond b (x ∷ filter test xs) (filter test xs))
    at true rest = (all.0, rest)
    at false rest = rest

pub all-from : {X : Type 0} (P Q : X → Type 0) (xs : List X) → ((x : X) → P x → Q x) → AllByRecursion P xs → AllByRecursion Q xs
all-from P Q [] means all = tt
all-from P Q (x ∷ xs) means all = (means x all.0, all-from P Q xs means all.1)

pub all-everywhere : {X : Type 0} (P : X → Type 0) (xs : List X) → ((x : X) → P x) → AllByRecursion P xs
all-everywhere P [] holds = tt
all-everywhere P (x ∷ xs) holds = (holds x, all-everywhere P xs holds)

module _ {X : Type 0} (R : X → X → Ordering) (o : IsTotalOrder R) where
  abbrev pub is_tied : X → X → Bool
  is_tied = ties (λ x y. is_lt (R x y))

  -- no item is above one behind it
  abbrev pub IsAscending : List X → Type 0
  IsAscending [] = Unit {0}
  IsAscending (x ∷ xs) = AllByRecursion (λ y. is_gt (R x y) ≡ false) xs × IsAscending xs

  turned : (o : Ordering) → is_lt (ordering_reverse o) ≡ false → is_gt o ≡ false
  turned Less is = refl
  turned Equal is = refl
  turned Greater is = absurd (cc)

  all-above : (x y : X) (zs : List X) → is_gt (R x y) ≡ false → AllByRecursion (λ z. is_gt (R y z) ≡ false) zs
      → AllByRecursion (λ z. is_gt (R x z) ≡ false) zs
  all-above x y zs le all = all-from (λ z. is_gt (R y z) ≡ false) (λ z. is_gt (R x z) ≡ false) zs (λ z. upto o x y z le) all

  -- what a sort ensures, by recursion
  pub ascending-from_sorted : (xs : List X) → IsSorted R xs → IsAscending xs
  ascending-from_sorted [] up = tt
  ascending-from_sorted (x ∷ []) up = (tt, tt)
  ascending-from_sorted (x ∷ y ∷ ys) up =
      let rest = ascending-from_sorted (y ∷ ys) (λ k d low high. next k d (up (suc k) d (omega arith) (omega (arith, high)))) in
      let le = turned (R x y) (ap is_lt (sym (o.antisymm y x)) ∙ up 0 x (omega arith) (omega arith)) in
      ((le, all-above x y ys le rest.0), rest)
    where
      next : (k : ℕ) (d : X) → is_lt (R (get_or (x ∷ y ∷ ys) (suc k + 1) d) (get_or (x ∷ y ∷ ys) (suc k) d)) ≡ false
          → is_lt (R (get_or (y ∷ ys) (k + 1) d) (get_or (y ∷ ys) k d)) ≡ false
      next k d is =
          let one : suc k + 1 ≡ suc (k + 1) = omega arith in
          ap (λ n. is_lt (R (get_or (x ∷ y ∷ ys) n d) (get_or (y ∷ ys) k d))) (sym one) ∙ is

  tied-self : (x : X) → is_tied x x ≡ true
  tied-self x = ap (λ r. not (is_lt r) && not (is_lt r)) (tied_itself o x)

  both-le : (r : Ordering) → is_gt r ≡ false → is_gt (ordering_reverse r) ≡ false → not (is_lt r) && not (is_lt (ordering_reverse r)) ≡ true
  both-le Less one other = absurd (cc)
  both-le Equal one other = refl
  both-le Greater one other = absurd (cc)

  pub tied-between : (x y : X) → is_gt (R x y) ≡ false → is_gt (R y x) ≡ false → is_tied x y ≡ true
  tied-between x y one other =
      ap (λ r. not (is_lt (R x y)) && not (is_lt r)) (o.antisymm y x)
      ∙ both-le (R x y) one (ap is_gt (sym (o.antisymm y x)) ∙ other)

  and-swapped : (a b : Bool) → a && b ≡ b && a
  and-swapped true true = refl
  and-swapped true false = refl
  and-swapped false true = refl
  and-swapped false false = refl

  tied-swapped : (x y : X) → is_tied x y ≡ is_tied y x
  tied-swapped x y = and-swapped (not (is_lt (R x y))) (not (is_lt (R y x)))

  -- those that tie with an item stand alike in two lists
  abbrev pub StandAlike : List X → List X → X → Type 0
  StandAlike xs ys z = filter (is_tied z) xs ≡ filter (is_tied z) ys

  self-front : (x : X) (xs : List X) → filter (is_tied x) (x ∷ xs) ≡ x ∷ filter (is_tied x) xs
  self-front x xs = ap (λ b. cond b (x ∷ filter (is_tied x) xs) (filter (is_tied x) xs)) (tied-self x)

  -- an item that stands alike in a list where the first doesn't tie with it isn't below the first
  above-first : (x y : X) (xs ys : List X) → is_tied x y ≡ false → AllByRecursion (λ z. is_gt (R y z) ≡ false) ys
      → StandAlike (x ∷ xs) (y ∷ ys) x → is_gt (R y x) ≡ false
  above-first x y xs ys apart up alike =
      let is : filter (is_tied x) ys ≡ x ∷ filter (is_tied x) xs =
      sym (ap (λ b. cond b (y ∷ filter (is_tied x) ys) (filter (is_tied x) ys)) apart) ∙ sym alike ∙ self-front x xs in
      (subst (AllByRecursion (λ z. is_gt (R y z) ≡ false)) is (all-filtered (λ z. is_gt (R y z) ≡ false) (is_tied x) ys up)).0

  firsts-tied : (x y : X) (xs ys : List X) (b : Bool) → b ≡ is_tied x y → IsAscending (x ∷ xs) → IsAscending (y ∷ ys)
      → StandAlike (x ∷ xs) (y ∷ ys) x → StandAlike (x ∷ xs) (y ∷ ys) y → is_tied x y ≡ true
  firsts-tied x y xs ys true is up down at_x at_y = sym is
  firsts-tied x y xs ys false is up down at_x at_y =
      tied-between x y (above-first y x ys xs (tied-swapped y x ∙ sym is) up.0 (sym at_y)) (above-first x y xs ys (sym is) down.0 at_x)

  firsts-same : (x y : X) (xs ys : List X) → IsAscending (x ∷ xs) → IsAscending (y ∷ ys)
      → StandAlike (x ∷ xs) (y ∷ ys) x → StandAlike (x ∷ xs) (y ∷ ys) y → x ≡ y
  firsts-same x y xs ys up down at_x at_y =
      let tied = firsts-tied x y xs ys (is_tied x y) refl up down at_x at_y in
      first-same x y (filter (is_tied x) xs) (filter (is_tied x) ys)
      (sym (self-front x xs) ∙ at_x ∙ ap (λ b. cond b (y ∷ filter (is_tied x) ys) (filter (is_tied x) ys)) tied)

  rests-alike : (x z : X) (xs ys : List X) → StandAlike (x ∷ xs) (x ∷ ys) z → StandAlike xs ys z
  rests-alike x z xs ys alike = at (is_tied z x) alike
    where
      at : (b : Bool) → cond b (x ∷ filter (is_tied z) xs) (filter (is_tied z) xs)
          ≡ cond b (x ∷ filter (is_tied z) ys) (filter (is_tied z) ys)
          → filter (is_tied z) xs ≡ filter (is_tied z) ys
      at true is = rest-same x x (filter (is_tied z) xs) (filter (is_tied z) ys) is
      at false is = is

  pub same-from_ascending : (xs ys : List X) → IsAscending xs → IsAscending ys → AllByRecursion (StandAlike xs ys) xs
      → AllByRecursion (StandAlike xs ys) ys → xs ≡ ys
  same-from_ascending [] [] up down one other = refl
  same-from_ascending [] (y ∷ ys) up down one other = absurd (not-empty y (filter (is_tied y) ys) (other.0 ∙ self-front y ys))
  same-from_ascending (x ∷ xs) [] up down one other = absurd (not-empty x (filter (is_tied x) xs) (sym one.0 ∙ self-front x xs))
  same-from_ascending (x ∷ xs) (y ∷ ys) up down one other =
      let is = firsts-same x y xs ys up down one.0 other.0 in
      let alike : (z : X) → StandAlike (x ∷ xs) (y ∷ ys) z → StandAlike xs ys z =
      λ z h. rests-alike x z xs ys (h ∙ ap (λ w. filter (is_tied z) (w ∷ ys)) (sym is)) in
      ap (λ w. w ∷ xs) is ∙ ap (λ l. y ∷ l) (same-from_ascending xs ys up.1 down.1
      (all-from (StandAlike (x ∷ xs) (y ∷ ys)) (StandAlike xs ys) xs alike one.1)
      (all-from (StandAlike (x ∷ xs) (y ∷ ys)) (StandAlike xs ys) ys alike other.1))
