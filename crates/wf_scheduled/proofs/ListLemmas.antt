-- Lists in order by what is among them.
use Rattle.std.proofs.Common.{◌≡◌, ℕ, suc, ◌&&◌, Bool, true, false, cond, List, [], ◌∷◌, length, Some, None, inl, inr, Ordering, Less, Equal, Greater, is_eq, nat_eq, bytes_eq, refl, sym, ap, ◌∙◌, subst, arith, true≢false}
use Rattle.std.proofs.lemmas.Cmp.{nat_list_cmp_total, on_total, tied_itself}
use Rattle.std.proofs.lemmas.Map.Text.{is_eq-slice_cmp}
use Rattle.std.proofs.lemmas.Option.{none-some}
use Rattle.std.specs.Cmp.{IsTotalOrder}
use Rattle.std.specs.List.{AllByRecursion}
use Rattle.std.specs.Ordering.{ordering_reverse}
use Rattle.wf_lists.specs.KeyOrder.{IsInKeyOrder, find_key, put_key, without_key}
use Rattle.wf_layers.specs.Address.{Address, is_own, same_at}
use Rattle.wf_layers.specs.Listed.{Among}
use Rattle.wf_layers.specs.Record.{key}
use Rattle.wf_scheduled.specs.Turns.{address_cmp}

pub address_total : IsTotalOrder address_cmp
address_total = on_total key nat_list_cmp_total

abbrev is_less : Ordering → Bool
is_less Less = true
is_less Equal = false
is_less Greater = false

module _ {K X : Type 0} {cmp : K → K → Ordering} (total : IsTotalOrder cmp) (key_of : X → K) where
  reversed : (k l : K) (o : Ordering) → cmp k l ≡ o → cmp l k ≡ ordering_reverse o
  reversed k l o is = total.antisymm l k ∙ ap ordering_reverse is

  not_both : (k l : K) → cmp k l ≡ Less → cmp l k ≡ Less → ⊥
  not_both k l less more = true≢false (sym (ap is_less more) ∙ ap is_less (reversed k l Less less))

  not_itself : (k : K) → cmp k k ≡ Less → ⊥
  not_itself k less = true≢false (sym (ap is_less less) ∙ ap is_less (tied_itself total k))

  all-among : (P : X → Type 0) (xs : List X) → AllByRecursion P xs → (x : X) → Among xs x → P x
  all-among P [] all x a = absurd a
  all-among P (y ∷ xs) all x (inl same) = subst P same all.0
  all-among P (y ∷ xs) all x (inr later) = all-among P xs all.1 x later

  -- what is found is among them, and what is among them is found
  pub found_among : (k : K) (xs : List X) (x : X) → find_key cmp key_of k xs ≡ Some x → Among xs x
  found_among k [] x found = absurd (none-some x found)
  found_among k (y ∷ xs) x found = by (is_eq (cmp k (key_of y))) (found_among k xs x) found
    where
      by : (b : Bool) → (find_key cmp key_of k xs ≡ Some x → Among xs x) → cond b (Some y) (find_key cmp key_of k xs) ≡ Some x
          → Among (y ∷ xs) x
      by true later found = inl cc
      by false later found = inr (later found)

  pub among_found : (xs : List X) → IsInKeyOrder cmp key_of xs → (x : X) → Among xs x → find_key cmp key_of (key_of x) xs ≡ Some x
  among_found [] order x a = absurd a
  among_found (y ∷ xs) order x (inl same) =
      subst (λ z. find_key cmp key_of (key_of z) (y ∷ xs) ≡ Some z) same (rw (tied_itself total (key_of y)) refl)
  among_found (y ∷ xs) order x (inr a) =
      rw (reversed (key_of y) (key_of x) Less (all-among (λ z. cmp (key_of y) (key_of z) ≡ Less) xs order.0 x a))
      (among_found xs order.1 x a)

  -- so lists in order that have the same among them are the same
  pub same_members : (xs ys : List X) → IsInKeyOrder cmp key_of xs → IsInKeyOrder cmp key_of ys
      → ((x : X) → Among xs x → Among ys x) → ((x : X) → Among ys x → Among xs x) → xs ≡ ys
  same_members [] [] order order' to back = refl
  same_members [] (y ∷ ys) order order' to back = absurd (back y (inl refl))
  same_members (x ∷ xs) [] order order' to back = absurd (to x (inl refl))
  same_members (x ∷ xs) (y ∷ ys) order order' to back =
      ap (λ zs. x ∷ zs)
      (same_members xs ys order.1 order'.1 (λ z a. tail_to z a (to z (inr a))) (λ z a. tail_back z a (back z (inr a))))
      ∙ ap (λ z. z ∷ ys) (heads (to x (inl refl)) (back y (inl refl)))
    where
      heads : Among (y ∷ ys) x → Among (x ∷ xs) y → x ≡ y
      heads (inl same) b = sym same
      heads (inr a) (inl same) = same
      heads (inr a) (inr b) =
          absurd (not_both (key_of x) (key_of y)
          (all-among (λ z. cmp (key_of x) (key_of z) ≡ Less) xs order.0 y b)
          (all-among (λ z. cmp (key_of y) (key_of z) ≡ Less) ys order'.0 x a))

      head : x ≡ y
      head = heads (to x (inl refl)) (back y (inl refl))

      tail_to : (z : X) → Among xs z → Among (y ∷ ys) z → Among ys z
      tail_to z a (inl same) =
          absurd (not_itself (key_of x) (subst (λ u. cmp (key_of x) (key_of u) ≡ Less) (sym same ∙ sym head)
          (all-among (λ u. cmp (key_of x) (key_of u) ≡ Less) xs order.0 z a)))
      tail_to z a (inr later) = later

      tail_back : (z : X) → Among ys z → Among (x ∷ xs) z → Among xs z
      tail_back z a (inl same) =
          absurd (not_itself (key_of y) (subst (λ u. cmp (key_of y) (key_of u) ≡ Less) (sym same ∙ head)
          (all-among (λ u. cmp (key_of y) (key_of u) ≡ Less) ys order'.0 z a)))
      tail_back z a (inr later) = later

  -- how long a list is with one more, and with one less
  pub length-put : (x : X) (xs : List X) → find_key cmp key_of (key_of x) xs ≡ None → length (put_key cmp key_of x xs) ≡ suc (length xs)
  length-put x [] none = refl
  length-put x (y ∷ xs) none = by (cmp (key_of x) (key_of y)) refl (length-put x xs)
    where
      by : (o : Ordering) → cmp (key_of x) (key_of y) ≡ o
          → (find_key cmp key_of (key_of x) xs ≡ None → length (put_key cmp key_of x xs) ≡ suc (length xs))
          → length (put_key cmp key_of x (y ∷ xs)) ≡ suc (length (y ∷ xs))
      by Less is later = rw is refl
      by Equal is later =
          absurd (none-some y (sym none ∙ ap (λ o. cond (is_eq o) (Some y) (find_key cmp key_of (key_of x) xs)) is))
      by Greater is later =
          rw is (ap suc (later (sym (ap (λ o. cond (is_eq o) (Some y) (find_key cmp key_of (key_of x) xs)) is) ∙ none)))

  pub length-without : (k : K) (xs : List X) (x : X) → find_key cmp key_of k xs ≡ Some x
      → suc (length (without_key cmp key_of k xs)) ≡ length xs
  length-without k [] x found = absurd (none-some x found)
  length-without k (y ∷ xs) x found = by (is_eq (cmp k (key_of y))) (length-without k xs x) found
    where
      by : (b : Bool) → (find_key cmp key_of k xs ≡ Some x → suc (length (without_key cmp key_of k xs)) ≡ length xs)
          → cond b (Some y) (find_key cmp key_of k xs) ≡ Some x
          → suc (length (cond b xs (y ∷ without_key cmp key_of k xs))) ≡ length (y ∷ xs)
      by true later found = refl
      by false later found = ap suc (later found)

-- ---- addresses

same_eq : (a b : ℕ) → nat_eq a b ≡ nat_eq b a
same_eq a b = grind (arith)

bytes_same : (i j : List ℕ) → bytes_eq i j ≡ same_at j i
bytes_same [] [] = refl
bytes_same [] (b ∷ j) = refl
bytes_same (a ∷ i) [] = refl
bytes_same (a ∷ i) (b ∷ j) = ap (λ q. q && bytes_eq i j) (same_eq a b) ∙ ap (λ q. nat_eq b a && q) (bytes_same i j)

pub is_own_place : (y x : Address) → is_eq (address_cmp x y) ≡ is_own y.name y.at x
is_own_place y x =
    is_eq-slice_cmp (key x) (key y)
    ∙ (ap (λ q. q && bytes_eq x.at y.at) (same_eq x.name y.name) ∙ ap (λ q. nat_eq y.name x.name && q) (bytes_same x.at y.at))
