-- The least of addresses, in other words.
use Rattle.std.proofs.Common.{◌≡◌, Bool, true, false, List, [], ◌∷◌, ◌++◌, Option, Some, None, ◌⊎◌, inl, inr, refl, sym, ap, ◌∙◌}
use Rattle.std.proofs.Common.{Ordering, Less, Equal, Greater, true≢false}
use Rattle.std.proofs.lemmas.Cmp.{tied_itself}
use Rattle.std.specs.List.{AllByRecursion}
use Rattle.std.specs.Ordering.{is_lt}
use Rattle.wf_layers.proofs.Basics.{not_true, two, unless, when}
use Rattle.wf_val.specs.Address.{address_cmp, address_total}
use Rattle.wf_val.specs.declared.address.Address.{Address}
use Rattle.wf_shaped.specs.Least.{IsLeastAt, is_below, least_from, lesser}
use Rattle.wf_shaped.proofs.ListLemmas.{In}

clash : (b : Bool) → b ≡ true → b ≡ false → ⊥
clash b yes' no' = true≢false (sym yes' ∙ no')

pub less_is : (o : Ordering) → is_lt o ≡ true → o ≡ Less
less_is Less is = refl
less_is Equal is = absurd (true≢false (sym is))
less_is Greater is = absurd (true≢false (sym is))

not_itself : (a : Address) → is_lt (address_cmp a a) ≡ false
not_itself a = ap is_lt (tied_itself address_total a)

-- what is below the lesser of both is below each
below_lesser : (o : Option Address) (x y : Address) → is_below y (lesser o x) ≡ true → is_below y o ≡ true
below_lesser None x y is = refl
below_lesser (Some a) x y is = elim (two (is_below x (Some a))) [
  | inl t ↦
      let less : is_lt (address_cmp y x) ≡ true =
      ap (is_below y) (sym (when (is_below x (Some a)) (Some x) (Some a) t)) ∙ is in
      ap is_lt (address_total.trans y x a (less_is (address_cmp y x) less) (less_is (address_cmp x a) t))
  | inr f ↦ ap (is_below y) (sym (unless (is_below x (Some a)) (Some x) (Some a) f)) ∙ is
]

pub below_least : (o : Option Address) (xs : List Address) (y : Address) → is_below y (least_from o xs) ≡ true → is_below y o ≡ true
below_least o [] y is = is
below_least o (x ∷ xs) y is = below_lesser o x y (below_least (lesser o x) xs y is)

pub not_below_lesser : (o : Option Address) (x : Address) → is_below x (lesser o x) ≡ false
not_below_lesser o x = elim (two (is_below x o)) [
  | inl t ↦ ap (is_below x) (when (is_below x o) (Some x) o t) ∙ not_itself x
  | inr f ↦ ap (is_below x) (unless (is_below x o) (Some x) o f) ∙ f
]

none_below : (o : Option Address) (xs : List Address) (y : Address) → In y xs → is_below y (least_from o xs) ≡ false
none_below o [] y h = absurd h
none_below o (x ∷ xs) y (inl here) =
    not_true (is_below y (least_from (lesser o x) xs))
    (λ t. clash (is_below y (lesser o x)) (below_least (lesser o x) xs y t)
    (ap (λ (z : Address). is_below z (lesser o x)) (sym here) ∙ not_below_lesser o x))
none_below o (x ∷ xs) y (inr later) = none_below (lesser o x) xs y later

-- it is one of them
lesser_of : (o : Option Address) (x a : Address) → lesser o x ≡ Some a → (x ≡ a) ⊎ (o ≡ Some a)
lesser_of o x a is = elim (two (is_below x o)) [
  | inl t ↦ let same : Some x ≡ Some a = sym (when (is_below x o) (Some x) o t) ∙ is in inl (cc)
  | inr f ↦ inr (sym (unless (is_below x o) (Some x) o f) ∙ is)
]

least_among : (o : Option Address) (xs : List Address) (a : Address) → least_from o xs ≡ Some a → (o ≡ Some a) ⊎ In a xs
least_among o [] a is = inl is
least_among o (x ∷ xs) a is = elim (least_among (lesser o x) xs a is) [
  | inl first ↦ elim (lesser_of o x a first) [ inl own ↦ inr (inl own) | inr other ↦ inl other ]
  | inr later ↦ inr (inr later)
]

module _ (holds : Address → Bool) (xs : List Address) (sound : (y : Address) → In y xs → holds y ≡ true)
    (complete : (y : Address) → holds y ≡ true → In y xs) where
  at_least : (o : Option Address) → least_from None xs ≡ o → IsLeastAt holds o
  at_least None is = λ y. not_true (holds y) (λ t. clash (is_below y None) refl
      (ap (is_below y) (sym is) ∙ none_below None xs y (complete y t)))
  at_least (Some a) is = (
    elim (least_among None xs a is) [ inl none ↦ absurd (cc) | inr one ↦ sound a one ],
    λ y less. not_true (holds y) (λ t. clash (is_lt (address_cmp y a)) (ap is_lt less)
        (ap (is_below y) (sym is) ∙ none_below None xs y (complete y t))),
  )

  pub is_least : IsLeastAt holds (least_from None xs)
  is_least = at_least (least_from None xs) refl

-- ---- in parts, and where none is below

pub least_joined : (o : Option Address) (xs ys : List Address) → least_from o (xs ++ ys) ≡ least_from (least_from o xs) ys
least_joined o [] ys = refl
least_joined o (x ∷ xs) ys = least_joined (lesser o x) xs ys

pub least_stays : (o : Option Address) (xs : List Address) → AllByRecursion (λ x. is_below x o ≡ false) xs → least_from o xs ≡ o
least_stays o [] all = refl
least_stays o (x ∷ xs) all =
    ap (λ l. least_from l xs) (unless (is_below x o) (Some x) o all.0) ∙ least_stays o xs all.1

-- what is above what isn't below isn't below either
pub above_stays : (o : Option Address) (x y : Address) → is_below x o ≡ false → address_cmp x y ≡ Less → is_below y o ≡ false
above_stays None x y no' less = absurd (true≢false no')
above_stays (Some a) x y no' less =
    not_true (is_lt (address_cmp y a)) (λ t. clash (is_lt (address_cmp x a))
    (ap is_lt (address_total.trans x y a less (less_is (address_cmp y a) t))) no')
