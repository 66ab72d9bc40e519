-- What stands in a list.
use Rattle.std.proofs.Common.{◌≡◌, Bool, true, List, [], ◌∷◌, ◌++◌, filter, flat_map, map, ◌⊎◌, inl, inr, refl, sym, ap, ◌∙◌}
use Rattle.std.proofs.Common.{subst, true≢false}
use Rattle.wf_layers.proofs.Basics.{two, unless, when}

abbrev pub In : {X : Type 0} → X → List X → Type 0
In x [] = ⊥
In x (y ∷ ys) = (y ≡ x) ⊎ In x ys

pub in_left : {X : Type 0} (x : X) (xs ys : List X) → In x xs → In x (xs ++ ys)
in_left x [] ys h = absurd h
in_left x (z ∷ xs) ys (inl here) = inl here
in_left x (z ∷ xs) ys (inr later) = inr (in_left x xs ys later)

pub in_right : {X : Type 0} (x : X) (xs ys : List X) → In x ys → In x (xs ++ ys)
in_right x [] ys h = h
in_right x (z ∷ xs) ys h = inr (in_right x xs ys h)

pub in_either : {X : Type 0} (x : X) (xs ys : List X) → In x (xs ++ ys) → In x xs ⊎ In x ys
in_either x [] ys h = inr h
in_either x (z ∷ xs) ys (inl here) = inl (inl here)
in_either x (z ∷ xs) ys (inr later) = elim (in_either x xs ys later) [ inl one ↦ inl (inr one) | inr other ↦ inr other ]

pub in_map : {X Y : Type 0} (f : X → Y) (x : X) (xs : List X) → In x xs → In (f x) (map f xs)
in_map f x [] h = absurd h
in_map f x (z ∷ xs) (inl here) = inl (ap f here)
in_map f x (z ∷ xs) (inr later) = inr (in_map f x xs later)

pub of_map : {X Y : Type 0} (f : X → Y) (y : Y) (xs : List X) → In y (map f xs) → (x : X) × In x xs × (f x ≡ y)
of_map f y [] h = absurd h
of_map f y (z ∷ xs) (inl here) = (z, inl refl, here)
of_map f y (z ∷ xs) (inr later) = let found = of_map f y xs later in (found.0, inr found.1, found.2)

pub in_flat : {X Y : Type 0} (f : X → List Y) (x : X) (y : Y) (xs : List X) → In x xs → In y (f x) → In y (flat_map f xs)
in_flat f x y [] h own = absurd h
in_flat f x y (z ∷ xs) (inl here) own =
    in_left y (f z) (flat_map f xs) (subst (λ (w : _). In y (f w)) (sym here) own)
in_flat f x y (z ∷ xs) (inr later) own = in_right y (f z) (flat_map f xs) (in_flat f x y xs later own)

pub of_flat : {X Y : Type 0} (f : X → List Y) (y : Y) (xs : List X) → In y (flat_map f xs) → (x : X) × In x xs × In y (f x)
of_flat f y [] h = absurd h
of_flat f y (z ∷ xs) h = elim (in_either y (f z) (flat_map f xs) h) [
  | inl own ↦ (z, inl refl, own)
  | inr later ↦ let found = of_flat f y xs later in (found.0, inr found.1, found.2)
]

pub in_filter : {X : Type 0} (p : X → Bool) (x : X) (xs : List X) → In x xs → p x ≡ true → In x (filter p xs)
in_filter p x [] h holds = absurd h
in_filter {X = X} p x (z ∷ xs) (inl here) holds =
    subst (λ (ys : List X). In x ys) (sym (when (p z) (z ∷ filter p xs) (filter p xs) (ap p here ∙ holds))) (inl here)
in_filter {X = X} p x (z ∷ xs) (inr later) holds = elim (two (p z)) [
  | inl t ↦ subst (λ (ys : List X). In x ys) (sym (when (p z) (z ∷ filter p xs) (filter p xs) t)) (inr (in_filter p x xs later holds))
  | inr f ↦ subst (λ (ys : List X). In x ys) (sym (unless (p z) (z ∷ filter p xs) (filter p xs) f)) (in_filter p x xs later holds)
]

pub of_filter : {X : Type 0} (p : X → Bool) (x : X) (xs : List X) → In x (filter p xs) → In x xs × (p x ≡ true)
of_filter p x [] h = absurd h
of_filter {X = X} p x (z ∷ xs) h = elim (two (p z)) [
  | inl t ↦ elim (subst (λ (ys : List X). In x ys) (when (p z) (z ∷ filter p xs) (filter p xs) t) h) [
    | inl here ↦ (inl here, sym (ap p here) ∙ t)
    | inr later ↦ let found = of_filter p x xs later in (inr found.0, found.1)
  ]
  | inr f ↦
      let found = of_filter p x xs (subst (λ (ys : List X). In x ys) (unless (p z) (z ∷ filter p xs) (filter p xs) f) h) in
      (inr found.0, found.1)
]
