-- What is among the items of a list that is made of others.
use Rattle.std.proofs.Common.{◌≡◌, ℕ, zero, suc, ◌<◌, Bool, true, cond, List, [], ◌∷◌, ◌++◌, map, Option, Some, None, ◌⊎◌, inl, inr}
use Rattle.std.proofs.Common.{false, true≢false, refl, sym, ap, ◌∙◌, arith, subst, nat_eq, eqb-true}
use Rattle.std.specs.Prelude.{filter, filter_map, flat_map}
use Rattle.std.specs.List.{AllByRecursion, cons_option}
use Rattle.std.proofs.lemmas.Bool.{eqb-false}
use Rattle.std.proofs.lemmas.Option.{none-some}
use Rattle.wf_layers.specs.Listed.{Among}
use Rattle.wf_layers.proofs.Basics.{two}
use Rattle.wf_instance.specs.References.{upto}

pub in_front : {A : Type 0} (xs ys : List A) (x : A) → Among xs x → Among (xs ++ ys) x
in_front [] ys x i = absurd i
in_front (z ∷ xs) ys x (inl e) = inl e
in_front (z ∷ xs) ys x (inr i) = inr (in_front xs ys x i)

pub in_back : {A : Type 0} (xs ys : List A) (x : A) → Among ys x → Among (xs ++ ys) x
in_back [] ys x i = i
in_back (z ∷ xs) ys x i = inr (in_back xs ys x i)

pub of_both : {A : Type 0} (xs ys : List A) (x : A) → Among (xs ++ ys) x → Among xs x ⊎ Among ys x
of_both [] ys x i = inr i
of_both (z ∷ xs) ys x (inl e) = inl (inl e)
of_both (z ∷ xs) ys x (inr i) = elim (of_both xs ys x i) [ inl h ↦ inl (inr h) | inr h ↦ inr h ]

pub in_flat : {A B : Type 0} (f : A → List B) (xs : List A) (x : A) (y : B) → Among xs x → Among (f x) y → Among (flat_map f xs) y
in_flat f [] x y i j = absurd i
in_flat f (z ∷ xs) x y (inl e) j = in_front (f z) (flat_map f xs) y (subst (λ a. Among (f a) y) (sym e) j)
in_flat f (z ∷ xs) x y (inr i) j = in_back (f z) (flat_map f xs) y (in_flat f xs x y i j)

pub in_map : {A B : Type 0} (f : A → B) (xs : List A) (x : A) → Among xs x → Among (map f xs) (f x)
in_map f [] x i = absurd i
in_map f (z ∷ xs) x (inl e) = inl (ap f e)
in_map f (z ∷ xs) x (inr i) = inr (in_map f xs x i)

kept_first : {A : Type 0} (b : Bool) (z x : A) (xs : List A) → b ≡ true → z ≡ x → Among (cond b (z ∷ xs) xs) x
kept_first true z x xs t e = inl e
kept_first false z x xs t e = absurd (true≢false (sym t))

kept_rest : {A : Type 0} (b : Bool) (z x : A) (xs : List A) → Among xs x → Among (cond b (z ∷ xs) xs) x
kept_rest true z x xs i = inr i
kept_rest false z x xs i = i

pub in_filter : {A : Type 0} (p : A → Bool) (xs : List A) (x : A) → Among xs x → p x ≡ true → Among (filter p xs) x
in_filter p [] x i t = absurd i
in_filter p (z ∷ xs) x (inl e) t = kept_first (p z) z x (filter p xs) (ap p e ∙ t) e
in_filter p (z ∷ xs) x (inr i) t = kept_rest (p z) z x (filter p xs) (in_filter p xs x i t)

given_first : {B : Type 0} (o : Option B) (y : B) (ys : List B) → o ≡ Some y → Among (cons_option o ys) y
given_first None y ys e = absurd (none-some y e)
given_first (Some z) y ys e = inl (cc)

given_rest : {B : Type 0} (o : Option B) (y : B) (ys : List B) → Among ys y → Among (cons_option o ys) y
given_rest None y ys i = i
given_rest (Some z) y ys i = inr i

pub in_filter_map : {A B : Type 0} (f : A → Option B) (xs : List A) (x : A) (y : B) → Among xs x → f x ≡ Some y → Among (filter_map f xs) y
in_filter_map f [] x y i t = absurd i
in_filter_map f (z ∷ xs) x y (inl e) t = given_first (f z) y (filter_map f xs) (ap f e ∙ t)
in_filter_map f (z ∷ xs) x y (inr i) t = given_rest (f z) y (filter_map f xs) (in_filter_map f xs x y i t)

pub in_upto : (n k : ℕ) → k < n → Among (upto n) k
in_upto zero k lt = absurd (omega (arith, lt))
in_upto (suc n) k lt = elim (two (nat_eq k n)) [
  | inl t ↦ in_back (upto n) (n ∷ []) k (inl (sym (eqb-true k n t)))
  | inr f ↦ in_front (upto n) (n ∷ []) k (in_upto n k (omega (arith, lt, eqb-false k n f)))
]

-- ---- what holds of all items

pub all_joined : {A : Type 0} (P : A → Type 0) (xs ys : List A) → AllByRecursion P xs → AllByRecursion P ys → AllByRecursion P (xs ++ ys)
all_joined P [] ys one other = other
all_joined P (x ∷ xs) ys one other = (one.0, all_joined P xs ys one.1 other)

pub all_flat : {A B : Type 0} (P : B → Type 0) (f : A → List B) (xs : List A) → AllByRecursion (λ x. AllByRecursion P (f x)) xs
    → AllByRecursion P (flat_map f xs)
all_flat P f [] all = tt
all_flat P f (x ∷ xs) all = all_joined P (f x) (flat_map f xs) all.0 (all_flat P f xs all.1)

given_all : {B : Type 0} (P : B → Type 0) (o : Option B) (ys : List B) → ((y : B) → o ≡ Some y → P y) → AllByRecursion P ys
    → AllByRecursion P (cons_option o ys)
given_all P None ys h all = all
given_all P (Some y) ys h all = (h y refl, all)

pub all_given : {A B : Type 0} (Q : A → Type 0) (P : B → Type 0) (f : A → Option B) (xs : List A)
    → ((x : A) (y : B) → Q x → f x ≡ Some y → P y)
    → AllByRecursion Q xs → AllByRecursion P (filter_map f xs)
all_given Q P f [] h all = tt
all_given Q P f (x ∷ xs) h all = given_all P (f x) (filter_map f xs) (λ y e. h x y all.0 e) (all_given Q P f xs h all.1)

pub all_mapped : {A B : Type 0} (P : B → Type 0) (f : A → B) (xs : List A) → ((x : A) → P (f x)) → AllByRecursion P (map f xs)
all_mapped P f [] h = tt
all_mapped P f (x ∷ xs) h = (h x, all_mapped P f xs h)

kept_all : {A : Type 0} (P : A → Type 0) (b : Bool) (x : A) (xs : List A) → (b ≡ true → P x) → AllByRecursion P xs
    → AllByRecursion P (cond b (x ∷ xs) xs)
kept_all P true x xs h all = (h refl, all)
kept_all P false x xs h all = all

pub all_kept : {A : Type 0} (Q P : A → Type 0) (p : A → Bool) (xs : List A) → ((x : A) → Q x → p x ≡ true → P x) → AllByRecursion Q xs
    → AllByRecursion P (filter p xs)
all_kept Q P p [] h all = tt
all_kept Q P p (x ∷ xs) h all = kept_all P (p x) x (filter p xs) (λ t. h x all.0 t) (all_kept Q P p xs h all.1)

pub all_among : {A : Type 0} (P : A → Type 0) (xs : List A) (x : A) → AllByRecursion P xs → Among xs x → P x
all_among P [] x all i = absurd i
all_among P (z ∷ xs) x all (inl e) = subst P e all.0
all_among P (z ∷ xs) x all (inr i) = all_among P xs x all.1 i

-- ---- lists that go on from one front

pub cancel : (xs ys zs : List ℕ) → xs ++ ys ≡ xs ++ zs → ys ≡ zs
cancel [] ys zs e = e
cancel (x ∷ xs) ys zs e = cancel xs ys zs (tail e)
  where
    tail : x ∷ (xs ++ ys) ≡ x ∷ (xs ++ zs) → xs ++ ys ≡ xs ++ zs
    tail e = cc
