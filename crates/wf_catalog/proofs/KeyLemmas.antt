-- What is found in a list in the order of keys that was made of another.
use Rattle.std.proofs.Common.{◌≡◌, ℕ, Bool, true, false, cond, List, [], ◌∷◌, ◌++◌, map, Option, Some, option_map, Ordering, Less, Equal}
use Rattle.std.proofs.Common.{Greater, is_eq, inl, inr, refl, sym, ap, ◌∙◌, nat_eq, nat_lt, arith}
use Rattle.std.specs.Cmp.{IsTotalOrder}
use Rattle.std.specs.List.{find}
use Rattle.std.specs.Ordering.{nat_cmp}
use Rattle.std.proofs.lemmas.Bool.{eqb-true, ltb-true}
use Rattle.wf_layers.proofs.Basics.{two}
use Rattle.wf_lists.specs.KeyOrder.{find_key, put_key}
use Rattle.wf_lists.proofs.KeyOrderLemmas.{find-put}
use Rattle.wf_catalog.specs.Keys.{all_put}

module _ {K X : Type 0} (cmp : K → K → Ordering) (key : X → K) where
  -- the first that has the key
  pub find-all_put : IsTotalOrder cmp → (k : K) (xs : List X) → find_key cmp key k (all_put cmp key xs) ≡ find (λ x. is_eq (cmp k (key x))) xs
  find-all_put total k [] = refl
  find-all_put total k (x ∷ xs) =
      find-put total key k x (all_put cmp key xs) ∙ ap (cond (is_eq (cmp k (key x))) (Some x)) (find-all_put total k xs)

  -- what is left is put over what is there
  abbrev pub put_over : List X → List X → List X
  put_over table [] = table
  put_over table (x ∷ xs) = put_key cmp key x (put_over table xs)

  pub put_last : (table xs : List X) (x : X) → put_over table (xs ++ x ∷ []) ≡ put_over (put_key cmp key x table) xs
  put_last table [] x = refl
  put_last table (y ∷ xs) x = ap (put_key cmp key y) (put_last table xs x)

  pub put_nothing : (xs : List X) → put_over [] xs ≡ all_put cmp key xs
  put_nothing [] = refl
  put_nothing (x ∷ xs) = ap (put_key cmp key x) (put_nothing xs)

out : {X Y : Type 0} (f : X → Y) (b : Bool) (x : X) (o : Option X) → option_map f (cond b (Some x) o) ≡ cond b (Some (f x)) (option_map f o)
out f true x o = refl
out f false x o = refl

-- what is found is found as what it stands for
pub find-as : {X Y : Type 0} (f : X → Y) (P : X → Bool) (Q : Y → Bool) → ((x : X) → P x ≡ Q (f x)) → (xs : List X)
    → option_map f (find P xs) ≡ find Q (map f xs)
find-as f P Q same [] = refl
find-as f P Q same (x ∷ xs) =
    out f (P x) x (find P xs) ∙ (ap (λ (b : Bool). cond b (Some (f x)) (option_map f (find P xs))) (same x)
    ∙ ap (cond (Q (f x)) (Some (f x))) (find-as f P Q same xs))

-- numbers are compared as they are told apart
pub same_number : (n m : ℕ) → is_eq (nat_cmp n m) ≡ nat_eq n m
same_number n m =
    elim (nat_lt n m) as (λ b. nat_lt n m ≡ b → is_eq (cond b Less (cond (nat_eq n m) Equal Greater)) ≡ nat_eq n m) [
      | true ↦ λ less. elim (two (nat_eq n m)) [
        | inl t ↦ absurd (omega (arith, ltb-true n m less, eqb-true n m t))
        | inr f ↦ sym f
      ]
      | false ↦ λ more. last (nat_eq n m)
    ] refl
  where
    last : (b : Bool) → is_eq (cond b Equal Greater) ≡ b
    last true = refl
    last false = refl
