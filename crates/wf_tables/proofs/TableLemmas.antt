-- What an edit of a list makes of its table.
use Rattle.std.proofs.Common.{◌≡◌, ℕ, Bool, true, false, ◌&&◌, cond, List, [], ◌∷◌, Some, None, option_map, is_eq, nat_eq, bytes_eq, refl, sym, ap, ◌∙◌, arith, true≢false}
use Rattle.std.proofs.lemmas.Map.Text.{is_eq-slice_cmp}
use Rattle.wf_lists.specs.KeyOrder.{IsInKeyOrder, find_key, put_key, without_key}
use Rattle.wf_lists.proofs.KeyOrderLemmas.{find-put, find-without}
use Rattle.wf_plan.specs.Address.{Address, is_own, same_at}
use Rattle.wf_plan.specs.Machine.{place, one, without, or_else}
use Rattle.wf_plan.specs.Meaning.{only}
use Rattle.wf_plan.specs.Instances.{instance_cmp, instance_of, instance_total, table_of}
use Rattle.wf_plan.specs.Instance.{Instance}

flipped : (a b : ℕ) → nat_eq a b ≡ nat_eq b a
flipped a b = grind (arith)

pub bytes_same : (i j : List ℕ) → bytes_eq i j ≡ same_at j i
bytes_same [] [] = refl
bytes_same [] (b ∷ j) = refl
bytes_same (a ∷ i) [] = refl
bytes_same (a ∷ i) (b ∷ j) = ap (λ z. z && bytes_eq i j) (flipped a b) ∙ ap (λ z. nat_eq b a && z) (bytes_same i j)

-- the place of an address is that of the instance
pub own_place : (k : Instance) (x : Address) → is_eq (instance_cmp (instance_of x) k) ≡ is_own k.action k.at x
own_place k x = is_eq-slice_cmp (x.name ∷ x.at) (k.action ∷ k.at) ∙ bytes_same (x.name ∷ x.at) (k.action ∷ k.at)

module _ {X Y : Type 0} (at : X → Instance) (see : X → Y) where
  put_at : (y : X) (xs : List X) (x : Address) → table_of at see (put_key instance_cmp at y xs) x
      ≡ place (one (at y).action (at y).at (see y)) (table_of at see xs) x
  put_at y xs x =
      ap (option_map see) (find-put instance_total at (instance_of x) y xs)
      ∙ go (is_eq (instance_cmp (instance_of x) (at y))) (is_own (at y).action (at y).at x) (own_place (at y) x)
    where
      go : (a b : Bool) → a ≡ b → option_map see (cond a (Some y) (find_key instance_cmp at (instance_of x) xs))
          ≡ or_else (only b (Some (see y))) (table_of at see xs x)
      go true true e = refl
      go false false e = refl
      go true false e = absurd (true≢false e)
      go false true e = absurd (true≢false (sym e))

  -- a put is a placed entry
  pub table_put : (y : X) (xs : List X) → table_of at see (put_key instance_cmp at y xs)
      ≡ place (one (at y).action (at y).at (see y)) (table_of at see xs)
  table_put y xs = λ k x. put_at y xs x k

  take_at : (i : Instance) (xs : List X) → IsInKeyOrder instance_cmp at xs → (x : Address)
      → table_of at see (without_key instance_cmp at i xs) x ≡ without i.action i.at (table_of at see xs) x
  take_at i xs order x =
      ap (option_map see) (find-without instance_total at i (instance_of x) xs order)
      ∙ go (is_eq (instance_cmp (instance_of x) i)) (is_own i.action i.at x) (own_place i x)
    where
      go : (a b : Bool) → a ≡ b → option_map see (cond a None (find_key instance_cmp at (instance_of x) xs))
          ≡ cond b None (table_of at see xs x)
      go true true e = refl
      go false false e = refl
      go true false e = absurd (true≢false e)
      go false true e = absurd (true≢false (sym e))

  pub table_take : (i : Instance) (xs : List X) → IsInKeyOrder instance_cmp at xs
      → table_of at see (without_key instance_cmp at i xs) ≡ without i.action i.at (table_of at see xs)
  table_take i xs order = λ k x. take_at i xs order x k
