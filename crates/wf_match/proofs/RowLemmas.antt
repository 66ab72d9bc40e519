-- The places of rows by their addresses, one more at a time.
use Rattle.std.proofs.Common.{◌≡◌, ℕ, ◌+◌, ◌<◌, length, drop, get_or, List, ◌∷◌, Bool, true}
use Rattle.std.proofs.Common.{false, cond, Option, Some, None, is_eq, Equal, refl, sym, ap, ◌∙◌, subst}
use Rattle.std.proofs.lemmas.List.{at_drop_more}
use Rattle.std.specs.Option.{option_or, is_some}
use Rattle.std.proofs.lemmas.Map.Lookups.{exact_bytes}
use Rattle.wf_val.specs.NameOrder.{bytes_cmp}

tied : (a q : List ℕ) → is_eq (bytes_cmp a q) ≡ true → a ≡ q
tied a q is = at (bytes_cmp a q) refl is
  where
    at : (o : _) → bytes_cmp a q ≡ o → is_eq o ≡ true → a ≡ q
    at Equal tie is = exact_bytes a q tie
    at o tie is = absurd (cc)

not_some : (o : Option ℕ) → is_some o ≡ false → o ≡ None
not_some None is = refl
not_some (Some x) is = absurd (cc)

-- a place that is added under an address, where it has none
pub added : (f : List ℕ → Option ℕ) (a q : List ℕ) (place : ℕ) → is_some (f a) ≡ false
    → cond (is_eq (bytes_cmp a q)) (Some place) (f q) ≡ option_or (f q) (cond (is_eq (bytes_cmp a q)) (Some place) None)
added f a q place none = at (is_eq (bytes_cmp a q)) refl (f q) refl
  where
    at : (b : Bool) → is_eq (bytes_cmp a q) ≡ b → (o : Option ℕ) → f q ≡ o → cond b (Some place) o ≡ option_or o (cond b (Some place) None)
    at true tie None is = refl
    at true tie (Some x) is =
        let same : f q ≡ None = subst (λ k. f k ≡ None) (tied a q tie) (not_some (f a) none) in absurd (cc)
    at false tie None is = refl
    at false tie (Some x) is = refl

-- where it has one, all stay
pub kept : (f : List ℕ → Option ℕ) (a q : List ℕ) (place : ℕ) → is_some (f a) ≡ true
    → f q ≡ option_or (f q) (cond (is_eq (bytes_cmp a q)) (Some place) None)
kept f a q place some = at (is_eq (bytes_cmp a q)) refl (f q) refl
  where
    at : (b : Bool) → is_eq (bytes_cmp a q) ≡ b → (o : Option ℕ) → f q ≡ o → o ≡ option_or o (cond b (Some place) None)
    at true tie None is =
        let same : is_some (f q) ≡ true = subst (λ k. is_some (f k) ≡ true) (tied a q tie) some in absurd (cc)
    at true tie (Some x) is = refl
    at false tie None is = refl
    at false tie (Some x) is = refl

-- what is left at a place begins with the item there
pub rest_from : {X Y : Type 0} (left : List X → Y) (xs : List X) (i : ℕ) (x : X) → i < length xs → x ≡ get_or xs i x
    → left (drop i xs) ≡ left (x ∷ drop (i + 1) xs)
rest_from left xs i x lt is = at_drop_more left xs i x lt ∙ ap (λ y. left (y ∷ drop (i + 1) xs)) (sym is)

-- one row more
pub row_more : (old : Option ℕ) (t : Bool) (i : ℕ) (later : Option ℕ)
    → option_or (option_or old (cond t (Some i) None)) later ≡ option_or old (cond t (Some i) later)
row_more None true i later = refl
row_more None false i later = refl
row_more (Some x) t i later = refl
