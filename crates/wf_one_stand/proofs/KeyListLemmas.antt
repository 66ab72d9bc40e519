-- Lists of keys in order that have the same members are one.
use Rattle.std.proofs.Common.{◌≡◌, ℕ, true, ◌||◌, List, [], ◌∷◌, Some, None, Ordering, Less, Equal, Greater}
use Rattle.std.proofs.Common.{cond, is_eq, refl, sym, ap, ◌∙◌}
use Rattle.std.specs.Cmp.{both_ways}
use Rattle.std.specs.Cmp.Lexicographic.{slice_cmp}
use Rattle.std.specs.Ordering.{nat_cmp}
use Rattle.std.proofs.lemmas.Cmp.{tied_itself}
use Rattle.std.proofs.lemmas.Map.Lookups.{exact_bytes, exact_pairs, exact_unsigned}
use Rattle.wf_lists.specs.KeyOrder.{IsInKeyOrder, find_key}
use Rattle.wf_lists.proofs.KeyOrderLemmas.{same_entries}
use Rattle.wf_val.specs.Address.{address_cmp}
use Rattle.wf_val.specs.NameOrder.{bytes_cmp}
use Rattle.wf_val.specs.declared.address.Address.{Address}
use Rattle.wf_answers.specs.AnswerTree.{Key, key_cmp, key_cmp_total}
use Rattle.wf_talk.specs.Keys.{is_among}

exact_address : (a b : Address) → address_cmp a b ≡ Equal → a ≡ b
exact_address a b tie =
    ap (λ (p : List ℕ × List ℕ). record { name = p.0; at = p.1 })
    (exact_pairs bytes_cmp (slice_cmp nat_cmp) exact_bytes exact_bytes (a.name, a.at) (b.name, b.at) tie)

exact_key : (j k : Key) → key_cmp j k ≡ Equal → j ≡ k
exact_key = exact_pairs address_cmp nat_cmp exact_address exact_unsigned

-- what is found by a key is the key itself
found : (k : Key) (keys : List Key) → find_key key_cmp (λ (j : Key). j) k keys ≡ cond (is_among k keys) (Some k) None
found k [] = refl
found k (j ∷ keys) = go (key_cmp k j) refl (found k keys)
  where
    go : (o : Ordering) → key_cmp k j ≡ o → find_key key_cmp (λ (j : Key). j) k keys ≡ cond (is_among k keys) (Some k) None
        → cond (is_eq o) (Some j) (find_key key_cmp (λ (j : Key). j) k keys) ≡ cond (is_eq o || is_among k keys) (Some k) None
    go Less tie later = later
    go Equal tie later = ap Some (sym (exact_key k j tie))
    go Greater tie later = later

pub first_among : (k : Key) (keys : List Key) → is_among k (k ∷ keys) ≡ true
first_among k keys = ap (λ o. is_eq o || is_among k keys) (tied_itself key_cmp_total k)

pub same_keys : (keys others : List Key) → IsInKeyOrder key_cmp (λ (k : Key). k) keys → IsInKeyOrder key_cmp (λ (k : Key). k) others
    → ((k : Key) → is_among k keys ≡ true → is_among k others ≡ true) → ((k : Key) → is_among k others ≡ true → is_among k keys ≡ true)
    → keys ≡ others
same_keys keys others order order' there back =
    same_entries key_cmp_total (λ (k : Key). k) keys others order order'
    (λ k. found k keys ∙ ap (λ b. cond b (Some k) None) (both_ways (is_among k keys) (is_among k others) (there k) (back k))
    ∙ sym (found k others))
