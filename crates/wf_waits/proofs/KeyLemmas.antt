-- Keys of attempts that wait.
use Rattle.std.proofs.Common.{◌≡◌, ℕ, zero, suc, Bool, true, false, cond, ◌||◌, List, [], ◌∷◌, ◌++◌, length, map, drop, slice_get, Some, Ok, Err, Ordering, Less, Equal, Greater, is_eq, refl, sym, ap, ◌∙◌}
use Rattle.std.specs.List.{AllByRecursion}
use Rattle.std.specs.List.Sorted.{IsBinarySearchResult, IsSearchInRange}
use Rattle.std.specs.Cmp.Lexicographic.{slice_cmp}
use Rattle.std.specs.Ordering.{nat_cmp}
use Rattle.std.proofs.lemmas.Cmp.{tied_itself}
use Rattle.std.proofs.lemmas.Map.Lookups.{exact_bytes, exact_pairs, exact_unsigned}
use Rattle.wf_lists.specs.KeyOrder.{IsInKeyOrder, IsKeyPlace, find_key}
use Rattle.wf_lists.proofs.KeyOrderLemmas.{find_key-in_gap, in_order-on, searched_key}
use Rattle.wf_layers.specs.Machine.{has_ended}
use Rattle.wf_val.specs.Address.{address_cmp}
use Rattle.wf_val.specs.NameOrder.{bytes_cmp}
use Rattle.wf_val.specs.declared.address.Address.{Address}
use Rattle.wf_answers.specs.AnswerTree.{Key, key_cmp, key_cmp_total}
use Rattle.wf_talk.specs.Keys.{is_among}
use Rattle.wf_talk.specs.Seen.{want_cmp, want_key}
use Rattle.wf_talk.specs.declared.want.Want.{Want}
use Rattle.wf_waits.specs.Kept.{fresh_key, keys_of, waiting_key}
use Rattle.wf_waits.specs.declared.waiting.Fresh.{Fresh}
use Rattle.wf_waits.specs.declared.waiting.Waiting.{Waiting}
use Rattle.wf_waits.proofs.ListLemmas.{all_so, left_at}

-- ---- keys that tie are one

exact_address : (a b : Address) → address_cmp a b ≡ Equal → a ≡ b
exact_address a b tie =
    ap (λ (p : List ℕ × List ℕ). record { name = p.0; at = p.1 })
    (exact_pairs bytes_cmp (slice_cmp nat_cmp) exact_bytes exact_bytes (a.name, a.at) (b.name, b.at) tie)

pub exact_key : (j k : Key) → key_cmp j k ≡ Equal → j ≡ k
exact_key = exact_pairs address_cmp nat_cmp exact_address exact_unsigned

pub tied : (o : Ordering) → is_eq o ≡ true → o ≡ Equal
tied Equal is = refl
tied Less is = absurd (cc)
tied Greater is = absurd (cc)

-- ---- a key is among theirs where one is found under it

pub among_found : (k : Key) (ws : List Waiting) → is_among k (keys_of ws) ≡ has_ended (find_key key_cmp waiting_key k ws)
among_found k [] = refl
among_found k (w ∷ ws) =
    elim (is_eq (key_cmp k (waiting_key w))) as
    (λ b. (b || is_among k (keys_of ws)) ≡ has_ended (cond b (Some w) (find_key key_cmp waiting_key k ws))) [
      | true ↦ refl
      | false ↦ among_found k ws
    ]

or_true : (a b : Bool) → b ≡ true → (a || b) ≡ true
or_true true b is = refl
or_true false b is = is

pub among_own : (ws : List Waiting) → AllByRecursion (λ (w : Waiting). is_among (waiting_key w) (keys_of ws) ≡ true) ws
among_own [] = tt
among_own (x ∷ xs) = (
  ap (λ o. is_eq o || is_among (waiting_key x) (keys_of xs)) (tied_itself key_cmp_total (waiting_key x)),
  all_so xs (λ w is. or_true (is_eq (key_cmp (waiting_key w) (waiting_key x))) (is_among (waiting_key w) (keys_of xs)) is) (among_own xs),
)

-- ---- a binary search

pub by_keys : (ws : List Waiting) → IsInKeyOrder want_cmp (λ (w : Waiting). w.want) ws → IsInKeyOrder key_cmp waiting_key ws
by_keys ws order = in_order-on key_cmp want_key (λ (w : Waiting). w.want) ws order

place_among : (k : Key) (ws : List Waiting) (i : ℕ) → IsKeyPlace key_cmp waiting_key k ws i → is_among k (keys_of ws) ≡ true
place_among k [] i place = absurd place
place_among k (w ∷ ws) zero place = ap (λ o. is_eq o || is_among k (keys_of ws)) place
place_among k (w ∷ ws) (suc i) place = or_true (is_eq (key_cmp k (waiting_key w))) (is_among k (keys_of ws)) (place_among k ws i place.1)

pub found : (k : Key) (ws : List Waiting) (i : ℕ) → IsInKeyOrder want_cmp (λ (w : Waiting). w.want) ws → IsSearchInRange (Ok i) (length ws)
    → IsBinarySearchResult (λ (w : Waiting). key_cmp (waiting_key w) k) ws (Ok i) → is_among k (keys_of ws) ≡ true
found k ws i order within position =
    place_among k ws i (searched_key key_cmp_total waiting_key k ws (Ok i) (by_keys ws order) within position).place

pub not_found : (k : Key) (ws : List Waiting) (i : ℕ) → IsInKeyOrder want_cmp (λ (w : Waiting). w.want) ws
    → IsSearchInRange (Err i) (length ws) → IsBinarySearchResult (λ (w : Waiting). key_cmp (waiting_key w) k) ws (Err i)
    → is_among k (keys_of ws) ≡ false
not_found k ws i order within position =
    among_found k ws
    ∙ ap has_ended (find_key-in_gap key_cmp_total waiting_key k ws i
    (searched_key key_cmp_total waiting_key k ws (Err i) (by_keys ws order) within position).gap)

-- ---- those that are new, one by one

onward : (wants : List Want) (w : Want) (ks : List Key) → map want_key (wants ++ w ∷ []) ++ ks ≡ map want_key wants ++ want_key w ∷ ks
onward [] w ks = refl
onward (v ∷ wants) w ks = ap (λ js. want_key v ∷ js) (onward wants w ks)

pub fresh_on : (wants : List Want) (news : List Fresh) (n next : ℕ) → next ≡ suc n → (f : Fresh) (w : Want) → slice_get news n ≡ Some f
    → w ≡ f.want → map want_key wants ++ map fresh_key (drop n news) ≡ map fresh_key news
    → map want_key (wants ++ w ∷ []) ++ map fresh_key (drop next news) ≡ map fresh_key news
fresh_on wants news n next is f w there same before =
    onward wants w (map fresh_key (drop next news))
    ∙ (ap (λ k. map want_key wants ++ k ∷ map fresh_key (drop next news)) (ap want_key same)
    ∙ (ap (λ m. map want_key wants ++ fresh_key f ∷ map fresh_key (drop m news)) is
    ∙ (ap (λ fs. map want_key wants ++ map fresh_key fs) (sym (left_at news n f there)) ∙ before)))
