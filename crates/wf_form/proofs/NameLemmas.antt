-- Names in a set, and how often each stands among actions.
use Rattle.std.proofs.Common.{◌≡◌, ◌<◌, ◌≤◌, ◌+◌, ◌++◌, ◌||◌, ℕ, suc, List, [], ◌∷◌, length, map, take, get_or, Bool, true, false, not}
use Rattle.std.proofs.Common.{nat_lt, if◌then◌else◌, bytes_eq, is_eq, Bor, refl, sym, ap, ap₂, ◌∙◌, arith}
use Rattle.std.proofs.lemmas.Bool.{lt-ltb, le-ltb, ltb-true, ltb-false, not-true, not-false}
use Rattle.std.proofs.lemmas.List.{map_more}
use Rattle.std.proofs.lemmas.Map.Lookups.{exact_bytes}
use Rattle.std.proofs.lemmas.Map.Text.{is_eq-slice_cmp}
use Rattle.std.specs.BTreeSet.{insert_key}
use Rattle.std.specs.List.{list_any}
use Rattle.std.specs.Ordering.{match_ordering}
use Rattle.std.specs.declared.cmp.Ordering.{Ordering}
use Rattle.std.specs.declared.cmp.Ordering.TheVariants.{Less, Equal, Greater}
use Rattle.wf_val.specs.NameOrder.{bytes_cmp}
use Rattle.wf_val.specs.ValueTree.{Member}
use Rattle.wf_form.specs.KnownSeen.{is_listed}
use Rattle.wf_form.specs.Whole.{count_named}

-- ---- sets

abbrev Key : Type 0
Key = Bor (List ℕ)

abbrev by_name : Key → Key → Ordering
by_name j k = bytes_cmp j.now k.now

abbrev names : List Key → List (List ℕ)
names = map (λ k. k.now)

pub listed-mapped : (ks : List Key) (q : List ℕ) → list_any (λ j. is_eq (bytes_cmp q j.now)) ks ≡ is_listed q (names ks)
listed-mapped [] q = refl
listed-mapped (x ∷ xs) q = ap₂ (λ (a b : Bool). a || b) (is_eq-slice_cmp q x.now) (listed-mapped xs q)

or-swap : (a b c : Bool) → (a || (b || c)) ≡ (b || (a || c))
or-swap true true c = refl
or-swap true false c = refl
or-swap false true c = refl
or-swap false false c = refl

or-twice : (a b : Bool) → (a || b) ≡ (a || (a || b))
or-twice true b = refl
or-twice false b = refl

put-at : (k x : Key) (xs : List Key) (q : List ℕ) (o : Ordering) → o ≡ by_name k x
    → is_listed q (names (insert_key by_name xs k)) ≡ (bytes_eq q k.now || is_listed q (names xs))
    → is_listed q (names (match_ordering o (k ∷ x ∷ xs) (x ∷ xs) (x ∷ insert_key by_name xs k)))
    ≡ (bytes_eq q k.now || (bytes_eq q x.now || is_listed q (names xs)))
put-at k x xs q Less is rest = refl
put-at k x xs q Equal is rest =
    let same : k.now ≡ x.now = exact_bytes k.now x.now (sym is) in
    or-twice (bytes_eq q x.now) (is_listed q (names xs))
    ∙ ap (λ n. bytes_eq q n || (bytes_eq q x.now || is_listed q (names xs))) (sym same)
put-at k x xs q Greater is rest =
    ap (λ b. bytes_eq q x.now || b) rest ∙ or-swap (bytes_eq q x.now) (bytes_eq q k.now) (is_listed q (names xs))

-- a name more
listed-put : (ks : List Key) (k : Key) (q : List ℕ)
    → is_listed q (names (insert_key by_name ks k)) ≡ (bytes_eq q k.now || is_listed q (names ks))
listed-put [] k q = refl
listed-put (x ∷ xs) k q = put-at k x xs q (by_name k x) refl (listed-put xs k q)

-- ---- counts

both : (a e : Bool) (c d : ℕ) → d ≡ (if e then suc c else c)
    → (if a then suc d else d) ≡ (if e then suc (if a then suc c else c) else (if a then suc c else c))
both true true c d is = ap suc is
both true false c d is = ap suc is
both false true c d is = is
both false false c d is = is

count-push : (q : List ℕ) (ms : List Member) (m : Member)
    → count_named q (ms ++ m ∷ []) ≡ (if bytes_eq q m.0 then suc (count_named q ms) else count_named q ms)
count-push q [] m = refl
count-push q (a ∷ ms) m = both (bytes_eq q a.0) (bytes_eq q m.0) (count_named q ms) (count_named q (ms ++ m ∷ [])) (count-push q ms m)

count-more : {X : Type 0} (f : X → Member) (q : List ℕ) (xs : List X) (i : ℕ) (x : X) → i < length xs → x ≡ get_or xs i x
    → count_named q (map f (take (i + 1) xs))
    ≡ (if bytes_eq q (f x).0 then suc (count_named q (map f (take i xs))) else count_named q (map f (take i xs)))
count-more f q xs i x within is =
    ap (count_named q) (map_more f xs i x within ∙ ap (λ y. map f (take i xs) ++ f y ∷ []) (sym is))
    ∙ count-push q (map f (take i xs)) (f x)

-- ---- what the sets have when one action more is looked at

same-name : (q n : List ℕ) → bytes_eq q n ≡ true → q ≡ n
same-name q n is = equal (bytes_cmp q n) refl
  where
    equal : (o : Ordering) → bytes_cmp q n ≡ o → q ≡ n
    equal Less at = let no : bytes_eq q n ≡ false = sym (is_eq-slice_cmp q n) ∙ ap is_eq at in absurd (cc)
    equal Equal at = exact_bytes q n at
    equal Greater at = let no : bytes_eq q n ≡ false = sym (is_eq-slice_cmp q n) ∙ ap is_eq at in absurd (cc)

seen-bit : (e l : Bool) (c : ℕ) → l ≡ (e || nat_lt 0 c) → l ≡ nat_lt 0 (if e then suc c else c)
seen-bit true l c is = is ∙ sym (lt-ltb 0 (suc c) (omega arith))
seen-bit false l c is = is

one-below : (c : ℕ) → nat_lt 0 c ≡ false → nat_lt 1 (suc c) ≡ nat_lt 1 c
one-below c none =
    let zero_at_most : c ≤ 0 = ltb-false 0 c none in
    le-ltb 1 (suc c) (omega (arith, zero_at_most)) ∙ sym (le-ltb 1 c (omega (arith, zero_at_most)))

new-bit : (e l : Bool) (c : ℕ) → (e ≡ true → nat_lt 0 c ≡ false) → l ≡ nat_lt 1 c → l ≡ nat_lt 1 (if e then suc c else c)
new-bit true l c none is = is ∙ sym (one-below c (none refl))
new-bit false l c none is = is

known-bit : (e l : Bool) (c : ℕ) → (e ≡ true → nat_lt 0 c ≡ true) → l ≡ (e || nat_lt 1 c) → l ≡ nat_lt 1 (if e then suc c else c)
known-bit true l c some is =
    let one_at_least : 0 < c = ltb-true 0 c (some refl) in
    is ∙ sym (lt-ltb 1 (suc c) (omega (arith, one_at_least)))
known-bit false l c some is = is

module _ {X : Type 0} (f : X → Member) (xs : List X) (i : ℕ) (x : X) (within : i < length xs) (is : x ≡ get_or xs i x) where
  abbrev so_far : List ℕ → ℕ
  so_far q = count_named q (map f (take i xs))

  abbrev next : List ℕ → ℕ
  next q = count_named q (map f (take (i + 1) xs))

  -- the name is put to those that were seen
  pub seen-more : (ks after : List Key) (k : Key) → k.now ≡ (f x).0 → after ≡ insert_key by_name ks k
      → ((q : List ℕ) → is_listed q (names ks) ≡ nat_lt 0 (so_far q)) → (q : List ℕ) → is_listed q (names after) ≡ nat_lt 0 (next q)
  seen-more ks after k named put seen q =
      seen-bit (bytes_eq q (f x).0) (is_listed q (names after)) (so_far q)
      (ap (λ l. is_listed q (names l)) put ∙ listed-put ks k q ∙ ap₂ (λ (n : List ℕ) (b : Bool). bytes_eq q n || b) named (seen q))
      ∙ ap (nat_lt 0) (sym (count-more f q xs i x within is))

  -- whether it was there
  pub was-there : (ks : List Key) (k : Key) (b : Bool) → k.now ≡ (f x).0 → list_any (λ j. is_eq (by_name k j)) ks ≡ b
      → ((q : List ℕ) → is_listed q (names ks) ≡ nat_lt 0 (so_far q)) → (q : List ℕ) → bytes_eq q (f x).0 ≡ true → nat_lt 0 (so_far q) ≡ b
  was-there ks k b named there seen q same =
      sym (seen q) ∙ ap (λ n. is_listed n (names ks)) (same-name q (f x).0 same ∙ sym named) ∙ sym (listed-mapped ks k.now) ∙ there

  -- a new name stands again no more than before
  pub new-name : (ks again : List Key) (k : Key) → k.now ≡ (f x).0 → list_any (λ j. is_eq (by_name k j)) ks ≡ false
      → ((q : List ℕ) → is_listed q (names ks) ≡ nat_lt 0 (so_far q)) → ((q : List ℕ) → is_listed q (names again) ≡ nat_lt 1 (so_far q))
      → (q : List ℕ) → is_listed q (names again) ≡ nat_lt 1 (next q)
  new-name ks again k named new seen twice q =
      new-bit (bytes_eq q (f x).0) (is_listed q (names again)) (so_far q) (was-there ks k false named new seen q) (twice q)
      ∙ ap (nat_lt 1) (sym (count-more f q xs i x within is))

  -- and one that was there is put to those that stand again
  pub known-name : (ks again after : List Key) (k k' : Key) → k.now ≡ (f x).0 → k'.now ≡ (f x).0
      → list_any (λ j. is_eq (by_name k j)) ks ≡ true
      → after ≡ insert_key by_name again k'
      → ((q : List ℕ) → is_listed q (names ks) ≡ nat_lt 0 (so_far q)) → ((q : List ℕ) → is_listed q (names again) ≡ nat_lt 1 (so_far q))
      → (q : List ℕ) → is_listed q (names after) ≡ nat_lt 1 (next q)
  known-name ks again after k k' named named' known put seen twice q =
      known-bit (bytes_eq q (f x).0) (is_listed q (names after)) (so_far q) (was-there ks k true named known seen q)
      (ap (λ l. is_listed q (names l)) put ∙ listed-put again k' q ∙ ap₂ (λ (n : List ℕ) (b : Bool). bytes_eq q n || b) named' (twice q))
      ∙ ap (nat_lt 1) (sym (count-more f q xs i x within is))

-- what an insertion tells
pub was-new : (added there : Bool) → added ≡ not there → added ≡ true → there ≡ false
was-new added there is new = not-true there (sym is ∙ new)

pub was-known : (added there : Bool) → added ≡ not there → added ≡ false → there ≡ true
was-known added there is old = not-false there (sym is ∙ old)
