-- Members by their names: a map of names and values is the object that has them, and stands in the order of names.
use Rattle.std.proofs.Common.{◌≡◌, ℕ, zero, suc, ◌+◌, ◌-◌, ◌<◌, List, [], ◌∷◌, ◌++◌, length, map, take, refl, sym, ◌∙◌, ap, arith, subst}
use Rattle.std.proofs.Common.{cond, Bool, true, false, get_or, Some, option_map, append_assoc}
use Rattle.std.proofs.lemmas.List.{get_or-map, length-map}
use Rattle.std.proofs.lemmas.List.Elements.{filter_more}
use Rattle.std.proofs.lemmas.List.Sums.{fold-append}
use Rattle.std.proofs.lemmas.Option.{slice_get-map}
use Rattle.std.specs.Prelude.{slice_get, unwrap_or}
use Rattle.std.specs.BTreeMap.{insert_entry}
use Rattle.std.specs.List.{All, AllByRecursion, filter}
use Rattle.std.specs.Ordering.{match_ordering}
use Rattle.std.specs.declared.cmp.Ordering.{Ordering}
use Rattle.std.specs.declared.cmp.Ordering.TheVariants.{Less, Equal, Greater}
use Rattle.std.proofs.lemmas.Map.Lookups.{exact_bytes}
use Rattle.wf_val.specs.Get.{name_of}
use Rattle.wf_val.specs.NameOrder.{bytes_cmp, put_named, IsInNameOrder, IsAboveAll}
use Rattle.wf_val.specs.ValueTree.{ValueTree, Member}
use Rattle.wf_fn_sets.specs.Sets.{put_all}

-- entries, by the names and the values that they stand for
module _ {K V : Type 0} (name : K → List ℕ) (value : V → ValueTree) where
  abbrev pub by_name : K → K → Ordering
  by_name j k = bytes_cmp (name j) (name k)

  abbrev pub entry_member : K × V → Member
  entry_member e = (name e.0, value e.1)

  put-at : (k : K) (v : V) (e : K × V) (es : List (K × V)) (o : Ordering) → o ≡ by_name k e.0
      → map entry_member (insert_entry by_name es k v) ≡ put_named name_of (name k, value v) (map entry_member es)
      → map entry_member (match_ordering o ((k, v) ∷ e ∷ es) ((e.0, v) ∷ es) (e ∷ insert_entry by_name es k v))
      ≡ match_ordering o ((name k, value v) ∷ entry_member e ∷ map entry_member es) ((name k, value v) ∷ map entry_member es)
      (entry_member e ∷ put_named name_of (name k, value v) (map entry_member es))
  put-at k v e es Less is rest = refl
  put-at k v e es Equal is rest = ap (λ n. (n, value v) ∷ map entry_member es) (sym (exact_bytes (name k) (name e.0) (sym is)))
  put-at k v e es Greater is rest = ap (λ l. entry_member e ∷ l) rest

  -- an entry put among entries is a member put among members
  pub entry-put : (es : List (K × V)) (k : K) (v : V) → map entry_member (insert_entry by_name es k v)
      ≡ put_named name_of (name k, value v) (map entry_member es)
  entry-put [] k v = refl
  entry-put (e ∷ es) k v = put-at k v e es (by_name k e.0) refl (entry-put es k v)

  -- every name left is above every member that was taken out
  abbrev pub AreBelow : List Member → List (K × V) → Type 0
  AreBelow ms es = AllByRecursion (λ e. IsAboveAll name_of (name e.0) ms) es

  pub none-below : (es : List (K × V)) → AreBelow [] es
  none-below [] = tt
  none-below (e ∷ es) = (tt, none-below es)

-- members put in turn, and others after them
pub put-joined : (all ms more : List Member) → put_all all (ms ++ more) ≡ put_all (put_all all ms) more
put-joined all ms more = fold-append (λ others m. put_named name_of m others) all ms more

above-more : (k : List ℕ) (ms : List Member) (m : Member) → IsAboveAll name_of k ms → bytes_cmp m.0 k ≡ Less
    → IsAboveAll name_of k (ms ++ m ∷ [])
above-more k [] m above less = (less, tt)
above-more k (x ∷ xs) m above less = (above.0, above-more k xs m above.1 less)

-- one more is taken out
pub more-below : {K V : Type 0} (name : K → List ℕ) (value : V → ValueTree) (ms : List Member) (m : Member) (es : List (K × V))
    → AreBelow name value ms es → AllByRecursion (λ e. bytes_cmp m.0 (name e.0) ≡ Less) es
    → AreBelow name value (ms ++ m ∷ []) es
more-below name value ms m [] below less = tt
more-below name value ms m (e ∷ es) below less = (above-more (name e.0) ms m below.0 less.0, more-below name value ms m es below.1 less.1)

-- the keys that are above one, by their names
pub keys-above : {K V : Type 0} (name : K → List ℕ) (k : K) (es : List (K × V))
    → All (λ j. bytes_cmp (name k) (name j) ≡ Less) (map (λ e. e.0) es) → AllByRecursion (λ e. bytes_cmp (name k) (name e.0) ≡ Less) es
keys-above name k [] all = tt
keys-above name k (e ∷ es) all = (all 0 e.0 (omega arith), keys-above name k es (λ i d lt. all (suc i) d (omega (arith, lt))))

-- one more entry becomes a member
pub one-taken : {K V : Type 0} (name : K → List ℕ) (value : V → ValueTree) (k : K) (v : V) (old new : List (K × V))
    (ms more : List Member) (n : List ℕ) (t : ValueTree) → old ≡ (k, v) ∷ new
    → more ≡ ms ++ (n, t) ∷ [] → n ≡ name k → t ≡ value v → more ++ map (entry_member name value) new
    ≡ ms ++ map (entry_member name value) old
one-taken name value k v old new ms more n t was is named valued =
    ap (λ l. l ++ map (entry_member name value) new) (is ∙ ap (λ a. ms ++ (a, t) ∷ []) named ∙ ap (λ b. ms ++ (name k, b) ∷ []) valued)
    ∙ append_assoc ms ((name k, value v) ∷ []) (map (entry_member name value) new)
    ∙ ap (λ l. ms ++ map (entry_member name value) l) (sym was)

pub one-below : {K V : Type 0} (name : K → List ℕ) (value : V → ValueTree) (k : K) (v : V) (old new : List (K × V))
    (ms more : List Member) (n : List ℕ) (t : ValueTree) → old ≡ (k, v) ∷ new
    → more ≡ ms ++ (n, t) ∷ [] → n ≡ name k → AreBelow name value ms old
    → All (λ j. bytes_cmp (name k) (name j) ≡ Less) (map (λ e. e.0) new) → AreBelow name value more new
one-below name value k v old new ms more n t was is named below all =
    let left = subst (AreBelow name value ms) was below in
    subst (λ l. AreBelow name value l new) (sym (is ∙ ap (λ a. ms ++ (a, t) ∷ []) named))
    (more-below name value ms (name k, t) new left.1 (keys-above name k new all))

-- a member at a place among others
member-at : {X : Type 0} (f : X → Member) (xs : List X) (i : ℕ) (x : X) → i < length xs → x ≡ get_or xs i x → f x
    ≡ get_or (map f xs) i (f x)
member-at f xs i x lt is = ap f is ∙ sym (get_or-map f xs i x (f x) lt)

-- in an object, those before a member are below it, and so are some of them
above-front : (ms : List Member) (i : ℕ) (m : Member) → IsInNameOrder name_of ms → i < length ms → m ≡ get_or ms i m
    → IsAboveAll name_of m.0 (take i ms)
above-front [] i m order lt is = absurd (omega (arith, lt))
above-front (x ∷ xs) zero m order lt is = tt
above-front (x ∷ xs) (suc i) m order lt is =
    (below-at xs i m (name_of x) order.0 (omega (arith, lt)) is, above-front xs i m order.1 (omega (arith, lt)) is)
  where
    below-at : (xs : List Member) (i : ℕ) (m : Member) (k : List ℕ) → AllByRecursion (λ y. bytes_cmp k (name_of y) ≡ Less) xs
        → i < length xs → m ≡ get_or xs i m → bytes_cmp k m.0 ≡ Less
    below-at [] i m k all lt is = absurd (omega (arith, lt))
    below-at (y ∷ ys) zero m k all lt is = ap (λ z. bytes_cmp k (name_of z)) is ∙ all.0
    below-at (y ∷ ys) (suc i) m k all lt is = below-at ys i m k all.1 (omega (arith, lt)) is

above-filter : (test : Member → Bool) (k : List ℕ) (ms : List Member) → IsAboveAll name_of k ms → IsAboveAll name_of k (filter test ms)
above-filter test k [] above = tt
above-filter test k (m ∷ ms) above = above-kept (test m) (above-filter test k ms above.1)
  where
    above-kept : (b : Bool) → IsAboveAll name_of k (filter test ms) → IsAboveAll name_of k (cond b (m ∷ filter test ms) (filter test ms))
    above-kept true rest = (above.0, rest)
    above-kept false rest = rest

-- the name of a member is above those chosen before it
pub above-chosen : {X : Type 0} (f : X → Member) (test : Member → Bool) (xs : List X) (ms : List Member) (i : ℕ) (x : X) → map f xs ≡ ms
    → IsInNameOrder name_of ms → i < length xs → x ≡ get_or xs i x
    → IsAboveAll name_of (f x).0 (filter test (take i (map f xs)))
above-chosen f test xs ms i x seen order lt is =
    above-filter test (f x).0 (take i (map f xs))
    (above-front (map f xs) i (f x) (subst (IsInNameOrder name_of) (sym seen) order) (omega (arith, lt, length-map xs f))
    (member-at f xs i x lt is))

-- one more is chosen, or not
pub one-chosen : {X : Type 0} (f : X → Member) (test : Member → Bool) (xs : List X) (i : ℕ) (x : X) (b : Bool) → i < length xs → x
    ≡ get_or xs i x → test (f x) ≡ b
    → filter test (take (i + 1) (map f xs)) ≡ filter test (take i (map f xs)) ++ cond b (f x ∷ []) []
one-chosen f test xs i x b lt is at =
    let m : f x ≡ get_or (map f xs) i (f x) = member-at f xs i x lt is in
    filter_more test (map f xs) i (f x) (omega (arith, lt, length-map xs f))
    ∙ ap (λ y. filter test (take i (map f xs)) ++ cond (test y) (y ∷ []) []) (sym m)
    ∙ ap (λ c. filter test (take i (map f xs)) ++ cond c (f x ∷ []) []) at

-- the members of the last object
pub last-members : {X : Type 0} (f : X → List Member) (xs : List X) (x : X) → Some x ≡ slice_get xs (length xs - 1) → f x
    ≡ unwrap_or (slice_get (map f xs) (length (map f xs) - 1)) []
last-members f xs x is =
    ap (λ o. unwrap_or (option_map f o) []) is
    ∙ ap (λ o. unwrap_or o []) (sym (slice_get-map f xs (length xs - 1)))
    ∙ ap (λ n. unwrap_or (slice_get (map f xs) (n - 1)) []) (sym (length-map xs f))
