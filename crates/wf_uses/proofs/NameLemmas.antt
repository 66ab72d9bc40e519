-- Names in order: each is there that was put in, and no other.
use Rattle.std.proofs.Common.{◌≡◌, ℕ, Bool, true, false, List, [], ◌∷◌, ◌++◌, ◌||◌, cond, map, length, Option, Some, is_some, Ok, Err}
use Rattle.std.proofs.Common.{is_eq, Ordering, Less, Equal, Greater, refl, sym, ap, ◌∙◌, arith}
use Rattle.std.proofs.lemmas.Cmp.{nat_list_cmp_total}
use Rattle.std.proofs.lemmas.Map.Text.{is_eq-slice_cmp}
use Rattle.std.proofs.lemmas.Slice.Eq.{bytes_eq-Decides}
use Rattle.std.specs.BTreeSet.{insert_key}
use Rattle.std.specs.List.{list_any}
use Rattle.std.specs.List.Sorted.{IsBinarySearchResult, IsSearchInRange}
use Rattle.std.specs.Ordering.{match_ordering}
use Rattle.std.specs.Str.{bytes_eq}
use Rattle.wf_lists.proofs.KeyOrderLemmas.{find-at_place, find-in_gap, in_order-insert, insert_key-map, searched}
use Rattle.wf_val.specs.NameOrder.{bytes_cmp, find_named, IsInNameOrder}
use Rattle.wf_uses.specs.UsesTree.{ordered}

-- ---- names that are put into a set from the last to the first

abbrev pub put_onto : List (List ℕ) → List (List ℕ) → List (List ℕ)
put_onto [] set = set
put_onto (k ∷ ks) set = insert_key bytes_cmp (put_onto ks set) k

pub put_onto-snoc : (ks : List (List ℕ)) (k : List ℕ) (set : List (List ℕ))
    → put_onto (ks ++ k ∷ []) set ≡ put_onto ks (insert_key bytes_cmp set k)
put_onto-snoc [] k set = refl
put_onto-snoc (x ∷ ks) k set = ap (λ (l : List (List ℕ)). insert_key bytes_cmp l x) (put_onto-snoc ks k set)

pub put_onto-none : (ks : List (List ℕ)) → put_onto ks [] ≡ ordered ks
put_onto-none [] = refl
put_onto-none (k ∷ ks) = ap (λ (l : List (List ℕ)). insert_key bytes_cmp l k) (put_onto-none ks)

module _ {R : Type 0} (now : R → List ℕ) where
  map-snoc : (xs : List R) (x : R) → map now (xs ++ x ∷ []) ≡ map now xs ++ now x ∷ []
  map-snoc [] x = refl
  map-snoc (y ∷ xs) x = ap (λ (l : List (List ℕ)). now y ∷ l) (map-snoc xs x)

  -- the last of those that are left is put into the set
  pub put_one : (whole left : List R) (x : R) (set set' : List R) (all : List (List ℕ)) → whole ≡ left ++ x ∷ []
      → set' ≡ insert_key (λ a b. bytes_cmp (now a) (now b)) set x
      → put_onto (map now whole) (map now set) ≡ all → put_onto (map now left) (map now set') ≡ all
  put_one whole left x set set' all split put so_far =
      ap (λ (l : List R). put_onto (map now left) (map now l)) put
      ∙ ap (put_onto (map now left)) (insert_key-map bytes_cmp now set x)
      ∙ sym (put_onto-snoc (map now left) (now x) (map now set))
      ∙ sym (ap (λ (l : List (List ℕ)). put_onto l (map now set)) (ap (map now) split ∙ map-snoc left x))
      ∙ so_far

-- ---- in order

pub ordered-in_order : (ks : List (List ℕ)) → IsInNameOrder (λ k. k) (ordered ks)
ordered-in_order [] = tt
ordered-in_order (k ∷ ks) = in_order-insert nat_list_cmp_total (λ (x : List ℕ). x) k (ordered ks) (ordered-in_order ks)

-- ---- the same names

or-swap : (a b c : Bool) → (b || (a || c)) ≡ (a || (b || c))
or-swap true true c = refl
or-swap true false c = refl
or-swap false b c = refl

or-twice : (a c : Bool) → (a || c) ≡ (a || (a || c))
or-twice true c = refl
or-twice false c = refl

tied-same : (k x y : List ℕ) → bytes_cmp x y ≡ Equal → bytes_eq k x ≡ bytes_eq k y
tied-same k x y tie = ap (bytes_eq k) ((bytes_eq-Decides x y).0 (sym (is_eq-slice_cmp x y) ∙ ap is_eq tie))

named-insert_at : (k x y : List ℕ) (ys : List (List ℕ)) (o : Ordering) → bytes_cmp x y ≡ o
    → list_any (bytes_eq k) (insert_key bytes_cmp ys x) ≡ (bytes_eq k x || list_any (bytes_eq k) ys)
    → list_any (bytes_eq k) (match_ordering o (x ∷ y ∷ ys) (y ∷ ys) (y ∷ insert_key bytes_cmp ys x))
    ≡ (bytes_eq k x || (bytes_eq k y || list_any (bytes_eq k) ys))
named-insert_at k x y ys Less is later = refl
named-insert_at k x y ys Equal is later =
    or-twice (bytes_eq k y) (list_any (bytes_eq k) ys)
    ∙ ap (λ b. b || (bytes_eq k y || list_any (bytes_eq k) ys)) (sym (tied-same k x y is))
named-insert_at k x y ys Greater is later =
    ap (λ b. bytes_eq k y || b) later ∙ or-swap (bytes_eq k x) (bytes_eq k y) (list_any (bytes_eq k) ys)

-- a name is among those of a set in which one more is put where it is that one, or was among them
pub named-insert : (k x : List ℕ) (ys : List (List ℕ))
    → list_any (bytes_eq k) (insert_key bytes_cmp ys x) ≡ (bytes_eq k x || list_any (bytes_eq k) ys)
named-insert k x [] = refl
named-insert k x (y ∷ ys) = named-insert_at k x y ys (bytes_cmp x y) refl (named-insert k x ys)

pub ordered-same : (k : List ℕ) (ks : List (List ℕ)) → list_any (bytes_eq k) (ordered ks) ≡ list_any (bytes_eq k) ks
ordered-same k [] = refl
ordered-same k (x ∷ ks) = named-insert k x (ordered ks) ∙ ap (λ b. bytes_eq k x || b) (ordered-same k ks)

-- ---- a name is found by a binary search exactly where it is there

or-some : (b : Bool) (x : List ℕ) (o : Option (List ℕ)) → is_some (cond b (Some x) o) ≡ (b || is_some o)
or-some true x o = refl
or-some false x o = refl

named-found : (k : List ℕ) (ks : List (List ℕ)) → is_some (find_named (λ n. n) k ks) ≡ list_any (bytes_eq k) ks
named-found k [] = refl
named-found k (x ∷ ks) =
    ap (λ (b : Bool). is_some (cond b (Some x) (find_named (λ n. n) k ks))) (is_eq-slice_cmp k x)
    ∙ or-some (bytes_eq k x) x (find_named (λ n. n) k ks)
    ∙ ap (λ (b : Bool). bytes_eq k x || b) (named-found k ks)

module _ {R : Type 0} (now : R → List ℕ) where
  pub present : (k : List ℕ) (xs : List R) (i : ℕ) → IsInNameOrder (λ n. n) (map now xs) → IsSearchInRange (Ok i) (length xs)
      → IsBinarySearchResult (λ y. bytes_cmp (now y) k) xs (Ok i) → true ≡ list_any (bytes_eq k) (map now xs)
  present k [] i order in_range found = absurd (omega (arith, in_range))
  present k (x ∷ xs) i order in_range found =
      let at = searched nat_list_cmp_total (λ (n : List ℕ). n) now k (x ∷ xs) (Ok i) order in_range found in
      sym (ap is_some (find-at_place nat_list_cmp_total (λ (n : List ℕ). n) now k (x ∷ xs) i x at.place))
      ∙ named-found k (map now (x ∷ xs))

  pub absent : (k : List ℕ) (xs : List R) (i : ℕ) → IsInNameOrder (λ n. n) (map now xs) → IsSearchInRange (Err i) (length xs)
      → IsBinarySearchResult (λ y. bytes_cmp (now y) k) xs (Err i) → false ≡ list_any (bytes_eq k) (map now xs)
  absent k xs i order in_range found =
      let at = searched nat_list_cmp_total (λ (n : List ℕ). n) now k xs (Err i) order in_range found in
      sym (ap is_some (find-in_gap nat_list_cmp_total (λ (n : List ℕ). n) now k xs i at.gap)) ∙ named-found k (map now xs)
