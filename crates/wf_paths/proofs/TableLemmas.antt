-- Tables of a function, place by place.
use Rattle.std.proofs.Common.{◌≡◌, ℕ, zero, suc, ◌+◌, ◌<◌, ◌⊎◌, inl, inr, Bool, true, false, ◌||◌, ◌&&◌, cond, List, [], ◌∷◌, ◌++◌, map, length, get_or, add-one, slice_get, Some, refl, sym, ap, ap₂, ◌∙◌, append_assoc, arith}
use Rattle.std.specs.Prelude.{◌↔◌, All}
use Rattle.std.proofs.lemmas.List.{length-map}
use Rattle.wf_paths.specs.Path.{IsPath, leads}
use Rattle.wf_paths.specs.Table.{from, table, slot, row_at, at, either, through_row, round, edge_of, paths_of, names, names_in}
use Rattle.wf_paths.proofs.PathLemmas.{sound, complete, target}

pub from_more : {X : Type 0} (i n : ℕ) (f : ℕ → X) → from i (suc n) f ≡ from i n f ++ f (i + n) ∷ []
from_more i zero f = ap (λ m. f m ∷ []) (omega arith)
from_more i (suc n) f = ap (λ xs. f i ∷ xs) (from_more (suc i) n f ∙ ap (λ m. from (suc i) n f ++ f m ∷ []) (omega arith))

pub from_same : {X : Type 0} (i n : ℕ) (f g : ℕ → X) → ((j : ℕ) → f j ≡ g j) → from i n f ≡ from i n g
from_same i zero f g same = refl
from_same i (suc n) f g same = ap₂ (λ x xs. x ∷ xs) (same i) (from_same (suc i) n f g same)

pub length-from : {X : Type 0} (i n : ℕ) (f : ℕ → X) → length (from i n f) ≡ n
length-from i zero f = refl
length-from i (suc n) f = ap suc (length-from (suc i) n f)

map-from : {X Y : Type 0} (h : X → Y) (i n : ℕ) (f : ℕ → X) → map h (from i n f) ≡ from i n (λ j. h (f j))
map-from h i zero f = refl
map-from h i (suc n) f = ap (λ xs. h (f i) ∷ xs) (map-from h (suc i) n f)

slot-from : (i n k : ℕ) (f : ℕ → Bool) → k < n → slot (from i n f) k ≡ f (i + k)
slot-from i zero k f within = absurd (omega (arith, within))
slot-from i (suc n) zero f within = ap f (omega arith)
slot-from i (suc n) (suc k) f within = slot-from (suc i) n k f (omega (arith, within)) ∙ ap f (omega arith)

row_at-from : (i n k : ℕ) (f : ℕ → List Bool) → k < n → row_at (from i n f) k ≡ f (i + k)
row_at-from i zero k f within = absurd (omega (arith, within))
row_at-from i (suc n) zero f within = ap f (omega arith)
row_at-from i (suc n) (suc k) f within = row_at-from (suc i) n k f (omega (arith, within)) ∙ ap f (omega arith)

none_more : (k : ℕ) → 0 + k ≡ k
none_more k = omega arith

slot-first : (n k : ℕ) (f : ℕ → Bool) → k < n → slot (from 0 n f) k ≡ f k
slot-first n k f within = slot-from 0 n k f within ∙ ap f (none_more k)

row_at-first : (n k : ℕ) (f : ℕ → List Bool) → k < n → row_at (from 0 n f) k ≡ f k
row_at-first n k f within = row_at-from 0 n k f within ∙ ap f (none_more k)

-- a loop by places: one value more
pub from_next : {X : Type 0} (n : ℕ) (f : ℕ → X) → from 0 (n + 1) f ≡ from 0 n f ++ f n ∷ []
from_next n f = rw add-one (from_more 0 n f ∙ ap (λ m. from 0 n f ++ f m ∷ []) (none_more n))

-- the row of one node more
pub row_next : (nodes : List (List ℕ)) (n a : ℕ) (entries : List ℕ) → slice_get nodes a ≡ Some entries →
    from 0 n (names entries) ≡ from 0 n (λ p. edge_of nodes p a)
row_next nodes n a entries is = from_same 0 n (names entries) (λ p. edge_of nodes p a) (λ p. ap (λ o. names_in o p) (sym is))

either-from : (i n : ℕ) (f g : ℕ → Bool) → either (from i n f) (from i n g) ≡ from i n (λ p. f p || g p)
either-from i zero f g = refl
either-from i (suc n) f g = ap (λ bs. (f i || g i) ∷ bs) (either-from (suc i) n f g)

pub or_no : (b : Bool) → b ≡ (b || false)
or_no true = refl
or_no false = refl

through-from : (n k : ℕ) (f g : ℕ → Bool) (b : Bool) →
    cond b (either (from 0 n f) (from 0 n g)) (from 0 n f) ≡ from 0 n (λ p. f p || (b && g p))
through-from n k f g true = either-from 0 n f g
through-from n k f g false = from_same 0 n f (λ p. f p || false) (λ p. or_no (f p))

pub round-table : (e : ℕ → ℕ → Bool) (n k : ℕ) → k < n → round (table n (leads e k)) k ≡ table n (leads e (suc k))
round-table e n k within =
    let own : row_at (table n (leads e k)) k ≡ from 0 n (λ p. leads e k p k) =
    row_at-first n k (λ a. from 0 n (λ p. leads e k p a)) within in
    ap (λ r. map (λ row. through_row row k r) (table n (leads e k))) own
    ∙ map-from (λ row. through_row row k (from 0 n (λ p. leads e k p k))) 0 n (λ a. from 0 n (λ p. leads e k p a))
    ∙ from_same 0 n _ _ (λ a.
    ap (λ b. cond b (either (from 0 n (λ p. leads e k p a)) (from 0 n (λ p. leads e k p k))) (from 0 n (λ p. leads e k p a)))
    (slot-first n k (λ p. leads e k p a) within)
    ∙ through-from n k (λ p. leads e k p a) (λ p. leads e k p k) (leads e k k a))

pub at-table : (n : ℕ) (r : ℕ → ℕ → Bool) (a p : ℕ) → a < n → p < n → at (table n r) a p ≡ r p a
at-table n r a p in_a in_p = ap (λ row. slot row p) (row_at-first n a (λ x. from 0 n (λ q. r q x)) in_a) ∙ slot-first n p (λ q. r q a) in_p

-- only a node that is there names another
has_node : (nodes : List (List ℕ)) (p a : ℕ) → edge_of nodes p a ≡ true → a < length nodes
has_node [] p a h = absurd (cc)
has_node (entries ∷ nodes) p zero h = omega arith
has_node (entries ∷ nodes) p (suc a) h = let less = has_node nodes p a h in omega (arith, less)

out-of_row : (i n k : ℕ) (f : ℕ → List Bool) → (k < n → ⊥) → row_at (from i n f) k ≡ []
out-of_row i zero k f out = refl
out-of_row i (suc n) zero f out = absurd (out (omega arith))
out-of_row i (suc n) (suc k) f out = out-of_row (suc i) n k f (λ within. out (omega (arith, within)))

lt_or_not : (a n : ℕ) → (a < n) ⊎ (a < n → ⊥)
lt_or_not a zero = inr (λ h. omega (arith, h))
lt_or_not zero (suc n) = inl (omega arith)
lt_or_not (suc a) (suc n) = elim (lt_or_not a n) [ inl h ↦ inl (omega (arith, h)) | inr out ↦ inr (λ h. out (omega (arith, h))) ]

no_place : (p : ℕ) → slot [] p ≡ true → ⊥
no_place p h = cc

-- the table is exact
pub exact : (nodes : List (List ℕ)) (a p : ℕ) → p < length nodes → (at (paths_of nodes) a p ≡ true) ↔ IsPath (edge_of nodes) p a
exact nodes a p in_p = by (lt_or_not a (length nodes))
  where
    by : (a < length nodes) ⊎ (a < length nodes → ⊥) → (at (paths_of nodes) a p ≡ true) ↔ IsPath (edge_of nodes) p a
    by (inl in_a) =
        let is = at-table (length nodes) (leads (edge_of nodes) (length nodes)) a p in_a in_p in (
          λ h. sound (edge_of nodes) (length nodes) p a (sym is ∙ h),
          λ path. is
              ∙ complete (edge_of nodes) (length nodes) (has_node nodes) p a path,
        )
    by (inr out) =
        let none = out-of_row 0 (length nodes) a (λ x. from 0 (length nodes) (λ q. leads (edge_of nodes) (length nodes) q x)) out in (
          λ h. absurd (no_place p (sym (ap (λ row. slot row p) none) ∙ h)),
          λ path. absurd
              (out (target (edge_of nodes) (length nodes) (has_node nodes) p a path)),
        )

-- and so it is of cycles, also of numbers that are no node's
pub exact-cycle : (nodes : List (List ℕ)) (a : ℕ) → (at (paths_of nodes) a a ≡ true) ↔ IsPath (edge_of nodes) a a
exact-cycle nodes a = by (lt_or_not a (length nodes))
  where
    by : (a < length nodes) ⊎ (a < length nodes → ⊥) → (at (paths_of nodes) a a ≡ true) ↔ IsPath (edge_of nodes) a a
    by (inl in_a) = exact nodes a a in_a
    by (inr out) =
        let none = out-of_row 0 (length nodes) a (λ x. from 0 (length nodes) (λ q. leads (edge_of nodes) (length nodes) q x)) out in (
          λ h. absurd (no_place a (sym (ap (λ row. slot row a) none) ∙ h)),
          λ path. absurd
              (out (target (edge_of nodes) (length nodes) (has_node nodes) a a path)),
        )

-- ---- lists of rows that stand in vectors

pub map-snoc : {X Y : Type 0} (f : X → Y) (xs : List X) (x : X) → map f (xs ++ x ∷ []) ≡ map f xs ++ f x ∷ []
map-snoc f [] x = refl
map-snoc f (y ∷ xs) x = ap (λ ys. f y ∷ ys) (map-snoc f xs x)

get-from : {X : Type 0} (i n k : ℕ) (f : ℕ → X) → k < n → slice_get (from i n f) k ≡ Some (f (i + k))
get-from i zero k f within = absurd (omega (arith, within))
get-from i (suc n) zero f within = ap (λ m. Some (f m)) (omega arith)
get-from i (suc n) (suc k) f within = get-from (suc i) n k f (omega (arith, within)) ∙ ap (λ m. Some (f m)) (omega arith)

got : {X Y : Type 0} (f : X → Y) (xs : List X) (j : ℕ) (d : X) → j < length xs → slice_get (map f xs) j ≡ Some (f (get_or xs j d))
got f [] j d within = absurd (omega (arith, within))
got f (x ∷ xs) zero d within = refl
got f (x ∷ xs) (suc j) d within = got f xs j d (omega (arith, within))

module _ {X : Type 0} (f : X → List Bool) where
  -- one row more of the first table
  pub table_next : {Y : Type 0} (nodes : List Y) (h : Y → List ℕ) (rows : List X) (i : ℕ) (row : X) (entries d : Y) → i < length nodes →
      entries ≡ get_or nodes i d
      → f row ≡ from 0 (length nodes) (names (h entries))
      → map f rows ≡ from 0 i (λ a. from 0 (length nodes) (λ p. edge_of (map h nodes) p a))
      → map f (rows ++ row ∷ []) ≡ from 0 (i + 1) (λ a. from 0 (length nodes) (λ p. edge_of (map h nodes) p a))
  table_next nodes h rows i row entries d within is own so_far =
      let there : slice_get (map h nodes) i ≡ Some (h entries) = got h nodes i d within ∙ ap (λ e. Some (h e)) (sym is) in
      map-snoc f rows row
      ∙ ap₂ (λ rs r. rs ++ r ∷ []) so_far (own ∙ row_next (map h nodes) (length nodes) i (h entries) there)
      ∙ sym (from_next i (λ a. from 0 (length nodes) (λ p. edge_of (map h nodes) p a)))

  pub same_lengths : (rows : List X) (n k : ℕ) (g : ℕ → ℕ → Bool) → map f rows ≡ table n g → k < n → (j : ℕ) (d : X) → j < length rows →
      length (f (get_or rows j d)) ≡ length (row_at (map f rows) k)
  same_lengths rows n k g is within j d in_j =
      let size : length rows ≡ n = sym (length-map rows f) ∙ ap length is ∙ length-from 0 n (λ a. from 0 n (λ p. g p a)) in
      let there : slice_get (map f rows) j ≡ Some (from 0 n (λ p. g p (0 + j))) =
      ap (λ rs. slice_get rs j) is ∙ get-from 0 n j (λ a. from 0 n (λ p. g p a)) (omega (arith, in_j, size)) in
      let here = got f rows j d in_j in
      let same : f (get_or rows j d) ≡ from 0 n (λ p. g p (0 + j)) = cc in
      ap length same ∙ length-from 0 n (λ p. g p (0 + j))
      ∙ sym (ap (λ rs. length (row_at rs k)) is ∙ ap length (row_at-first n k (λ a. from 0 n (λ p. g p a)) within)
      ∙ length-from 0 n (λ p. g p k))

  map_twice : (k : ℕ) (through : List Bool) (rs : List X) →
      map (λ r. through_row (f r) k through) rs ≡ map (λ row. through_row row k through) (map f rs)
  map_twice k through [] = refl
  map_twice k through (r ∷ rs) = ap (λ rows'. through_row (f r) k through ∷ rows') (map_twice k through rs)

  pub round_is : (rows : List X) (k : ℕ) (through : List Bool) → through ≡ row_at (map f rows) k →
      map (λ r. through_row (f r) k through) rows ≡ round (map f rows) k
  round_is rows k through is = map_twice k through rows ∙ ap (λ t. map (λ row. through_row row k t) (map f rows)) is

  -- a loop over rows: one more
  pub row_done : (g : X → List Bool) (new rest all : List X) (made row : X) → f made ≡ g row → map f new ++ map g (row ∷ rest) ≡ map g all →
      map f (new ++ made ∷ []) ++ map g rest ≡ map g all
  row_done g new rest all made row same so_far =
      ap (λ rs. rs ++ map g rest) (map-snoc f new made ∙ ap (λ r. map f new ++ r ∷ []) same)
      ∙ append_assoc (map f new) (g row ∷ []) (map g rest) ∙ so_far

-- what holds of all holds of all but the first
pub all_rest : {X : Type 0} (P : X → Type 0) (x : X) (xs : List X) → All P (x ∷ xs) → All P xs
all_rest P x xs all = λ j d within. all (suc j) d (omega (arith, within))
