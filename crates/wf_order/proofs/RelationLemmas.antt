-- What the tables answer, and the relations.
use Rattle.std.proofs.Common.{◌≡◌, ◌≢◌, ℕ, zero, suc, ◌+◌, ◌<◌, Bool, true, false, not, ◌||◌, cond, List, [], ◌∷◌, ◌++◌, map, length, take, slice_get, Option, Some, None, ◌⊎◌, inl, inr, refl, sym, ap, ap₂, subst, ◌∙◌, arith, nat_eq, true≢false, length-append}
use Rattle.std.specs.Prelude.{◌↔◌}
use Rattle.std.specs.List.{list_any}
use Rattle.std.proofs.lemmas.Bool.{eq-eqb, eqb-true}
use Rattle.wf_def.specs.Definition.{Need, Names, Kind, Leaf, Scope, Choice, Foreach, Until, Branches, no_branch, branch, Graph, done, add, holds, has, has_any, has_own, needs_in, needs_any, needs_of, IsBefore, next, more, Closed, ClosedIn, ClosedAny}
use Rattle.wf_paths.specs.Path as path
use Rattle.wf_paths.specs.Table.{at, from, edge_of, names, names_in, paths_of}
use Rattle.wf_paths.proofs.PathLemmas.{or_left, or_right, or_split, and_both, and_split}
use Rattle.wf_paths.proofs.TableLemmas.{exact, length-from}
use Rattle.wf_order.specs.Order.{Among, Before, Contains, Exclusive, Redo, itself, inside, behind, IsBelow, around, around_in, around_any, up, stand}
use Rattle.wf_order.specs.Table.{PlaceTree, order_of, place_of, waits_of, up_in, up_at, stand_of, stand_at, but_last, leads_any, are_apart, apart_any, before, contains, exclusive, redo}

-- ---- actions that stand in a graph

head_is : (n m : ℕ) (h r : Bool) → n ≡ m → (nat_eq n m || h || r) ≡ true
head_is n m h r same = or_left (nat_eq n m || h) r (or_left (nat_eq n m) h (eq-eqb n m same))

inner_is : (b h r : Bool) → h ≡ true → (b || h || r) ≡ true
inner_is b h r is = or_left (b || h) r (or_right b h is)

rest_is : (b h r : Bool) → r ≡ true → (b || h || r) ≡ true
rest_is b h r is = or_right (b || h) r is

pub own_has : (g : Graph) (p : ℕ) → has_own g p ≡ true → has g p ≡ true
own_has done p is = is
own_has (add n after kind rest) p is = elim (or_split (nat_eq n p) (has_own rest p) is) [
  | inl own ↦ or_left (nat_eq n p || holds kind p) (has rest p) (or_left (nat_eq n p) (holds kind p) own)
  | inr behind' ↦ rest_is (nat_eq n p) (holds kind p) (has rest p) (own_has rest p behind')
]

-- containers stand in the graph
among_three : (b h : Bool) (n : ℕ) (kinds rests : List ℕ) (c : ℕ) → Among (cond b [] (cond h (n ∷ kinds) rests)) c
    → (n ≡ c) ⊎ (Among kinds c ⊎ Among rests c)
among_three true h n kinds rests c among = elim among [ ]
among_three false true n kinds rests c (inl same) = inl same
among_three false true n kinds rests c (inr inside') = inr (inl inside')
among_three false false n kinds rests c among = inr (inr among)

among_two : (h : Bool) (firsts rests : List ℕ) (c : ℕ) → Among (cond h firsts rests) c → Among firsts c ⊎ Among rests c
among_two true firsts rests c among = inl among
among_two false firsts rests c among = inr among

mutual
  pub around_has : (g : Graph) (m c : ℕ) → Among (around g m) c → has g c ≡ true
  around_has done m c among = elim among [ ]
  around_has (add n after kind rest) m c among =
      elim (among_three (nat_eq n m) (holds kind m) n (around_in kind m) (around rest m) c among) [
        | inl same ↦ head_is n c (holds kind c) (has rest c) same
        | inr further ↦ elim further [
          | inl inner ↦ inner_is (nat_eq n c) (holds kind c) (has rest c) (kind_has kind m c inner)
          | inr behind' ↦ rest_is (nat_eq n c) (holds kind c) (has rest c) (around_has rest m c behind')
        ]
      ]

  pub kind_has : (kind : Kind) (m c : ℕ) → Among (around_in kind m) c → holds kind c ≡ true
  kind_has Leaf m c among = elim among [ ]
  kind_has (Scope g) m c among = around_has g m c among
  kind_has (Choice bs) m c among = branch_has bs m c among
  kind_has (Foreach pace g) m c among = around_has g m c among
  kind_has (Until most g) m c among = around_has g m c among

  pub branch_has : (bs : Branches) (m c : ℕ) → Among (around_any bs m) c → has_any bs c ≡ true
  branch_has no_branch m c among = elim among [ ]
  branch_has (branch b rest) m c among = elim (among_two (has b m) (around b m) (around_any rest m) c among) [
    | inl first ↦ or_left (has b c) (has_any rest c) (around_has b m c first)
    | inr behind' ↦ or_right (has b c) (has_any rest c) (branch_has rest m c behind')
  ]

pub among-append : (xs ys : List ℕ) (c : ℕ) → Among (xs ++ ys) c → Among xs c ⊎ Among ys c
among-append [] ys c among = inr among
among-append (x ∷ xs) ys c (inl same) = inl (inl same)
among-append (x ∷ xs) ys c (inr rest) = elim (among-append xs ys c rest) [ inl first ↦ inl (inr first) | inr last ↦ inr last ]

up_has : (g : Graph) (x c : ℕ) → has g x ≡ true → Among (up g x) c → has g c ≡ true
up_has g x c there among = elim (among-append (around g x) (x ∷ []) c among) [
  | inl container ↦ around_has g x c container
  | inr last ↦ elim last [ inl same ↦ subst (λ (y : ℕ). has g y ≡ true) same there | inr none ↦ elim none [ ] ]
]

-- what is waited for stands in the graph
module _ (P : ℕ → Type 0) where
  names_three : (b h : Bool) (xs ys zs : List Need) (p : ℕ) → Names (cond b xs (cond h ys zs)) p
      → (Names xs p → P p) → (Names ys p → P p) → (Names zs p → P p) → P p
  names_three true h xs ys zs p named one two three = one named
  names_three false true xs ys zs p named one two three = two named
  names_three false false xs ys zs p named one two three = three named

  names_two : (h : Bool) (xs ys : List Need) (p : ℕ) → Names (cond h xs ys) p → (Names xs p → P p) → (Names ys p → P p) → P p
  names_two true xs ys p named one two = one named
  names_two false xs ys p named one two = two named

  mutual
    waited : (g w : Graph) → Closed g w → ((q : ℕ) → has_own w q ≡ true → P q) → ((q : ℕ) → has g q ≡ true → P q)
        → (a p : ℕ) → Names (needs_of g a) p → P p
    waited done w closed own in_it a p named = elim named [ ]
    waited (add n after kind rest) w closed own in_it a p named =
        names_three (nat_eq n a) (holds kind a) after (needs_in kind a) (needs_of rest a) p named
        (λ here. own p (closed.0 p here))
        (λ inner. waited_in kind closed.1 (λ q held. in_it q (inner_is (nat_eq n q) (holds kind q) (has rest q) held)) a p inner)
        (λ later. waited rest w closed.2 own (λ q held. in_it q (rest_is (nat_eq n q) (holds kind q) (has rest q) held)) a p later)

    waited_in : (kind : Kind) → ClosedIn kind → ((q : ℕ) → holds kind q ≡ true → P q) → (a p : ℕ) → Names (needs_in kind a) p → P p
    waited_in Leaf closed in_it a p named = elim named [ ]
    waited_in (Scope g) closed in_it a p named = waited g g closed (λ q own. in_it q (own_has g q own)) in_it a p named
    waited_in (Choice bs) closed in_it a p named = waited_any bs closed in_it a p named
    waited_in (Foreach pace g) closed in_it a p named = waited g g closed (λ q own. in_it q (own_has g q own)) in_it a p named
    waited_in (Until most g) closed in_it a p named = waited g g closed (λ q own. in_it q (own_has g q own)) in_it a p named

    waited_any : (bs : Branches) → ClosedAny bs → ((q : ℕ) → has_any bs q ≡ true → P q) → (a p : ℕ) → Names (needs_any bs a) p → P p
    waited_any no_branch closed in_it a p named = elim named [ ]
    waited_any (branch b rest) closed in_it a p named =
        names_two (has b a) (needs_of b a) (needs_any rest a) p named
        (λ here. waited b b closed.0 (λ q own. in_it q (or_left (has b q) (has_any rest q) (own_has b q own)))
        (λ q held. in_it q (or_left (has b q) (has_any rest q) held)) a p here)
        (λ later. waited_any rest closed.1 (λ q held. in_it q (or_right (has b q) (has_any rest q) held)) a p later)

-- ---- lists

any_of : (t : ℕ → Bool) (xs : List ℕ) → list_any t xs ≡ true → (x : ℕ) × Among xs x × (t x ≡ true)
any_of t [] h = absurd (true≢false (sym h))
any_of t (x ∷ xs) h = elim (or_split (t x) _ h) [
  | inl is ↦ (x, inl refl, is)
  | inr rest ↦ let (y, among, is) = any_of t xs rest in
      (y, inr among, is)
]

some_of : (t : ℕ → Bool) (xs : List ℕ) (x : ℕ) → Among xs x → t x ≡ true → list_any t xs ≡ true
some_of t [] x h is = elim h [ ]
some_of t (y ∷ ys) x (inl same) is = or_left (t y) _ (subst (λ (z : ℕ). t z ≡ true) (sym same) is)
some_of t (y ∷ ys) x (inr rest) is = or_right (t y) _ (some_of t ys x rest is)

-- some pair of two lists, as a test and as a fact
record Pair (t : ℕ → ℕ → Bool) (xs ys : List ℕ) : Type 0 where
  one : ℕ
  other : ℕ
  one_among : Among xs one
  other_among : Among ys other
  holds_of : t one other ≡ true

pair_of : (t : ℕ → ℕ → Bool) (xs ys : List ℕ) → list_any (λ c. list_any (t c) ys) xs ≡ true → Pair t xs ys
pair_of t xs ys h =
    let (c, among_c, has_c) = any_of (λ c. list_any (t c) ys) xs h in
    let (d, among_d, is) = any_of (t c) ys has_c in
    record { one = c; other = d; one_among = among_c; other_among = among_d; holds_of = is }

of_pair : (t : ℕ → ℕ → Bool) (xs ys : List ℕ) (c d : ℕ) → Among xs c → Among ys d → t c d ≡ true →
    list_any (λ e. list_any (t e) ys) xs ≡ true
of_pair t xs ys c d among_c among_d is = some_of (λ e. list_any (t e) ys) xs c among_c (some_of (t c) ys d among_d is)

-- ---- entries and edges

named : (after : List Need) (p : ℕ) → names (map (λ need. need.name) after) p ≡ true → Names after p
named [] p h = absurd (true≢false (sym h))
named (need ∷ needs) p h = elim (or_split (nat_eq p need.name) _ h)
    [ inl is ↦ inl (sym (eqb-true p need.name is)) | inr rest ↦ inr (named needs p rest) ]

listed : (after : List Need) (p : ℕ) → Names after p → names (map (λ need. need.name) after) p ≡ true
listed [] p h = elim h [ ]
listed (need ∷ needs) p (inl is) = or_left (nat_eq p need.name) _ (eq-eqb p need.name (sym is))
listed (need ∷ needs) p (inr rest) = or_right (nat_eq p need.name) _ (listed needs p rest)

lt_or_not : (a n : ℕ) → (a < n) ⊎ (a < n → ⊥)
lt_or_not a zero = inr (λ h. omega (arith, h))
lt_or_not zero (suc n) = inl (omega arith)
lt_or_not (suc a) (suc n) = elim (lt_or_not a n) [ inl h ↦ inl (omega (arith, h)) | inr out ↦ inr (λ h. out (omega (arith, h))) ]

get-from : {X : Type 0} (i n k : ℕ) (f : ℕ → X) → k < n → slice_get (from i n f) k ≡ Some (f (i + k))
get-from i zero k f within = absurd (omega (arith, within))
get-from i (suc n) zero f within = ap (λ m. Some (f m)) (omega arith)
get-from i (suc n) (suc k) f within = get-from (suc i) n k f (omega (arith, within)) ∙ ap (λ m. Some (f m)) (omega arith)

get-first : {X : Type 0} (n k : ℕ) (f : ℕ → X) → k < n → slice_get (from 0 n f) k ≡ Some (f k)
get-first n k f within = get-from 0 n k f within ∙ ap (λ m. Some (f m)) (omega arith)

out-from : {X : Type 0} (i n k : ℕ) (f : ℕ → X) → (k < n → ⊥) → slice_get (from i n f) k ≡ None
out-from i zero k f out = refl
out-from i (suc n) zero f out = absurd (out (omega arith))
out-from i (suc n) (suc k) f out = out-from (suc i) n k f (λ within. out (omega (arith, within)))

no_name : (p : ℕ) → names_in None p ≡ true → ⊥
no_name p h = true≢false (sym h)

module _ (n : ℕ) (g : Graph) (below : IsBelow n g) where
  abbrev nodes : List (List ℕ)
  nodes = from 0 n (waits_of g)

  edge_at : (p a : ℕ) → a < n → edge_of nodes p a ≡ names (waits_of g a) p
  edge_at p a within = ap (λ o. names_in o p) (get-first n a (waits_of g) within)

  edge_names : (p a : ℕ) → a < n → edge_of nodes p a ≡ true → Names (needs_of g a) p
  edge_names p a within h = named (needs_of g a) p (sym (edge_at p a within) ∙ h)

  names_edge : (p a : ℕ) → a < n → Names (needs_of g a) p → edge_of nodes p a ≡ true
  names_edge p a within h = edge_at p a within ∙ listed (needs_of g a) p h

  is_node : (p a : ℕ) → edge_of nodes p a ≡ true → a < n
  is_node p a h = elim (lt_or_not a n) [
    | inl within ↦ within
    | inr out ↦ absurd (no_name p (sym (ap (λ o. names_in o p) (out-from 0 n a (waits_of g) out)) ∙ h))
  ]

  -- ---- paths and ancestors

  ancestor : (p a : ℕ) → path.IsPath (edge_of nodes) p a → IsBefore g p a
  ancestor p a (path.one e) = next (edge_names p a (is_node p a e) e)
  ancestor p a (path.more {q = q} f e) = more (ancestor p q f) (edge_names q a (is_node q a e) e)

  module _ (closed : Closed g g) where
    waited_has : (a p : ℕ) → Names (needs_of g a) p → has g p ≡ true
    waited_has = waited (λ q. has g q ≡ true) g g closed (own_has g) (λ q is. is)

    path_to : (p a : ℕ) → a < n → IsBefore g p a → path.IsPath (edge_of nodes) p a
    path_to p a within (next h) = path.one (names_edge p a within h)
    path_to p a within (more {q = q} f h) = path.more (path_to p q (below q (waited_has a q h)) f) (names_edge q a within h)

    at_is : (c d : ℕ) → c < n → d < n → (at (paths_of nodes) d c ≡ true) ↔ IsBefore g c d
    at_is c d in_c in_d =
        let both = exact nodes d c (subst (λ (k : ℕ). c < k) (sym (length-from 0 n (waits_of g))) in_c) in
        (λ h. ancestor c d (both.0 h), λ h. both.1 (path_to c d in_d h))

  -- ---- places

  up_is : (x : ℕ) → has g x ≡ true → up_at (from 0 n (place_of g)) x ≡ up g x
  up_is x there =
      ap up_in (get-first n x (place_of g) (below x there))
      ∙ ap (λ (b : Bool). up_in (Some (cond b (Some (record { up = up g x; stand = stand None g x; after = waits_of g x })) None))) there

  stand_is : (x : ℕ) → has g x ≡ true → stand_at (from 0 n (place_of g)) x ≡ stand None g x
  stand_is x there =
      ap stand_of (get-first n x (place_of g) (below x there))
      ∙ ap (λ (b : Bool). stand_of (Some (cond b (Some (record { up = up g x; stand = stand None g x; after = waits_of g x })) None))) there

-- ---- what the tables answer

take_front : (xs ys : List ℕ) → take (length xs) (xs ++ ys) ≡ xs
take_front [] ys = refl
take_front (x ∷ xs) ys = ap (λ zs. x ∷ zs) (take_front xs ys)

but_last-is : (xs : List ℕ) (x : ℕ) → but_last (xs ++ x ∷ []) ≡ xs
but_last-is xs x = ap (λ k. take k (xs ++ x ∷ [])) (omega (arith, length-append xs (x ∷ []))) ∙ take_front xs (x ∷ [])

not_same : (b : Bool) → not b ≡ true → b ≡ true → ⊥
not_same true h is = true≢false (sym h)
not_same false h is = true≢false (sym is)

differ : (a b : ℕ) → (a ≡ b → ⊥) → not (nat_eq a b) ≡ true
differ a b h = elim (nat_eq a b) as (λ c. nat_eq a b ≡ c → not c ≡ true)
    [ true ↦ λ is. absurd (h (eqb-true a b is)) | false ↦ λ is. refl ] refl

record Apart (p q : Option (ℕ × ℕ)) : Type 0 where
  container : ℕ
  left : ℕ
  right : ℕ
  one : p ≡ Some (container, left)
  other : q ≡ Some (container, right)
  apart : left ≢ right

are_apart_is : (p q : Option (ℕ × ℕ)) → are_apart p q ≡ true → Apart p q
are_apart_is None q h = absurd (true≢false (sym h))
are_apart_is (Some p) None h = absurd (true≢false (sym h))
are_apart_is (Some p) (Some q) h =
    let both = and_split (nat_eq p.0 q.0) (not (nat_eq p.1 q.1)) h in
    let same = eqb-true p.0 q.0 both.0 in
    record {
      container = p.0;
      left = p.1;
      right = q.1;
      one = refl;
      other = ap (λ (n : ℕ). Some (n, q.1)) (sym same);
      apart = λ is. not_same (nat_eq p.1 q.1) both.1 (eq-eqb p.1 q.1 is);
    }

is_apart : (p q : Option (ℕ × ℕ)) (n i j : ℕ) → p ≡ Some (n, i) → q ≡ Some (n, j) → i ≢ j → are_apart p q ≡ true
is_apart p q n i j one other apart = rw (one, other) (and_both (nat_eq n n) (not (nat_eq i j)) (eq-eqb n n refl) (differ i j apart))

module _ (n : ℕ) (g : Graph) (below : IsBelow n g) where
  abbrev places : List (Option PlaceTree)
  places = from 0 n (place_of g)

  pub before_is : Closed g g → (x y : ℕ) → has g x ≡ true → has g y ≡ true → (before (order_of n g) x y ≡ true) ↔ Before g x y
  before_is closed x y has_x has_y =
      let paths = paths_of (from 0 n (waits_of g)) in
      let same : before (order_of n g) x y ≡ leads_any paths (up g x) (up g y) =
      ap₂ (λ (xs ys : List ℕ). leads_any paths xs ys) (up_is n g below x has_x) (up_is n g below y has_y) in (
        (λ h.
            let p = pair_of (λ c d. at paths d c) (up g x) (up g y) (sym same ∙ h) in
            record {
              one = p.one;
              other = p.other;
              one_up = p.one_among;
              other_up = p.other_among;
              ancestor = (at_is n g below closed p.one p.other (below p.one (up_has g x p.one has_x p.one_among))
                  (below p.other (up_has g y p.other has_y p.other_among))).0 p.holds_of;
            }),
        (λ b. same ∙ of_pair (λ c d. at paths d c) (up g x) (up g y) b.one b.other b.one_up b.other_up
            ((at_is n g below closed b.one b.other (below b.one (up_has g x b.one has_x b.one_up))
            (below b.other (up_has g y b.other has_y b.other_up))).1 b.ancestor)),
      )

  pub contains_is : (x y : ℕ) → has g y ≡ true → (contains (order_of n g) x y ≡ true) ↔ Contains g x y
  contains_is x y has_y =
      let same : contains (order_of n g) x y ≡ list_any (nat_eq x) (around g y) =
      ap (λ (xs : List ℕ). list_any (nat_eq x) xs) (ap but_last (up_is n g below y has_y) ∙ but_last-is (around g y) y) in (
        (λ h. let (z, among, is) = any_of (nat_eq x) (around g y) (sym same ∙ h) in
            subst (λ (w : ℕ). Among (around g y) w) (sym (eqb-true x z is)) among),
        (λ among. same ∙ some_of (nat_eq x) (around g y) x among (eq-eqb x x refl)),
      )

  pub exclusive_is : (x y : ℕ) → has g x ≡ true → has g y ≡ true → (exclusive (order_of n g) x y ≡ true) ↔ Exclusive g x y
  exclusive_is x y has_x has_y =
      let test : ℕ → ℕ → Bool = λ c d. are_apart (stand_at places c) (stand_at places d) in
      let same : exclusive (order_of n g) x y ≡ apart_any places (up g x) (up g y) =
      ap₂ (λ (xs ys : List ℕ). apart_any places xs ys) (up_is n g below x has_x) (up_is n g below y has_y) in (
        (λ h.
            let p = pair_of test (up g x) (up g y) (sym same ∙ h) in
            let one = stand_is n g below p.one (up_has g x p.one has_x p.one_among) in
            let other = stand_is n g below p.other (up_has g y p.other has_y p.other_among) in
            let a = are_apart_is (stand None g p.one) (stand None g p.other) (sym (ap₂ are_apart one other) ∙ p.holds_of) in
            record {
              one = p.one;
              other = p.other;
              one_up = p.one_among;
              other_up = p.other_among;
              container = a.container;
              left = a.left;
              right = a.right;
              one_stands = a.one;
              other_stands = a.other;
              apart = a.apart;
            }),
        (λ e.
            let one = stand_is n g below e.one (up_has g x e.one has_x e.one_up) in
            let other = stand_is n g below e.other (up_has g y e.other has_y e.other_up) in
            same ∙ of_pair test (up g x) (up g y) e.one e.other e.one_up e.other_up
            (ap₂ are_apart one other
            ∙ is_apart (stand None g e.one) (stand None g e.other) e.container e.left e.right e.one_stands e.other_stands e.apart)),
      )

  pub redo_is : Closed g g → (x y : ℕ) → has g x ≡ true → has g y ≡ true → (redo (order_of n g) x y ≡ true) ↔ Redo g x y
  redo_is closed x y has_x has_y =
      let inner = contains_is x y has_y in
      let later = before_is closed x y has_x has_y in
      let in_it : Bool = contains (order_of n g) x y in
      let behind_it : Bool = before (order_of n g) x y in (
        (λ h. elim (or_split (nat_eq x y) (in_it || behind_it) h) [
          | inl same ↦ itself (eqb-true x y same)
          | inr further ↦ elim (or_split in_it behind_it further) [ inl is ↦ inside (inner.0 is) | inr is ↦ behind (later.0 is) ]
        ]),
        (λ r. elim r [
          | itself same ↦ or_left (nat_eq x y) (in_it || behind_it) (eq-eqb x y same)
          | inside is ↦ or_right (nat_eq x y) (in_it || behind_it) (or_left in_it behind_it (inner.1 is))
          | behind is ↦ or_right (nat_eq x y) (in_it || behind_it) (or_right in_it behind_it (later.1 is))
        ]),
      )
