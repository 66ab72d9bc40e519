-- Where no action of a graph offends by its `runAfter`, an action that is waited for leads to fewer than one that waits for it.
use Rattle.std.proofs.Common.{◌≡◌, ℕ, zero, suc, ◌+◌, ◌<◌, ◌≤◌, Bool, true, false, cond, List, [], ◌∷◌, ◌++◌, Option, Some, None, length, option_map, slice_get, Less, bytes_eq, refl, sym, ap, subst, ◌∙◌, append_assoc, length-append, arith}
use Rattle.std.specs.Prelude.{◌||◌, ◌↔◌, is_none, nat_eq}
use Rattle.std.specs.List.{AllByRecursion, list_any}
use Rattle.std.proofs.Math.Bool.{or-true}
use Rattle.std.proofs.lemmas.Bool.Decides.{Decides-eqb}
use Rattle.std.proofs.lemmas.Slice.Eq.{bytes_eq-Decides}
use Rattle.wf_val.specs.Get.{name_of}
use Rattle.wf_val.specs.NameOrder.{bytes_cmp, IsInNameOrder}
use Rattle.wf_val.specs.ValueTree.{Member}
use Rattle.wf_form.specs.Pointer.{flagged}
use Rattle.wf_paths.specs.Path.{IsPath}
use Rattle.wf_paths.specs.Table.{at, edge_of, names as names_place, paths_of}
use Rattle.wf_form.specs.Entries.{entries_of, has_bad_entry, is_bad_entry, place_in}
use Rattle.wf_form.specs.Waits.{bad_run_after, nodes, offenders, offends, paths_in, places_of, with_place}
use Rattle.wf_reading.proofs.PartLemmas.{bytes_eq-sym, lesser_differs}

-- ---- counting

abbrev pub count_from : ℕ → ℕ → (ℕ → Bool) → ℕ
count_from i zero f = 0
count_from i (suc n) f = cond (f i) 1 0 + count_from (suc i) n f

count-step : (i n : ℕ) (f : ℕ → Bool) (b : Bool) → f i ≡ b → count_from i (suc n) f ≡ cond b 1 0 + count_from (suc i) n f
count-step i n f b is = ap (λ c. cond c 1 0 + count_from (suc i) n f) is

count-le : (i n : ℕ) (f g : ℕ → Bool) → ((p : ℕ) → p < i + n → f p ≡ true → g p ≡ true) → count_from i n f ≤ count_from i n g
count-le i zero f g more = omega arith
count-le i (suc n) f g more =
    let rest : count_from (suc i) n f ≤ count_from (suc i) n g = count-le (suc i) n f g (λ p lt. more p (omega arith)) in
    elim (f i) as (λ b. f i ≡ b → count_from i (suc n) f ≤ count_from i (suc n) g) [
      | true ↦ λ is. omega (arith, rest, count-step i n f true is, count-step i n g true (more i (omega arith) is))
      | false ↦ λ is. omega (arith, rest, count-step i n f false is)
    ] refl

count-less : (d i n : ℕ) (f g : ℕ → Bool) (j : ℕ) → j ≡ i + d → j < i + n → ((p : ℕ) → p < i + n → f p ≡ true → g p ≡ true)
    → f j ≡ false → g j ≡ true → count_from i n f < count_from i n g
count-less d i zero f g j is below more less greater = absurd (omega arith)
count-less zero i (suc n) f g j is below more less greater =
    let here : j ≡ i = omega arith in
    let rest : count_from (suc i) n f ≤ count_from (suc i) n g = count-le (suc i) n f g (λ p lt. more p (omega arith)) in
    omega (arith, rest, count-step i n f false (ap f (sym here) ∙ less), count-step i n g true (ap g (sym here) ∙ greater))
count-less (suc d) i (suc n) f g j is below more less greater =
    let rest : count_from (suc i) n f < count_from (suc i) n g = count-less d (suc i) n f g j (omega arith) (omega arith) (λ p lt. more p (omega arith)) less greater in
    elim (f i) as (λ b. f i ≡ b → count_from i (suc n) f < count_from i (suc n) g) [
      | true ↦ λ this. omega (arith, rest, count-step i n f true this, count-step i n g true (more i (omega arith) this))
      | false ↦ λ this. omega (arith, rest, count-step i n f false this)
    ] refl

-- ---- places

nat_eq-same : (n : ℕ) → nat_eq n n ≡ true
nat_eq-same n = (Decides-eqb n n).1 refl

bytes_eq-same : (k : List ℕ) → bytes_eq k k ≡ true
bytes_eq-same k = (bytes_eq-Decides k k).1 refl

some_one : {X : Type 0} {x y : X} → Some x ≡ Some y → x ≡ y
some_one is = cc

below-middle : (k : List ℕ) (front : List Member) (m : Member) (rest : List Member)
    → AllByRecursion (λ z. bytes_cmp k (name_of z) ≡ Less) (front ++ m ∷ rest) → bytes_cmp k m.0 ≡ Less
below-middle k [] m rest all = all.0
below-middle k (x ∷ front) m rest all = below-middle k front m rest all.1

-- an action's own place
place-own : (front : List Member) (m : Member) (rest : List Member) → IsInNameOrder name_of (front ++ m ∷ rest) → place_in m.0 (front ++ m ∷ rest) ≡ Some (length front)
place-own [] m rest order = rw (bytes_eq-same m.0) refl
place-own (x ∷ front) m rest order =
    rw (bytes_eq-sym m.0 x.0 ∙ lesser_differs x.0 m.0 (below-middle x.0 front m rest order.0)) (ap (option_map suc) (place-own front m rest order.1))

place-below : (k : List ℕ) (ms : List Member) (q : ℕ) → place_in k ms ≡ Some q → q < length ms
place-below k [] q is = absurd (cc)
place-below k (m ∷ ms) q is = elim (bytes_eq k m.0) as (λ b. bytes_eq k m.0 ≡ b → q < length (m ∷ ms)) [
  | true ↦ λ same. let here : 0 ≡ q = some_one (rw same at is) in omega arith
  | false ↦ λ other. let later : option_map suc (place_in k ms) ≡ Some q = rw other at is in
      elim (place_in k ms) as (λ o. place_in k ms ≡ o → q < length (m ∷ ms)) [
        | None ↦ λ none. absurd (cc)
        | Some r ↦ λ found. let there : suc r ≡ q = some_one (sym (ap (option_map suc) found) ∙ later) in omega (arith, place-below k ms r found)
      ] refl
] refl

node-at : (graph front : List Member) (m : Member) (rest : List Member) → slice_get (nodes graph (front ++ m ∷ rest)) (length front) ≡ Some (places_of graph (entries_of m.1))
node-at graph [] m rest = refl
node-at graph (x ∷ front) m rest = node-at graph front m rest

nodes-length : (graph ms : List Member) → length (nodes graph ms) ≡ length ms
nodes-length graph [] = refl
nodes-length graph (m ∷ ms) = ap suc (nodes-length graph ms)

-- ---- depths

abbrev pub depth_at : List Member → Option ℕ → ℕ
depth_at graph None = 0
depth_at graph (Some a) = count_from 0 (length graph) (λ p. at (paths_in graph) a p)

-- how many actions of the graph lead to the one of a name
abbrev pub depth_of : List Member → List ℕ → ℕ
depth_of graph name = depth_at graph (place_in name graph)

abbrev pub PathsAreExact : Type 0
PathsAreExact = (nodes : List (List ℕ)) (a p : ℕ) → p < length nodes → (at (paths_of nodes) a p ≡ true) ↔ IsPath (edge_of nodes) p a

module _ (graph : List Member) where
  -- an entry names an action of the graph, and that has a lesser depth than the one that waits
  pub record Falls (own : List ℕ) (name : List ℕ) : Type 0 where
    pub place : ℕ
    pub named : place_in name graph ≡ Some place
    pub lesser : depth_of graph name < depth_of graph own

  -- no action on a cycle: at each place that a name has
  abbrev pub NoCycle : Type 0
  NoCycle = (q : ℕ) → q < length graph → at (paths_in graph) q q ≡ false

  -- so it is of each action from a place on
  abbrev pub AllFall : List Member → Type 0
  AllFall ms = AllByRecursion (λ m. AllByRecursion (λ e. Falls m.0 (name_of e)) (entries_of m.1)) ms

module _ (exact : PathsAreExact) (graph : List Member) where
  abbrev all_nodes : List (List ℕ)
  all_nodes = nodes graph graph

  -- what is waited for leads to fewer
  falls : (q a : ℕ) → q < length graph → edge_of all_nodes q a ≡ true → at (paths_in graph) q q ≡ false
      → depth_at graph (Some q) < depth_at graph (Some a)
  falls q a below edge alone =
      let size = nodes-length graph graph in
      count-less q 0 (length graph) (λ p. at (paths_in graph) q p) (λ p. at (paths_in graph) a p) q (omega arith) (omega arith)
      (λ p lt is. (exact all_nodes a p (omega (arith, size))).1 (IsPath.more ((exact all_nodes q p (omega (arith, size))).0 is) edge))
      alone
      ((exact all_nodes a q (omega (arith, size))).1 (IsPath.one edge))

  flagged-none : (b : Bool) (name : List ℕ) (rest : List (List ℕ)) → flagged b name ++ rest ≡ [] → b ≡ false
  flagged-none true name rest is = absurd (cc)
  flagged-none false name rest is = refl

  flagged-rest : (b : Bool) (name : List ℕ) (rest : List (List ℕ)) → flagged b name ++ rest ≡ [] → rest ≡ []
  flagged-rest true name rest is = absurd (cc)
  flagged-rest false name rest is = is

  or-first : (b c : Bool) → (b || c) ≡ false → b ≡ false
  or-first true c is = is
  or-first false c is = refl

  or-second : (b c : Bool) → (b || c) ≡ false → c ≡ false
  or-second true c is = absurd (cc)
  or-second false c is = is

  there : (o : Option ℕ) → is_none o ≡ false → (q : ℕ) × (o ≡ Some q)
  there None is = absurd (cc)
  there (Some q) is = (q, refl)

  first_named : (q : ℕ) (ps : List ℕ) → names_place (q ∷ ps) q ≡ true
  first_named q ps = rw (nat_eq-same q) refl

  later_named : (o : Option ℕ) (ps : List ℕ) (r : ℕ) → names_place ps r ≡ true → names_place (with_place o ps) r ≡ true
  later_named None ps r named = named
  later_named (Some p) ps r named = rw named (or-true (nat_eq r p))

  entries-fall : (none : NoCycle graph) (own : List ℕ) (a : ℕ) (own_place : place_in own graph ≡ Some a) (es : List Member)
      → ((q : ℕ) → names_place (places_of graph es) q ≡ true → edge_of all_nodes q a ≡ true)
      → list_any (is_bad_entry graph own) es ≡ false → AllByRecursion (λ e. Falls graph own (name_of e)) es
  entries-fall none own a own_place [] edges fine = tt
  entries-fall none own a own_place (e ∷ es) edges fine =
      let here = or-first (is_bad_entry graph own e) (list_any (is_bad_entry graph own) es) fine in
      let later = or-second (is_bad_entry graph own e) (list_any (is_bad_entry graph own) es) fine in
      let found = there (place_in e.0 graph) (or-first (is_none (place_in e.0 graph)) _ here) in
      let q : ℕ = found.0 in
      let is : place_in e.0 graph ≡ Some q = found.1 in
      let edge : edge_of all_nodes q a ≡ true = edges q (ap (λ (o : Option ℕ). names_place (with_place o (places_of graph es)) q) is ∙ first_named q (places_of graph es)) in
      let below = place-below e.0 graph q is in
      let less : depth_of graph e.0 < depth_of graph own = rw (is, own_place) (falls q a below edge (none q below)) in (
        record { place = q; named = is; lesser = less },
        entries-fall none own a own_place es (λ r named. edges r (later_named (place_in e.0 graph) (places_of graph es) r named)) later,
      )

  cycles-none : (i : ℕ) (ms : List Member) → offenders graph (paths_in graph) i ms ≡ [] → (q : ℕ) → i ≤ q → q < i + length ms → at (paths_in graph) q q ≡ false
  cycles-none i [] fine q from to = absurd (omega arith)
  cycles-none i (m ∷ ms) fine q from to =
      let here : (has_bad_entry graph m || at (paths_in graph) i i) ≡ false = flagged-none (offends graph (paths_in graph) i m) m.0 (offenders graph (paths_in graph) (suc i) ms) fine in
      let rest = flagged-rest (offends graph (paths_in graph) i m) m.0 (offenders graph (paths_in graph) (suc i) ms) fine in
      elim (nat_eq i q) as (λ b. nat_eq i q ≡ b → at (paths_in graph) q q ≡ false) [
        | true ↦ λ is. let same : i ≡ q = (Decides-eqb i q).0 is in
            subst (λ (r : ℕ). at (paths_in graph) r r ≡ false) same (or-second (has_bad_entry graph m) (at (paths_in graph) i i) here)
        | false ↦ λ other. cycles-none (suc i) ms rest q (let differ : (i ≡ q → ⊥) = λ is. absurd (cc (sym other, (Decides-eqb i q).1 is)) in omega arith) (omega arith)
      ] refl

  actions-fall : (none : NoCycle graph) (order : IsInNameOrder name_of graph) (front ms : List Member) → front ++ ms ≡ graph
      → offenders graph (paths_in graph) (length front) ms ≡ [] → AllFall graph ms
  actions-fall none order front [] whole fine = tt
  actions-fall none order front (m ∷ ms) whole fine =
      let here : (has_bad_entry graph m || at (paths_in graph) (length front) (length front)) ≡ false =
      flagged-none (offends graph (paths_in graph) (length front) m) m.0 (offenders graph (paths_in graph) (suc (length front)) ms) fine in
      let rest = flagged-rest (offends graph (paths_in graph) (length front) m) m.0 (offenders graph (paths_in graph) (suc (length front)) ms) fine in
      let own_place : place_in m.0 graph ≡ Some (length front) = subst (λ (g : List Member). place_in m.0 g ≡ Some (length front)) whole (place-own front m ms (rw whole order)) in
      let node : slice_get all_nodes (length front) ≡ Some (places_of graph (entries_of m.1)) =
      subst (λ (g : List Member). slice_get (nodes graph g) (length front) ≡ Some (places_of graph (entries_of m.1))) whole (node-at graph front m ms) in
      let longer : length (front ++ m ∷ []) ≡ suc (length front) = omega (arith, length-append front (m ∷ [])) in (
        entries-fall none m.0 (length front) own_place (entries_of m.1) (λ q named. rw node named) (or-first (has_bad_entry graph m) _ here),
        actions-fall none order (front ++ m ∷ []) ms (append_assoc front (m ∷ []) ms ∙ whole) (rw longer rest),
      )

  -- where no action offends
  pub all-fall : IsInNameOrder name_of graph → bad_run_after graph ≡ [] → AllFall graph graph
  all-fall order fine = actions-fall (λ q below. cycles-none 0 graph fine q (omega arith) (omega arith)) order [] graph refl fine
