-- The rows of a record are those of the table, each once and in ascending order.
use Rattle.std.proofs.Common.{◌≡◌, ℕ, zero, suc, ◌<◌, true, List, [], ◌∷◌, ◌++◌, map, length, Option, Some, None, inl, refl, sym, ap, ◌∙◌}
use Rattle.std.proofs.Common.{subst, arith, append_assoc}
use Rattle.std.specs.Prelude.{flat_map, filter_map, option_map}
use Rattle.std.specs.List.{AllByRecursion, cons_option}
use Rattle.std.specs.Cmp.{nat_cmp_is}
use Rattle.std.specs.Cmp.Lexicographic.{slice_cmp}
use Rattle.std.specs.Ordering.{nat_cmp, ordering_then}
use Rattle.std.specs.declared.cmp.Ordering.{Ordering}
use Rattle.std.specs.declared.cmp.Ordering.TheVariants.{Less, Equal}
use Rattle.std.proofs.lemmas.Option.{none-some}
use Rattle.std.proofs.lemmas.Grind.{flat_map-append}
use Rattle.wf_lists.specs.KeyOrder.{IsInKeyOrder}
use Rattle.wf_layers.specs.Address.{Address, Table, address}
use Rattle.wf_layers.specs.Definition.{has}
use Rattle.wf_layers.specs.Listed.{Among}
use Rattle.wf_layers.specs.Record.{key}
use Rattle.wf_seen_laws.specs.DefTree.{DefTree}
use Rattle.wf_seen_laws.specs.Names.{graph_names}
use Rattle.wf_seen_laws.specs.Loops.{loops_of}
use Rattle.wf_record.specs.Record.{Row, RowTree}
use Rattle.wf_instance.specs.Look.{instance}
use Rattle.wf_instance.specs.Points.{Point, graph_of, point_of_outputs}
use Rattle.wf_instance.specs.Record.{row_at}
use Rattle.wf_instance.specs.References.{upto}
use Rattle.wf_instance.specs.Rows.{turns_at}
use Rattle.wf_instance.specs.MeantVariables.{indexes_from, instances_at, seen_by}
use Rattle.wf_seen_laws.proofs.RoundLemmas.{none_split}
use Rattle.wf_meant_laws.specs.Listed.{Entry, StandFor, told_as}
use Rattle.wf_meant_laws.specs.Tables.{AreWhole}
use Rattle.wf_meant_laws.proofs.ListLemmas.{all_among, all_flat, all_given, all_joined, all_mapped, in_filter_map, in_flat, in_map, in_upto}
use Rattle.wf_meant_laws.proofs.PointLemmas.{Seeing, append_none, listed}
use Rattle.wf_meant_laws.proofs.WholeLemmas.{full_of}

-- ---- lists that are joined are in order where each item of the one is below each of the other

module _ {K X : Type 0} (cmp : K → K → Ordering) (at : X → K) where
  abbrev Below : X → X → Type 0
  Below x y = cmp (at x) (at y) ≡ Less

  order_joined : (xs ys : List X) → IsInKeyOrder cmp at xs → IsInKeyOrder cmp at ys → AllByRecursion (λ x. AllByRecursion (Below x) ys) xs
      → IsInKeyOrder cmp at (xs ++ ys)
  order_joined [] ys one other below = other
  order_joined (x ∷ xs) ys one other below =
      (all_joined (Below x) xs ys one.0 below.0, order_joined xs ys one.1 other below.1)

  all_weaker : (P Q : X → Type 0) (xs : List X) → ((x : X) → P x → Q x) → AllByRecursion P xs → AllByRecursion Q xs
  all_weaker P Q [] h all = tt
  all_weaker P Q (x ∷ xs) h all = (h x all.0, all_weaker P Q xs h all.1)

  -- lists for the numbers below n, each in order, and each below the next ones
  module _ (f : ℕ → List X) (At : ℕ → X → Type 0) (each : (k : ℕ) → IsInKeyOrder cmp at (f k)) (all : (k : ℕ) → AllByRecursion (At k) (f k))
      (less : (j k : ℕ) (x y : X) → j < k → At j x → At k y → Below x y) where
    abbrev Early : ℕ → X → Type 0
    Early n x = (k : ℕ) × (k < n) × At k x

    one_more : (n : ℕ) → flat_map f (upto (suc n)) ≡ flat_map f (upto n) ++ f n
    one_more n = flat_map-append f (upto n) (n ∷ []) ∙ ap (λ (ys : List X). flat_map f (upto n) ++ ys) (none (f n))
      where
        none : (ys : List X) → ys ++ [] ≡ ys
        none [] = refl
        none (y ∷ ys) = ap (λ (zs : List X). y ∷ zs) (none ys)

    all_early : (n : ℕ) → AllByRecursion (Early n) (flat_map f (upto n))
    all_early zero = tt
    all_early (suc n) =
        subst (AllByRecursion (Early (suc n))) (sym (one_more n))
        (all_joined (Early (suc n)) (flat_map f (upto n)) (f n)
        (all_weaker (Early n) (Early (suc n)) (flat_map f (upto n)) (λ x h. (h.0, omega (arith, h.1), h.2)) (all_early n))
        (all_weaker (At n) (Early (suc n)) (f n) (λ x h. (n, omega arith, h)) (all n)))

    order_upto : (n : ℕ) → IsInKeyOrder cmp at (flat_map f (upto n))
    order_upto zero = tt
    order_upto (suc n) =
        subst (IsInKeyOrder cmp at) (sym (one_more n))
        (order_joined (flat_map f (upto n)) (f n) (order_upto n) (each n)
        (all_weaker (Early n) (λ x. AllByRecursion (Below x) (f n)) (flat_map f (upto n))
        (λ x h. all_weaker (At n) (Below x) (f n) (λ y g. less h.0 n x y h.1 h.2 g) (all n)) (all_early n)))

-- ---- the indexes of an action's instances

same_first : (a : ℕ) (xs ys : List ℕ) → slice_cmp nat_cmp (a ∷ xs) (a ∷ ys) ≡ slice_cmp nat_cmp xs ys
same_first a xs ys = ap (λ (o : Ordering). ordering_then o (slice_cmp nat_cmp xs ys)) (sym (nat_cmp_is a a Equal refl))

less_first : (a b : ℕ) (xs ys : List ℕ) → a < b → slice_cmp nat_cmp (a ∷ xs) (b ∷ ys) ≡ Less
less_first a b xs ys lt = ap (λ (o : Ordering). ordering_then o (slice_cmp nat_cmp xs ys)) (sym (nat_cmp_is a b Less lt))

less_behind : (at : List ℕ) (j k : ℕ) (xs ys : List ℕ) → j < k → slice_cmp nat_cmp (at ++ j ∷ xs) (at ++ k ∷ ys) ≡ Less
less_behind [] j k xs ys lt = less_first j k xs ys lt
less_behind (a ∷ at) j k xs ys lt = same_first a (at ++ j ∷ xs) (at ++ k ∷ ys) ∙ less_behind at j k xs ys lt

module _ (d : DefTree) (known : Table Row) where
  abbrev Begins : List ℕ → List ℕ → Type 0
  Begins at xs = (more : List ℕ) × (xs ≡ at ++ more)

  all_begin : (ls at : List ℕ) → AllByRecursion (Begins at) (indexes_from d known ls at [] [])
  all_begin [] at = (([], sym (append_none at)), tt)
  all_begin (l ∷ ls) at =
      all_flat (Begins at) (λ (k : ℕ). indexes_from d known ls (at ++ k ∷ []) [] []) (upto (turns_at d known l at))
      (each (upto (turns_at d known l at)) (λ k. all_begin ls (at ++ k ∷ [])))
    where
      outer : (k : ℕ) (xss : List (List ℕ)) → AllByRecursion (Begins (at ++ k ∷ [])) xss → AllByRecursion (Begins at) xss
      outer k [] all = tt
      outer k (xs ∷ xss) all = ((k ∷ all.0.0, all.0.1 ∙ append_assoc at (k ∷ []) all.0.0), outer k xss all.1)

      each : (ks : List ℕ) → ((k : ℕ) → AllByRecursion (Begins (at ++ k ∷ [])) (indexes_from d known ls (at ++ k ∷ []) [] []))
          → AllByRecursion (λ (k : ℕ). AllByRecursion (Begins at) (indexes_from d known ls (at ++ k ∷ []) [] [])) ks
      each [] h = tt
      each (k ∷ ks) h = (outer k (indexes_from d known ls (at ++ k ∷ []) [] []) (h k), each ks h)

  indexes_ascend : (ls at : List ℕ) → IsInKeyOrder (slice_cmp nat_cmp) (λ (xs : List ℕ). xs) (indexes_from d known ls at [] [])
  indexes_ascend [] at = (tt, tt)
  indexes_ascend (l ∷ ls) at =
      order_upto (slice_cmp nat_cmp) (λ (xs : List ℕ). xs) (λ (k : ℕ). indexes_from d known ls (at ++ k ∷ []) [] [])
      (λ k xs. Begins (at ++ k ∷ []) xs) (λ k. indexes_ascend ls (at ++ k ∷ [])) (λ k. all_begin ls (at ++ k ∷ []))
      (λ j k xs ys lt one other. below j k xs ys lt one.0 other.0 one.1 other.1) (turns_at d known l at)
    where
      below : (j k : ℕ) (xs ys : List ℕ) → j < k → (us vs : List ℕ) → xs ≡ (at ++ j ∷ []) ++ us → ys ≡ (at ++ k ∷ []) ++ vs
          → slice_cmp nat_cmp xs ys ≡ Less
      below j k xs ys lt us vs one other =
          ap (λ (zs : List ℕ). slice_cmp nat_cmp zs ys) (one ∙ append_assoc at (j ∷ []) us)
          ∙ (ap (λ (zs : List ℕ). slice_cmp nat_cmp (at ++ j ∷ us) zs) (other ∙ append_assoc at (k ∷ []) vs)
          ∙ less_behind at j k us vs lt)

-- ---- rows at their addresses

abbrev entry_of : Address → Row → Entry
entry_of x row = (x, row)

abbrev entry_at : Table Row → Address → Option Entry
entry_at rows x = option_map (λ (row : Row). entry_of x row) (rows x)

record IsOwn (rows : Table Row) (x : Address) (entry : Entry) : Type 0 where
  pub at : entry.0 ≡ x
  pub there : rows entry.0 ≡ Some entry.1

own_entry : (rows : Table Row) (x : Address) (o : Option Row) (entry : Entry) → rows x ≡ o
    → option_map (λ (row : Row). entry_of x row) o ≡ Some entry → IsOwn rows x entry
own_entry rows x None entry is e = absurd (none-some entry e)
own_entry rows x (Some row) entry is e =
    let same : entry_of x row ≡ entry = cc (e) in
    subst (λ (q : Entry). IsOwn rows x q) same (record { at = refl; there = is })

module _ (d : DefTree) (rows : Table Row) where
  abbrev row_told : Address → Row → RowTree
  row_told x row = record { address = instance d x; row = row }

  abbrev p : Point
  p = point_of_outputs d

  abbrev entries_of : ℕ → List Entry
  entries_of n = filter_map (entry_at rows) (instances_at d (point_of_outputs d) rows n)

  abbrev count : ℕ
  count = length (graph_names d.top)

  abbrev entries : List Entry
  entries = flat_map entries_of (upto count)

  -- they are told as rows
  told_mapped : (xs : List Address) → filter_map (row_at d rows) xs ≡ map (told_as d) (filter_map (entry_at rows) xs)
  told_mapped [] = refl
  told_mapped (x ∷ xs) = told_one (rows x) ∙ ap (λ (rs : List RowTree). cons_told (entry_at rows x) rs) (told_mapped xs)
      ∙ sym (mapped (entry_at rows x) (filter_map (entry_at rows) xs))
    where
      cons_told : Option Entry → List RowTree → List RowTree
      cons_told o rs = cons_option (option_map (told_as d) o) rs

      told_one : (o : Option Row) → cons_option (option_map (λ (row : Row). row_told x row) o)
          (filter_map (row_at d rows) xs)
          ≡ cons_told (option_map (λ (row : Row). entry_of x row) o) (filter_map (row_at d rows) xs)
      told_one None = refl
      told_one (Some row) = refl

      mapped : (o : Option Entry) (es : List Entry) → map (told_as d) (cons_option o es) ≡ cons_told o (map (told_as d) es)
      mapped None es = refl
      mapped (Some e) es = refl

  map_joined : (xs ys : List Entry) → map (told_as d) (xs ++ ys) ≡ map (told_as d) xs ++ map (told_as d) ys
  map_joined [] ys = refl
  map_joined (x ∷ xs) ys = ap (λ (rs : List RowTree). told_as d x ∷ rs) (map_joined xs ys)

  told_all : (ns : List ℕ) → flat_map (λ (n : ℕ). filter_map (row_at d rows) (instances_at d (point_of_outputs d) rows n)) ns
      ≡ map (told_as d) (flat_map entries_of ns)
  told_all [] = refl
  told_all (n ∷ ns) =
      ap (λ (rs : List RowTree). rs ++ flat_map (λ (n : ℕ). filter_map (row_at d rows) (instances_at d (point_of_outputs d) rows n)) ns)
      (told_mapped (instances_at d (point_of_outputs d) rows n))
      ∙ (ap (λ (rs : List RowTree). map (told_as d) (entries_of n) ++ rs) (told_all ns)
      ∙ sym (map_joined (entries_of n) (flat_map entries_of ns)))

  -- each is an instance of its action, and in the table
  abbrev Own : ℕ → Entry → Type 0
  Own n entry = (entry.0.name ≡ n) × (rows entry.0 ≡ Some entry.1)

  all_own : (n : ℕ) → AllByRecursion (Own n) (entries_of n)
  all_own n =
      all_given (λ (x : Address). x.name ≡ n) (Own n) (entry_at rows) (instances_at d (point_of_outputs d) rows n)
      (λ x entry name is. let own = own_entry rows x (rows x) entry refl is in (ap (λ (y : Address). y.name) own.at ∙ name, own.there))
      (all_mapped (λ (x : Address). x.name ≡ n) (address n)
      (indexes_from d (seen_by (point_of_outputs d) rows) (loops_of (graph_of d) n) [] [] []) (λ at. refl))

  all_there : (ns : List ℕ) → AllByRecursion (λ (n : ℕ). AllByRecursion (λ (entry : Entry). rows entry.0 ≡ Some entry.1) (entries_of n)) ns
  all_there [] = tt
  all_there (n ∷ ns) = (second (entries_of n) (all_own n), all_there ns)
    where
      second : (es : List Entry) → AllByRecursion (Own n) es → AllByRecursion (λ (entry : Entry). rows entry.0 ≡ Some entry.1) es
      second [] all = tt
      second (e ∷ es) all = (all.0.1, second es all.1)

  -- in order
  own_below : (n : ℕ) (xs : List ℕ) (xss : List (List ℕ)) → AllByRecursion (λ (ys : List ℕ). slice_cmp nat_cmp xs ys ≡ Less) xss
      → AllByRecursion (λ (entry : Entry). slice_cmp nat_cmp (key (address n xs)) (key entry.0) ≡ Less)
      (filter_map (entry_at rows) (map (address n) xss))
  own_below n xs [] all = tt
  own_below n xs (ys ∷ xss) all = below_by (rows (address n ys)) (own_below n xs xss all.1)
    where
      below_by : (o : Option Row)
          → AllByRecursion (λ (entry : Entry). slice_cmp nat_cmp (key (address n xs)) (key entry.0) ≡ Less)
          (filter_map (entry_at rows) (map (address n) xss))
          → AllByRecursion (λ (entry : Entry). slice_cmp nat_cmp (key (address n xs)) (key entry.0) ≡ Less)
          (cons_option (option_map (λ (row : Row). entry_of (address n ys) row) o) (filter_map (entry_at rows) (map (address n) xss)))
      below_by None rest = rest
      below_by (Some r) rest = (same_first n xs ys ∙ all.0, rest)

  own_ascend : (n : ℕ) (xss : List (List ℕ)) → IsInKeyOrder (slice_cmp nat_cmp) (λ (xs : List ℕ). xs) xss
      → IsInKeyOrder (slice_cmp nat_cmp) (λ (entry : Entry). key entry.0) (filter_map (entry_at rows) (map (address n) xss))
  own_ascend n [] order = tt
  own_ascend n (xs ∷ xss) order = ascend_by (rows (address n xs)) (own_ascend n xss order.1)
    where
      ascend_by : (o : Option Row)
          → IsInKeyOrder (slice_cmp nat_cmp) (λ (entry : Entry). key entry.0) (filter_map (entry_at rows) (map (address n) xss))
          → IsInKeyOrder (slice_cmp nat_cmp) (λ (entry : Entry). key entry.0)
          (cons_option (option_map (λ (row : Row). entry_of (address n xs) row) o) (filter_map (entry_at rows) (map (address n) xss)))
      ascend_by None rest = rest
      ascend_by (Some r) rest = (own_below n xs xss order.0, rest)

  names_ascend : (j k : ℕ) (x y : Entry) → j < k → Own j x → Own k y → slice_cmp nat_cmp (key x.0) (key y.0) ≡ Less
  names_ascend j k x y lt one other = less_first x.0.name y.0.name x.0.at y.0.at (omega (arith, lt, one.0, other.0))

  entries_ascend : IsInKeyOrder (slice_cmp nat_cmp) (λ (entry : Entry). key entry.0) entries
  entries_ascend =
      order_upto (slice_cmp nat_cmp) (λ (entry : Entry). key entry.0) entries_of Own
      (λ n. own_ascend n (indexes_from d (seen_by (point_of_outputs d) rows) (loops_of (graph_of d) n) [] [] [])
      (indexes_ascend d (seen_by (point_of_outputs d) rows) (loops_of (graph_of d) n) []))
      all_own names_ascend count

  -- each row of the table is among them
  all_seen : Seeing d (point_of_outputs d) (λ x. Unit {0})
  all_seen = record {
    told = λ x s. refl;
    only = λ x s. tt;
    round = λ x l outer at turn of s. inl tt;
    apart = λ l outer at turn stands s. none_split outer l stands.inner stands.loops;
  }

  entry_listed : AreWhole d rows → ((m : ℕ) → has (graph_of d) m ≡ true → m < length (graph_names d.top)) → (x : Address) (row : Row)
      → rows x ≡ Some row → Among entries (x, row)
  entry_listed whole below x row there =
      in_flat entries_of (upto count) x.name (x, row) (in_upto count x.name (below x.name (whole.instances x row there).0))
      (in_filter_map (entry_at rows) (instances_at d (point_of_outputs d) rows x.name) x (x, row)
      (in_map (address x.name) (indexes_from d (seen_by (point_of_outputs d) rows) (loops_of (graph_of d) x.name) [] [] []) x.at
      (listed d (point_of_outputs d) (λ y. Unit {0}) all_seen rows x tt (λ l outer at turn of. whole.loops x row there l outer at turn of)
      (full_of d rows whole.instances x row there)))
      (ap (λ (o : Option Row). option_map (λ (r : Row). entry_of x r) o) there))

  -- THE LAW
  pub stand_for : AreWhole d rows → ((m : ℕ) → has (graph_of d) m ≡ true → m < length (graph_names d.top)) → StandFor d rows
  stand_for whole below = record {
    entries = entries;
    told = told_all (upto count);
    all = record {
      each = λ entry among. all_among (λ (entry : Entry). rows entry.0 ≡ Some entry.1) entries entry
          (all_flat (λ (entry : Entry). rows entry.0 ≡ Some entry.1) entries_of (upto count) (all_there (upto count))) among;
      all = λ x row there. ((x, row), entry_listed whole below x row there, refl);
    };
    ordered = entries_ascend;
  }
