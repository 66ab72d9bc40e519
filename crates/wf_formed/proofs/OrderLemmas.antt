-- The rows of a record stand in the order of their addresses, where those of the table stand in the order of the actions' numbers.
use Rattle.std.proofs.Common.{◌≡◌, ℕ, ◌+◌, ◌<◌, ◌≤◌, ◌^◌, Bool, true, false, cond, List, [], ◌∷◌, map, Some, Option, is_lt}
use Rattle.std.proofs.Common.{nat_eq, nat_lt}
use Rattle.std.proofs.Common.{Ordering, Less, Equal, Greater, inl, inr, refl, sym, ap, ◌∙◌, subst, arith, true≢false}
use Rattle.std.proofs.lemmas.Bool.{eqb-false, eqb-true, ltb-false, ltb-true}
use Rattle.std.proofs.lemmas.Cmp.{nat_list_cmp_total, tied_itself}
use Rattle.std.proofs.lemmas.List.Sums.{sum_by-cons}
use Rattle.std.proofs.lemmas.Map.Lookups.{exact_bytes}
use Rattle.std.specs.Cmp.{nat_cmp_is}
use Rattle.std.specs.Cmp.Lexicographic.{slice_cmp}
use Rattle.std.specs.List.{AllByRecursion, count_by, find, list_any}
use Rattle.std.specs.Ordering.{nat_cmp, ordering_reverse, ordering_then}
use Rattle.wf_lists.specs.KeyOrder.{IsInKeyOrder}
use Rattle.wf_asked.specs.Asked.{is_name}
use Rattle.wf_val.specs.Address.{address_cmp}
use Rattle.wf_val.specs.NameOrder.{bytes_cmp}
use Rattle.wf_val.specs.ValueTree.{text}
use Rattle.wf_layers.specs.Address.{Table}
use Rattle.wf_layers.specs.Definition.{has}
use Rattle.wf_layers.specs.Listed.{Among}
use Rattle.wf_layers.specs.Record.{key}
use Rattle.wf_layers.proofs.Basics.{two, when, unless}
use Rattle.wf_def.specs.ActionTree.{ActionTree, ActionTrees, action_name, action_number}
use Rattle.wf_def.specs.AllActions.{all_actions, has_number, numbered}
use Rattle.wf_def.specs.DefTree.{DefTree}
use Rattle.wf_def.specs.Names.{graph_names}
use Rattle.wf_reading.specs.Facts.{AreNumbered, graph_numbers}
use Rattle.wf_reading.specs.Numbers.{is_below}
use Rattle.wf_record.specs.Record.{Row, RowTree, address_of}
use Rattle.wf_record_form.specs.Fitting.{IsFittingRow}
use Rattle.wf_refs.proofs.NumberLemmas.{names_are, numbers_are}
use Rattle.wf_pinned.specs.Look.{instance, name_in, name_of}
use Rattle.wf_pinned.specs.Points.{graph_of}
use Rattle.wf_pinned.specs.Record.{rows_of}
use Rattle.wf_pinned.specs.Listed.{Entry, StandFor, told_as}
use Rattle.wf_pinned.specs.Tables.{StandAtInstances}
use Rattle.wf_pinned.proofs.RangeLemmas.{some_found}
use Rattle.wf_formed.specs.Formed.{IsFormedRow}
use Rattle.wf_formed.proofs.MeaningLemmas.{OfRow, OfTable}

-- ---- of two names as many are below the lesser at most

below : (o : Ordering) → is_lt o ≡ true → o ≡ Less
below Less is = refl
below Equal is = absurd (cc)
below Greater is = absurd (cc)

below_up : (k l n : List ℕ) → bytes_cmp k l ≡ Less → is_below k n ≡ true → is_below l n ≡ true
below_up k l n less is = ap is_lt (nat_list_cmp_total.trans n k l (below (bytes_cmp n k) is) less)

le_up : (b c : Bool) → (b ≡ true → c ≡ true) → cond b 1 0 ≤ cond c 1 0
le_up true true up = omega arith
le_up true false up = absurd (true≢false (sym (up refl)))
le_up false true up = omega arith
le_up false false up = omega arith

count_then : (k n : List ℕ) (ns : List (List ℕ)) → count_by (is_below k) (n ∷ ns) ≡ cond (is_below k n) 1 0 + count_by (is_below k) ns
count_then k n ns = sum_by-cons (λ x. cond (is_below k x) 1 0) n ns

count_le : (k l : List ℕ) (ns : List (List ℕ)) → bytes_cmp k l ≡ Less → count_by (is_below k) ns ≤ count_by (is_below l) ns
count_le k l [] less = omega arith
count_le k l (n ∷ ns) less =
    omega (arith, count_then k n ns, count_then l n ns, le_up (is_below k n) (is_below l n) (below_up k l n less), count_le k l ns less)

-- so of two names with as many below them the one with fewer is the lesser
module _ (ns : List (List ℕ)) (k l : List ℕ) (fewer : count_by (is_below k) ns < count_by (is_below l) ns) where
  lesser_at : (o : Ordering) → bytes_cmp k l ≡ o → bytes_cmp k l ≡ Less
  lesser_at Less is = is
  lesser_at Equal is =
      let same : k ≡ l = exact_bytes k l is in
      let counts : count_by (is_below k) ns ≡ count_by (is_below l) ns = ap (λ (n : List ℕ). count_by (is_below n) ns) same in
      absurd (omega (arith, counts, fewer))
  lesser_at Greater is =
      let other = count_le l k ns (nat_list_cmp_total.antisymm l k ∙ ap ordering_reverse is) in
      absurd (omega (arith, other, fewer))

  lesser : bytes_cmp k l ≡ Less
  lesser = lesser_at (bytes_cmp k l) refl

-- ---- each action's number is how many names are below its own

abbrev first_number : List ℕ → ℕ
first_number [] = 0
first_number (n ∷ ns) = n

abbrev other_numbers : List ℕ → List ℕ
other_numbers [] = []
other_numbers (n ∷ ns) = ns

module _ (ns : List (List ℕ)) where
  abbrev Counted : ActionTree → Type 0
  Counted a = action_number a ≡ count_by (is_below (action_name a)) ns

  counted : (as' : List ActionTree) → map action_number as' ≡ map (λ k. count_by (is_below k) ns) (map action_name as')
      → AllByRecursion Counted as'
  counted [] same = tt
  counted (a ∷ rest) same = (ap first_number same, counted rest (ap other_numbers same))

  found_counted : (n : ℕ) (as' : List ActionTree) (a : ActionTree) → AllByRecursion Counted as' → find (has_number n) as' ≡ Some a
      → n ≡ count_by (is_below (action_name a)) ns
  found_counted n [] a all is = absurd (cc)
  found_counted n (b ∷ rest) a all is = elim (two (has_number n b)) [
    | inl t ↦
        let it : Some b ≡ Some a = sym (when (has_number n b) (Some b) (find (has_number n) rest) t) ∙ is in
        let same : b ≡ a = cc (it) in
        eqb-true n (action_number b) t ∙ all.0 ∙ ap (λ (c : ActionTree). count_by (is_below (action_name c)) ns) same
    | inr f ↦ found_counted n rest a all.1 (sym (unless (has_number n b) (Some b) (find (has_number n) rest) f) ∙ is)
  ]

-- so the numbers of actions go as their names do
names_ascend : (g : ActionTrees) → AreNumbered g → (m n : ℕ) (a b : ActionTree) → numbered m g ≡ Some a → numbered n g ≡ Some b → m < n
    → bytes_cmp (action_name a) (action_name b) ≡ Less
names_ascend g are m n a b one other less =
    let ns = graph_names g in
    let all = counted ns (all_actions g) (numbers_are g ∙ are ∙ ap (map (λ k. count_by (is_below k) ns)) (sym (names_are g))) in
    let here = found_counted ns m (all_actions g) a all one in
    let there = found_counted ns n (all_actions g) b all other in
    lesser ns (action_name a) (action_name b) (omega (arith, here, there, less))

-- ---- what is known of a definition and of a table of its rows

pub record AreKnown (d : DefTree) (known : Table Row) : Type 0 where
  pub placed : AreNumbered d.top
  pub named : (n : ℕ) (a : ActionTree) → numbered n d.top ≡ Some a → is_name 80 (text (action_name a)) ≡ true
  pub had : (n : ℕ) → has (graph_of d) n ≡ list_any (nat_eq n) (graph_numbers d.top)
  pub stand : StandAtInstances d known
  pub listed : StandFor d known
  pub formed : OfTable (2 ^ 63) IsFormedRow known

all_from : {X Y : Type 0} (P : Y → Type 0) (f : X → Y) (xs : List X) → ((x : X) → Among xs x → P (f x)) → AllByRecursion P (map f xs)
all_from P f [] h = tt
all_from P f (x ∷ xs) h = (h x (inl refl), all_from P f xs (λ y i. h y (inr i)))

all_there : {X : Type 0} (P : X → Type 0) (xs : List X) → ((x : X) → Among xs x → P x) → AllByRecursion P xs
all_there P [] h = tt
all_there P (x ∷ xs) h = (h x (inl refl), all_there P xs (λ y i. h y (inr i)))

module _ (d : DefTree) (known : Table Row) (facts : AreKnown d known) where
  abbrev HasAction : Entry → Type 0
  HasAction entry = (a : ActionTree) × (numbered entry.0.name d.top ≡ Some a)

  has_action : (entry : Entry) → known entry.0 ≡ Some entry.1 → HasAction entry
  has_action entry there =
      some_found entry.0.name (all_actions d.top)
      (ap (list_any (nat_eq entry.0.name)) (numbers_are d.top)
      ∙ (sym (facts.had entry.0.name) ∙ (facts.stand entry.0 entry.1 there).0))

  name_is : (entry : Entry) → HasAction entry → is_name 80 (text (name_of d entry.0.name)) ≡ true
  name_is entry has' =
      subst (λ (o : Option ActionTree). is_name 80 (text (name_in o)) ≡ true) (sym has'.1) (facts.named entry.0.name has'.0 has'.1)

  fitting_row : (entry : Entry) → known entry.0 ≡ Some entry.1 → IsFittingRow (told_as d entry)
  fitting_row entry there =
      let formed = subst (OfRow (2 ^ 63) IsFormedRow entry.0) there (facts.formed entry.0) in
      record {
        at_in_range = formed.0;
        name = name_is entry (has_action entry there);
        inputs = formed.1.inputs;
        outputs = formed.1.outputs;
        error = formed.1.error;
        tracked = formed.1.tracked;
        few = formed.1.few;
        attempts = formed.1.attempts;
      }

  -- ---- in order

  names_go : (m n : ℕ) (a b : ActionTree) → numbered m d.top ≡ Some a → numbered n d.top ≡ Some b → m < n
      → bytes_cmp (name_of d m) (name_of d n) ≡ Less
  names_go m n a b one other less =
      ap (λ (o : Option ActionTree). bytes_cmp (name_in o) (name_of d n)) one
      ∙ (ap (λ (o : Option ActionTree). bytes_cmp (action_name a) (name_in o)) other
      ∙ names_ascend d.top facts.placed m n a b one other less)

  less_at : (x y : Entry) → HasAction x → HasAction y → (b c : Bool) → nat_lt x.0.name y.0.name ≡ b → nat_eq x.0.name y.0.name ≡ c
      → slice_cmp nat_cmp (key x.0) (key y.0) ≡ Less → address_cmp (instance d x.0) (instance d y.0) ≡ Less
  less_at x y has' other true c lt eq less =
      ap (λ (o : Ordering). ordering_then o (slice_cmp nat_cmp x.0.at y.0.at))
      (names_go x.0.name y.0.name has'.0 other.0 has'.1 other.1 (ltb-true x.0.name y.0.name lt))
  less_at x y has' other false true lt eq less =
      let same : x.0.name ≡ y.0.name = eqb-true x.0.name y.0.name eq in
      let tied : bytes_cmp (name_of d x.0.name) (name_of d y.0.name) ≡ Equal =
      ap (λ (n : ℕ). bytes_cmp (name_of d x.0.name) (name_of d n)) (sym same) ∙ tied_itself nat_list_cmp_total (name_of d x.0.name) in
      ap (λ (o : Ordering). ordering_then o (slice_cmp nat_cmp x.0.at y.0.at)) tied
      ∙ (ap (λ (o : Ordering). ordering_then o (slice_cmp nat_cmp x.0.at y.0.at)) (nat_cmp_is x.0.name y.0.name Equal same) ∙ less)
  less_at x y has' other false false lt eq less =
      let above : y.0.name < x.0.name = omega (arith, ltb-false x.0.name y.0.name lt, eqb-false x.0.name y.0.name eq) in
      let it : Greater ≡ Less =
      ap (λ (o : Ordering). ordering_then o (slice_cmp nat_cmp x.0.at y.0.at)) (nat_cmp_is x.0.name y.0.name Greater above) ∙ less in
      absurd (cc (it))

  all_less : (x : Entry) (ys : List Entry) → HasAction x → AllByRecursion HasAction ys
      → AllByRecursion (λ (y : Entry). slice_cmp nat_cmp (key x.0) (key y.0) ≡ Less) ys
      → AllByRecursion (λ (r : RowTree). address_cmp (instance d x.0) (address_of r) ≡ Less) (map (told_as d) ys)
  all_less x [] has' all less = tt
  all_less x (y ∷ ys) has' all less =
      (less_at x y has' all.0 (nat_lt x.0.name y.0.name) (nat_eq x.0.name y.0.name) refl refl less.0, all_less x ys has' all.1 less.1)

  ascend : (xs : List Entry) → AllByRecursion HasAction xs → IsInKeyOrder (slice_cmp nat_cmp) (λ (x : Entry). key x.0) xs
      → IsInKeyOrder address_cmp address_of (map (told_as d) xs)
  ascend [] all order = tt
  ascend (x ∷ xs) all order = (all_less x xs all.0 all.1 order.0, ascend xs all.1 order.1)

  -- THE LAW
  pub rows_fit : AllByRecursion IsFittingRow (rows_of d known)
  rows_fit =
      subst (AllByRecursion IsFittingRow) (sym facts.listed.told)
      (all_from IsFittingRow (told_as d) facts.listed.entries (λ entry i. fitting_row entry (facts.listed.all.each entry i)))

  pub rows_ascend : IsInKeyOrder address_cmp address_of (rows_of d known)
  rows_ascend =
      subst (IsInKeyOrder address_cmp address_of) (sym facts.listed.told)
      (ascend facts.listed.entries
      (all_there HasAction facts.listed.entries (λ entry i. has_action entry (facts.listed.all.each entry i))) facts.listed.ordered)
