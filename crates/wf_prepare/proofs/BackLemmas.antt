-- The rows of the record that a definition means stand for the table again; and no address fails that the record may name.
use Rattle.std.proofs.Common.{◌≡◌, ℕ, true, false, List, [], ◌∷◌, map, Option, Some, None, option_map, is_some, Ordering, Less, Equal}
use Rattle.std.proofs.Common.{Greater, is_eq, inl, inr, refl, sym, ap, ap₂, ◌∙◌, subst, true≢false}
use Rattle.std.proofs.lemmas.Option.{none-some}
use Rattle.wf_layers.specs.Address.{Address, Table, address}
use Rattle.wf_layers.specs.Definition.{has}
use Rattle.wf_layers.specs.Listed.{Among}
use Rattle.wf_layers.proofs.Basics.{two, unless, when}
use Rattle.std.proofs.lemmas.Cmp.{tied_itself}
use Rattle.wf_val.specs.Address.{address_cmp, address_total}
use Rattle.wf_val.specs.declared.address.Address as named
use Rattle.wf_def.specs.ActionTree.{ActionTree, action_name, action_number}
use Rattle.wf_def.specs.AllActions.{numbered}
use Rattle.wf_def.specs.DefTree.{DefTree}
use Rattle.wf_record.specs.Record.{Row, RowTree, find_row}
use Rattle.wf_shaped.specs.Look.{instance, name_in}
use Rattle.wf_shaped.specs.Points.{action_named, graph_of}
use Rattle.wf_shaped.specs.Record.{rows_of}
use Rattle.wf_shaped.specs.Resubmitted.{rows_by}
use Rattle.wf_meant_laws.specs.Listed.{Entry, StandFor, told_as}
use Rattle.wf_shaped.specs.Says.{is_skipped}
use Rattle.wf_shape.specs.Standing.{fails}
use Rattle.wf_shaped.specs.Reading.{reading}
use Rattle.wf_shaped.specs.Fits.{fits_in}
use Rattle.wf_shaped.specs.Failing.{IsLeastFailing}
use Rattle.wf_shaped.specs.Told.{fails_by}
use Rattle.wf_shaped.proofs.ExactLemmas.{AreKnown}
use Rattle.wf_shaped.proofs.ListLemmas.{In}
use Rattle.wf_prepare.proofs.FailingLemmas.{named_is, no_action, of_number, same_some}
use Rattle.wf_prepare.proofs.RefusedLemmas.{exact_address}

equal_is : (o : Ordering) → is_eq o ≡ true → o ≡ Equal
equal_is Less is = absurd (true≢false (sym is))
equal_is Equal is = refl
equal_is Greater is = absurd (true≢false (sym is))

-- what is found is there, and has the address
record FoundRow (y : named.Address) (rows : List RowTree) (r : RowTree) : Type 0 where
  among : In r rows
  at : r.address ≡ y

found_row : (y : named.Address) (rows : List RowTree) (r : RowTree) → find_row y rows ≡ Some r → FoundRow y rows r
found_row y [] r is = absurd (none-some r is)
found_row y (q ∷ rows) r is = elim (two (is_eq (address_cmp y q.address))) [
  | inl t ↦
      let same : q ≡ r = same_some q r (sym (when (is_eq (address_cmp y q.address)) (Some q) (find_row y rows) t) ∙ is) in record {
        among = inl same;
        at =
            ap (λ (p : RowTree). p.address) (sym same)
            ∙ sym (exact_address y q.address (equal_is (address_cmp y q.address) t));
      }
  | inr f ↦
      let more = found_row y rows r (sym (unless (is_eq (address_cmp y q.address)) (Some q) (find_row y rows) f) ∙ is) in
      record { among = inr more.among; at = more.at }
]

-- what is there is found
same_cmp : (y : named.Address) → is_eq (address_cmp y y) ≡ true
same_cmp y = ap is_eq (tied_itself address_total y)

some_row : (y : named.Address) (rows : List RowTree) (r : RowTree) → In r rows → r.address ≡ y → find_row y rows ≡ None → ⊥
some_row y [] r h at none = h
some_row y (q ∷ rows) r (inl here) at none =
    none-some q (sym none ∙ when (is_eq (address_cmp y q.address)) (Some q) (find_row y rows)
    (ap (λ (a : named.Address). is_eq (address_cmp y a)) (ap (λ (p : RowTree). p.address) here ∙ at) ∙ same_cmp y))
some_row y (q ∷ rows) r (inr later) at none = elim (two (is_eq (address_cmp y q.address))) [
  | inl t ↦ none-some q (sym none ∙ when (is_eq (address_cmp y q.address)) (Some q) (find_row y rows) t)
  | inr f ↦ some_row y rows r later at (sym (unless (is_eq (address_cmp y q.address)) (Some q) (find_row y rows) f) ∙ none)
]

-- ---- entries and what they are told as

record OfEntry (d : DefTree) (es : List Entry) (r : RowTree) : Type 0 where
  entry : Entry
  among : Among es entry
  is : told_as d entry ≡ r

of_entry : (d : DefTree) (es : List Entry) (r : RowTree) → In r (map (told_as d) es) → OfEntry d es r
of_entry d [] r h = absurd h
of_entry d (e ∷ es) r (inl here) = record { entry = e; among = inl refl; is = here }
of_entry d (e ∷ es) r (inr later) =
    let o = of_entry d es r later in record { entry = o.entry; among = inr o.among; is = o.is }

entry_told : (d : DefTree) (es : List Entry) (e : Entry) → Among es e → In (told_as d e) (map (told_as d) es)
entry_told d [] e h = absurd h
entry_told d (q ∷ es) e (inl here) = inl (ap (told_as d) here)
entry_told d (q ∷ es) e (inr later) = inr (entry_told d es e later)

module _ (d : DefTree) (known : AreKnown d) (unnamed : action_named d [] ≡ None) (t : Table Row)
    (within : (x : Address) (row : Row) → t x ≡ Some row → has (graph_of d) x.name ≡ true) (stand : StandFor d t) where
  abbrev rows : List RowTree
  rows = rows_of d t

  -- a row stands at an instance of an action
  record Stands (x : Address) : Type 0 where
    a : ActionTree
    is : numbered x.name d.top ≡ Some a

  stands : (x : Address) (row : Row) → t x ≡ Some row → Stands x
  stands x row there = at (numbered x.name d.top) refl
    where
      at : (o : Option ActionTree) → numbered x.name d.top ≡ o → Stands x
      at None none = absurd (true≢false (sym (within x row there) ∙ no_action d known x.name none))
      at (Some a) some = record { a = a; is = some }

  -- a row that is found is one of the table
  record FoundEntry (y : named.Address) (r : RowTree) : Type 0 where
    x : Address
    there : t x ≡ Some r.row
    at : instance d x ≡ y

  found_entry : (y : named.Address) (r : RowTree) → find_row y rows ≡ Some r → FoundEntry y r
  found_entry y r is =
      let f : FoundRow y rows r = found_row y rows r is in
      let o : OfEntry d stand.entries r = of_entry d stand.entries r (subst (λ (rs : List RowTree). In r rs) stand.told f.among) in record {
        x = o.entry.0;
        there = stand.all.each o.entry o.among ∙ ap (λ (q : RowTree). Some q.row) o.is;
        at = ap (λ (q : RowTree). q.address) o.is ∙ f.at;
      }

  -- instances of actions are told apart by their names
  one_instance : (x z : Address) (a b : ActionTree) → numbered x.name d.top ≡ Some a → numbered z.name d.top ≡ Some b
      → instance d x ≡ instance d z → x ≡ z
  one_instance x z a b is other same =
      let name : action_name a ≡ action_name b =
      ap name_in (sym is) ∙ (ap (λ (y : named.Address). y.name) same ∙ ap name_in other) in
      let action : a ≡ b =
      same_some a b
      (sym (named_is d known a (of_number d known x.name a is).0)
      ∙ (ap (action_named d) name ∙ named_is d known b (of_number d known z.name b other).0)) in
      ap₂ (λ (n : ℕ) (i : List ℕ). address n i)
      (sym (of_number d known x.name a is).1 ∙ (ap action_number action ∙ (of_number d known z.name b other).1))
      (ap (λ (y : named.Address). y.at) same)

  row_back : (x : Address) (o : Option RowTree) → find_row (instance d x) rows ≡ o → option_map (λ (r : RowTree). r.row) o ≡ t x
  row_back x None none = at (t x) refl
    where
      at : (o : Option Row) → t x ≡ o → None ≡ t x
      at None is = sym is
      at (Some row) there =
          let e = stand.all.all x row there in
          absurd (some_row (instance d x) rows (told_as d e.0)
          (subst (λ (rs : List RowTree). In (told_as d e.0) rs) (sym stand.told) (entry_told d stand.entries e.0 e.1))
          (ap (instance d) e.2) none)
  row_back x (Some r) some =
      let f : FoundEntry (instance d x) r = found_entry (instance d x) r some in
      let s : Stands f.x = stands f.x r.row f.there in
      at f s (numbered x.name d.top) refl
    where
      at : (f' : FoundEntry (instance d x) r) → Stands f'.x → (o : Option ActionTree) → numbered x.name d.top ≡ o → Some r.row ≡ t x
      at f' s' None none =
          absurd (none-some s'.a
          (sym unnamed
          ∙ (ap (action_named d) (ap name_in (sym none) ∙ (ap (λ (y : named.Address). y.name) (sym f'.at) ∙ ap name_in s'.is))
          ∙ named_is d known s'.a (of_number d known f'.x.name s'.a s'.is).0)))
      at f' s' (Some a) is = sym f'.there ∙ ap t (one_instance f'.x x s'.a a s'.is is f'.at)

  -- THE LEMMA
  pub rows_back : rows_by d rows ≡ t
  rows_back = λ k x. row_back x (find_row (instance d x) rows) refl k

  -- ---- no address fails that the record may name, where none of the numbers of actions does

  module _ (none : (y : Address) → fails (reading d) is_skipped (fits_in d) t (graph_of d) y ≡ false) where
    no_surplus : (y : named.Address) → action_named d y.name ≡ None → is_some (find_row y rows) ≡ false
    no_surplus y missing = at (find_row y rows) refl
      where
        at : (o : Option RowTree) → find_row y rows ≡ o → is_some (find_row y rows) ≡ false
        at None is = ap is_some is
        at (Some r) is =
            let f : FoundEntry y r = found_entry y r is in
            let s : Stands f.x = stands f.x r.row f.there in
            absurd (none-some s.a
            (sym missing
            ∙ (ap (action_named d) (ap (λ (z : named.Address). z.name) (sym f.at) ∙ ap name_in s.is)
            ∙ named_is d known s.a (of_number d known f.x.name s.a s.is).0)))

    pub none_fails_at : IsLeastFailing d rows None
    none_fails_at y = at (action_named d y.name) refl
      where
        at : (o : Option ActionTree) → action_named d y.name ≡ o
            → fails_by (reading d) is_skipped (fits_in d) d rows (action_named d y.name) y ≡ false
        at None missing =
            ap (λ (o : Option ActionTree). fails_by (reading d) is_skipped (fits_in d) d rows o y) missing ∙ no_surplus y missing
        at (Some a) is =
            ap (λ (o : Option ActionTree). fails_by (reading d) is_skipped (fits_in d) d rows o y) is
            ∙ (ap (λ (u : Table Row). fails (reading d) is_skipped (fits_in d) u (graph_of d) (address (action_number a) y.at)) rows_back
            ∙ none (address (action_number a) y.at))
