-- The rows that are added one after the other are those of a record whose actions are kept.
use Rattle.std.proofs.Common.{◌≡◌, ℕ, Bool, true, false, ◌&&◌, cond, List, [], ◌∷◌, Option, Some, None, option_map, Ordering, Less, Equal}
use Rattle.std.proofs.Common.{Greater, is_eq, bytes_eq, inl, inr, refl, sym, ap, ap₂, ◌∙◌, subst, eq-eqb, eqb-true, nat_eq, true≢false}
use Rattle.std.specs.Cmp.Lexicographic.{slice_cmp}
use Rattle.std.specs.List.{AllByRecursion}
use Rattle.std.specs.Ordering.{nat_cmp, ordering_then}
use Rattle.std.proofs.lemmas.Map.Text.{is_eq-slice_cmp}
use Rattle.std.proofs.lemmas.Option.{none-some}
use Rattle.std.proofs.lemmas.Slice.Eq.{bytes_eq-Decides}
use Rattle.wf_lists.specs.KeyOrder.{IsInKeyOrder}
use Rattle.wf_val.specs.Address.{address_cmp}
use Rattle.wf_val.specs.NameOrder.{bytes_cmp}
use Rattle.wf_val.specs.declared.address.Address as named
use Rattle.wf_layers.specs.Address.{Address, Table, same_at}
use Rattle.wf_layers.specs.Machine.{or_else}
use Rattle.wf_layers.proofs.Basics.{and_in, two, unless, when}
use Rattle.wf_def.specs.ActionTree.{ActionTree, action_name, action_number}
use Rattle.wf_def.specs.AllActions.{all_actions, numbered}
use Rattle.wf_def.specs.DefTree.{DefTree}
use Rattle.wf_def.specs.Names.{graph_names}
use Rattle.wf_turns.specs.Facts.{AreOnce}
use Rattle.wf_record.specs.Record.{Row, RowTree, address_of, find_row}
use Rattle.wf_turns.specs.Look.{instance, name_in}
use Rattle.wf_turns.specs.Points.{action_named}
use Rattle.wf_turns.specs.Resubmitted.{rows_by}
use Rattle.wf_tables.proofs.TableLemmas.{bytes_same}
use Rattle.wf_regained.specs.Kept.{is_action_at, is_row_of, with_all_kept, with_kept}
use Rattle.wf_regained.proofs.NamedLemmas.{name_is, named_is, number_is, numbered_is}

-- ---- addresses that compare as equal

then_tied : (o p : Ordering) → is_eq (ordering_then o p) ≡ (is_eq o && is_eq p)
then_tied Less p = refl
then_tied Equal p = refl
then_tied Greater p = refl

tied_parts : (k l : named.Address) → is_eq (address_cmp k l) ≡ (bytes_eq k.name l.name && bytes_eq k.at l.at)
tied_parts k l =
    then_tied (bytes_cmp k.name l.name) (slice_cmp nat_cmp k.at l.at)
    ∙ ap₂ (λ (a b : Bool). a && b) (is_eq-slice_cmp k.name l.name) (is_eq-slice_cmp k.at l.at)

abbrev named_at : List ℕ → List ℕ → named.Address
named_at n i = record { name = n; at = i }

same_address : (k l : named.Address) → is_eq (address_cmp k l) ≡ true → k ≡ l
same_address k l tied =
    let h = and_in (bytes_eq k.name l.name) (bytes_eq k.at l.at) (sym (tied_parts k l) ∙ tied) in
    ap (λ (n : List ℕ). named_at n k.at) ((bytes_eq-Decides k.name l.name).0 h.0)
    ∙ ap (λ (i : List ℕ). named_at l.name i) ((bytes_eq-Decides k.at l.at).0 h.1)

-- ---- the row of an address

abbrev row_in : Option RowTree → Option Row
row_in o = option_map (λ (r : RowTree). r.row) o

none_behind : (k : named.Address) (rs : List RowTree) → AllByRecursion (λ r. address_cmp k (address_of r) ≡ Less) rs
    → find_row k rs ≡ None
none_behind k [] above = refl
none_behind k (r ∷ rs) above =
    unless (is_eq (address_cmp k r.address)) (Some r) (find_row k rs) (ap is_eq above.0) ∙ none_behind k rs above.1

module _ (d : DefTree) (keeps : ℕ → Bool) where
  -- nothing is added where rows aren't kept, or none is of the action
  pub none_added : (x : Address) → ((r : RowTree) → (keeps x.name && is_row_of d r x) ≡ false) → (rs : List RowTree) (t : Table Row)
      → with_all_kept d keeps t rs x ≡ t x
  none_added x off [] t = refl
  none_added x off (r ∷ rs) t =
      none_added x off rs (with_kept d keeps t r) ∙ unless (keeps x.name && is_row_of d r x) (Some r.row) (t x) (off r)

  -- else what the address finds
  module _ (x : Address) (kept : keeps x.name ≡ true)
      (own : (r : RowTree) → is_row_of d r x ≡ is_eq (address_cmp (instance d x) r.address)) where
    adds : (r : RowTree) (b : Bool) → is_eq (address_cmp (instance d x) r.address) ≡ b → (keeps x.name && is_row_of d r x) ≡ b
    adds r b is = ap (λ (c : Bool). c && is_row_of d r x) kept ∙ (own r ∙ is)

    pub all_added : (rs : List RowTree) → IsInKeyOrder address_cmp address_of rs → (t : Table Row)
        → with_all_kept d keeps t rs x ≡ or_else (row_in (find_row (instance d x) rs)) (t x)
    all_added [] order t = refl
    all_added (r ∷ rs) order t = elim (two (is_eq (address_cmp (instance d x) r.address))) [
      | inl tied ↦
          let same = same_address (instance d x) r.address tied in
          let none : find_row (instance d x) rs ≡ None =
          subst (λ (k : named.Address). find_row k rs ≡ None) (sym same) (none_behind r.address rs order.0) in
          all_added rs order.1 (with_kept d keeps t r)
          ∙ (ap (λ (o : Option RowTree). or_else (row_in o) (with_kept d keeps t r x)) none
          ∙ (when (keeps x.name && is_row_of d r x) (Some r.row) (t x) (adds r true tied)
          ∙ sym (ap (λ (o : Option RowTree). or_else (row_in o) (t x))
          (when (is_eq (address_cmp (instance d x) r.address)) (Some r) (find_row (instance d x) rs) tied))))
      | inr other ↦
          all_added rs order.1 (with_kept d keeps t r)
          ∙ (ap (λ (o : Option Row). or_else (row_in (find_row (instance d x) rs)) o)
          (unless (keeps x.name && is_row_of d r x) (Some r.row) (t x) (adds r false other))
          ∙ sym (ap (λ (o : Option RowTree). or_else (row_in o) (t x))
          (unless (is_eq (address_cmp (instance d x) r.address)) (Some r) (find_row (instance d x) rs) other)))
    ]

-- ---- a row is of an action where it has its address

module _ (d : DefTree) (own : AllByRecursion (λ a. numbered (action_number a) d.top ≡ Some a) (all_actions d.top))
    (once : AreOnce (graph_names d.top)) where
  -- of a number that no action has there is none
  pub row_of_none : (x : Address) → numbered x.name d.top ≡ None → (r : RowTree) → is_row_of d r x ≡ false
  row_of_none x none r = go (action_named d r.address.name) refl
    where
      go : (o : Option ActionTree) → action_named d r.address.name ≡ o → is_action_at o r.address.at x ≡ false
      go None is = refl
      go (Some b) is = elim (two (nat_eq (action_number b) x.name)) [
        | inl t ↦ absurd (none-some b (sym none ∙ ap (λ (n : ℕ). numbered n d.top) (sym (eqb-true (action_number b) x.name t))
            ∙ numbered_is d own once r.address.name b is))
        | inr f ↦ ap (λ (c : Bool). c && same_at r.address.at x.at) f
      ]

  module _ (x : Address) (a : ActionTree) (is : numbered x.name d.top ≡ Some a) where
    -- by another name
    other_row : (r : RowTree) → bytes_eq (action_name a) r.address.name ≡ false → (o : Option ActionTree)
        → action_named d r.address.name ≡ o → is_action_at o r.address.at x ≡ false
    other_row r differ None found = refl
    other_row r differ (Some b) found = elim (two (nat_eq (action_number b) x.name)) [
      | inl t ↦
          let it : Some a ≡ Some b =
          sym is ∙ ap (λ (n : ℕ). numbered n d.top) (sym (eqb-true (action_number b) x.name t))
          ∙ numbered_is d own once r.address.name b found in
          let same : a ≡ b = cc (it) in
          let name : action_name a ≡ r.address.name = ap action_name same ∙ sym (name_is d own once r.address.name b found) in
          absurd (true≢false (sym ((bytes_eq-Decides (action_name a) r.address.name).1 name) ∙ differ))
      | inr f ↦ ap (λ (c : Bool). c && same_at r.address.at x.at) f
    ]

    own_row : (r : RowTree) → bytes_eq (action_name a) r.address.name ≡ true → is_row_of d r x ≡ bytes_eq x.at r.address.at
    own_row r t =
        let name = (bytes_eq-Decides (action_name a) r.address.name).0 t in
        ap (λ (k : List ℕ). is_action_at (action_named d k) r.address.at x) (sym name)
        ∙ ap (λ (o : Option ActionTree). is_action_at o r.address.at x) (named_is d own once x.name a is)
        ∙ ap (λ (c : Bool). c && same_at r.address.at x.at) (eq-eqb (action_number a) x.name (number_is d own once x.name a is))
        ∙ sym (bytes_same x.at r.address.at)

    pub row_of_action : (r : RowTree) → is_row_of d r x ≡ is_eq (address_cmp (instance d x) r.address)
    row_of_action r =
        let parts : is_eq (address_cmp (instance d x) r.address) ≡ (bytes_eq (action_name a) r.address.name && bytes_eq x.at r.address.at) =
        tied_parts (instance d x) r.address
        ∙ ap (λ (o : Option ActionTree). bytes_eq (name_in o) r.address.name && bytes_eq x.at r.address.at) is in
        elim (two (bytes_eq (action_name a) r.address.name)) [
          | inl t ↦ own_row r t ∙ sym (parts ∙ ap (λ (c : Bool). c && bytes_eq x.at r.address.at) t)
          | inr f ↦ other_row r f (action_named d r.address.name) refl
              ∙ sym (parts ∙ ap (λ (c : Bool). c && bytes_eq x.at r.address.at) f)
        ]

  -- THE LAW: by the flags of the actions
  or_none : (o : Option Row) → or_else o None ≡ o
  or_none None = refl
  or_none (Some row) = refl

  pub rows_are : (keeps : ℕ → Bool) (rs : List RowTree) → IsInKeyOrder address_cmp address_of rs → (x : Address) (a : ActionTree)
      → numbered x.name d.top ≡ Some a → with_all_kept d keeps (λ y. None) rs x ≡ cond (keeps x.name) (rows_by d rs x) None
  rows_are keeps rs order x a is = elim (two (keeps x.name)) [
    | inl t ↦ all_added d keeps x t (row_of_action x a is) rs order (λ y. None)
        ∙ (or_none (rows_by d rs x) ∙ sym (when (keeps x.name) (rows_by d rs x) None t))
    | inr f ↦ none_added d keeps x (λ r. ap (λ (c : Bool). c && is_row_of d r x) f) rs (λ y. None)
        ∙ sym (unless (keeps x.name) (rows_by d rs x) None f)
  ]

  pub rows_are_none : (keeps : ℕ → Bool) (rs : List RowTree) (x : Address) → numbered x.name d.top ≡ None
      → with_all_kept d keeps (λ y. None) rs x ≡ None
  rows_are_none keeps rs x none = none_added d keeps x (λ r. off r) rs (λ y. None)
    where
      and_off : (b c : Bool) → c ≡ false → (b && c) ≡ false
      and_off true c f = f
      and_off false c f = refl

      off : (r : RowTree) → (keeps x.name && is_row_of d r x) ≡ false
      off r = and_off (keeps x.name) (is_row_of d r x) (row_of_none x none r)
