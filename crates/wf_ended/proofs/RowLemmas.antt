-- The rows of a record, from rows by instances.
use Rattle.std.proofs.Common.{◌≡◌, ℕ, ◌+◌, ◌<◌, Bool, true, false, List, [], ◌∷◌, ◌++◌, map, Option, Some, option_map, Ordering}
use Rattle.std.proofs.Common.{Less, Equal, Greater, nat_eq, nat_lt}
use Rattle.std.proofs.Common.{inl, inr, refl, sym, ap, ◌∙◌, arith}
use Rattle.std.specs.Prelude.{sum_by}
use Rattle.std.specs.Cmp.{nat_cmp_is}
use Rattle.std.specs.Cmp.Lexicographic.{slice_cmp}
use Rattle.std.specs.List.{AllByRecursion, list_any}
use Rattle.std.specs.Ordering.{nat_cmp, ordering_then}
use Rattle.std.proofs.lemmas.Bool.{eqb-false, eqb-true, ltb-false, ltb-true}
use Rattle.std.proofs.lemmas.Cmp.{nat_list_cmp_total, tied_itself}
use Rattle.std.proofs.lemmas.List.Sums.{sum_by-cons}
use Rattle.wf_lists.specs.KeyOrder.{IsAboveKeys, IsInKeyOrder}
use Rattle.wf_val.specs.Address.{address_cmp}
use Rattle.wf_val.specs.NameOrder.{bytes_cmp}
use Rattle.wf_layers.specs.Listed.{Among}
use Rattle.wf_layers.specs.Definition.{has}
use Rattle.wf_asks.specs.Instances.{address_of, instance_cmp, instance_total}
use Rattle.wf_asks.specs.declared.instance.Instance.{Instance}
use Rattle.wf_asks.specs.declared.known.RowAt.{RowAt}
use Rattle.wf_def.specs.ActionTree.{ActionTree, action_name}
use Rattle.wf_def.specs.AllActions.{all_actions, numbered}
use Rattle.wf_def.specs.DefTree.{DefTree}
use Rattle.wf_record.specs.Cost.{row_cost}
use Rattle.wf_record.specs.Record as recorded
use Rattle.wf_record.specs.Record.{RowTree}
use Rattle.wf_record.specs.Seen.{row_tree}
use Rattle.wf_record.specs.declared.row.Row.{Row}
use Rattle.wf_catalog.specs.Facts.{graph_numbers}
use Rattle.wf_catalog.proofs.NumberLemmas.{numbers_are}
use Rattle.wf_catalog.specs.Look.{name_in, name_of}
use Rattle.wf_catalog.specs.Points.{graph_of}
use Rattle.wf_catalog.specs.Record.{rows_of}
use Rattle.wf_sight_laws.specs.Listed.{StandFor, told_as}
use Rattle.wf_sight_laws.specs.Tables.{StandAtInstances}
use Rattle.wf_sight_laws.proofs.RangeLemmas.{some_found}
use Rattle.wf_sight_laws.specs.Seen.{row_content, rows_seen}
use Rattle.wf_ended.specs.Found.{as_row, cost_of, own_address}
use Rattle.wf_ended.proofs.ListedLemmas.{among_found}
use Rattle.wf_ended.proofs.TableLemmas.{entries_are, entry_of}

abbrev place_of : RowAt Row → Instance
place_of r = r.instance

-- ---- they are those of the record

module _ (d : DefTree) where
  told_all : (rows : List (RowAt Row)) → map (told_as d) (map (entry_of row_content) rows) ≡ map (as_row d) rows
  told_all [] = refl
  told_all (r ∷ rows) = ap (λ (rs : List RowTree). as_row d r ∷ rs) (told_all rows)

  pub rows_are : (rows : List (RowAt Row)) → IsInKeyOrder instance_cmp place_of rows → StandFor d (rows_seen rows)
      → map (as_row d) rows ≡ rows_of d (rows_seen rows)
  rows_are rows order stand =
      sym (stand.told ∙ ap (map (told_as d)) (entries_are row_content rows order stand.entries stand.ordered stand.all) ∙ told_all rows)

  pub costs_are : (rows : List (RowAt Row)) → sum_by row_cost (map (as_row d) rows) ≡ sum_by cost_of rows
  costs_are [] = refl
  costs_are (r ∷ rows) =
      sum_by-cons row_cost (as_row d r) (map (as_row d) rows) ∙ ap (λ (n : ℕ). cost_of r + n) (costs_are rows)
      ∙ sym (sum_by-cons cost_of r rows)

-- ---- their addresses ascend

-- the action of the row's number
abbrev HasAction : DefTree → RowAt Row → Type 0
HasAction d r = (a : ActionTree) × (numbered r.instance.action d.top ≡ Some a)

all_from : {X : Type 0} (P : X → Type 0) (xs : List X) → ((x : X) → Among xs x → P x) → AllByRecursion P xs
all_from P [] h = tt
all_from P (x ∷ xs) h = (h x (inl refl), all_from P xs (λ y i. h y (inr i)))

-- where the rows are those of a table, each is an action's
pub have_actions : (d : DefTree) (rows : List (RowAt Row)) → IsInKeyOrder instance_cmp place_of rows → StandAtInstances d (rows_seen rows)
    → ((m : ℕ) → has (graph_of d) m ≡ list_any (nat_eq m) (graph_numbers d.top)) → AllByRecursion (HasAction d) rows
have_actions d rows order stand had =
    all_from (HasAction d) rows
    (λ r i.
    let there = ap (option_map (λ (q : RowAt Row). row_content q.row)) (among_found instance_total place_of rows order r i) in
    some_found r.instance.action (all_actions d.top)
    (ap (list_any (nat_eq r.instance.action)) (numbers_are d.top)
    ∙ (sym (had r.instance.action) ∙ (stand (address_of r.instance) (row_content r.row) there).0)))

module _ (d : DefTree) (names : (m n : ℕ) (a b : ActionTree) → numbered m d.top ≡ Some a → numbered n d.top ≡ Some b → m < n
    → bytes_cmp (action_name a) (action_name b) ≡ Less) where
  names_go : (m n : ℕ) (a b : ActionTree) → numbered m d.top ≡ Some a → numbered n d.top ≡ Some b → m < n
      → bytes_cmp (name_of d m) (name_of d n) ≡ Less
  names_go m n a b one other less =
      ap (λ (o : Option ActionTree). bytes_cmp (name_in o) (name_of d n)) one
      ∙ (ap (λ (o : Option ActionTree). bytes_cmp (action_name a) (name_in o)) other ∙ names m n a b one other less)

  less_at : (r s : RowAt Row) → HasAction d r → HasAction d s → (b c : Bool) → nat_lt r.instance.action s.instance.action ≡ b
      → nat_eq r.instance.action s.instance.action ≡ c → instance_cmp r.instance s.instance ≡ Less
      → address_cmp (as_row d r).address (as_row d s).address ≡ Less
  less_at r s has has' true c lt eq less =
      ap (λ (o : Ordering). ordering_then o (slice_cmp nat_cmp r.instance.at s.instance.at))
      (names_go r.instance.action s.instance.action has.0 has'.0 has.1 has'.1 (ltb-true r.instance.action s.instance.action lt))
  less_at r s has has' false true lt eq less =
      let same : r.instance.action ≡ s.instance.action = eqb-true r.instance.action s.instance.action eq in
      let tied : bytes_cmp (name_of d r.instance.action) (name_of d s.instance.action) ≡ Equal =
      ap (λ (n : ℕ). bytes_cmp (name_of d r.instance.action) (name_of d n)) (sym same)
      ∙ tied_itself nat_list_cmp_total (name_of d r.instance.action) in
      ap (λ (o : Ordering). ordering_then o (slice_cmp nat_cmp r.instance.at s.instance.at)) tied
      ∙ (ap (λ (o : Ordering). ordering_then o (slice_cmp nat_cmp r.instance.at s.instance.at))
      (nat_cmp_is r.instance.action s.instance.action Equal same) ∙ less)
  less_at r s has has' false false lt eq less =
      let above : s.instance.action < r.instance.action =
      omega (arith, ltb-false r.instance.action s.instance.action lt, eqb-false r.instance.action s.instance.action eq) in
      let it : Greater ≡ Less =
      ap (λ (o : Ordering). ordering_then o (slice_cmp nat_cmp r.instance.at s.instance.at))
      (nat_cmp_is r.instance.action s.instance.action Greater above) ∙ less in
      absurd (cc (it))

  all_less : (r : RowAt Row) (rows : List (RowAt Row)) → HasAction d r → AllByRecursion (HasAction d) rows
      → AllByRecursion (λ s. instance_cmp r.instance (place_of s) ≡ Less) rows
      → AllByRecursion (λ (t : RowTree). address_cmp (as_row d r).address t.address ≡ Less) (map (as_row d) rows)
  all_less r [] has all less = tt
  all_less r (s ∷ rows) has all less = (
    less_at r s has all.0 (nat_lt r.instance.action s.instance.action) (nat_eq r.instance.action s.instance.action) refl refl less.0,
    all_less r rows has all.1 less.1,
  )

  pub rows_ascend : (rows : List (RowAt Row)) → AllByRecursion (HasAction d) rows → IsInKeyOrder instance_cmp place_of rows
      → IsInKeyOrder address_cmp recorded.address_of (map (as_row d) rows)
  rows_ascend [] all order = tt
  rows_ascend (r ∷ rows) all order = (all_less r rows all.0 all.1 order.0, rows_ascend rows all.1 order.1)

-- ---- as they are added: the next one is above those so far

all_middle : {X : Type 0} (P : X → Type 0) (xs : List X) (y : X) (ys : List X) → AllByRecursion P (xs ++ y ∷ ys) → P y
all_middle P [] y ys all = all.0
all_middle P (x ∷ xs) y ys all = all_middle P xs y ys all.1

pub above_others : (there : List Row) (t : RowTree) (rest : List RowTree)
    → IsInKeyOrder address_cmp recorded.address_of (map row_tree there ++ t ∷ rest)
    → IsAboveKeys address_cmp own_address t.address there
above_others [] t rest order = tt
above_others (r ∷ there) t rest order = (
  all_middle (λ (u : RowTree). address_cmp r.address u.address ≡ Less) (map row_tree there) t rest order.0,
  above_others there t rest order.1,
)
