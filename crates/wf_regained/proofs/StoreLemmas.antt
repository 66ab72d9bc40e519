-- The last that was found of the rows by instances is the last writer in their table.
use Rattle.std.proofs.Common.{◌≡◌, ℕ, Bool, true, false, cond, List, [], ◌∷◌, Option, Some, None, option_map, ◌⊎◌, inl}
use Rattle.std.proofs.Common.{inr, refl, sym, ap, ◌∙◌}
use Rattle.std.proofs.Common.{subst, is_eq, Less, true≢false}
use Rattle.std.specs.Ordering.{ordering_reverse}
use Rattle.std.proofs.lemmas.Cmp.{tied_itself}
use Rattle.std.proofs.lemmas.Option.{none-some}
use Rattle.wf_lists.specs.KeyOrder.{IsInKeyOrder, find_key}
use Rattle.wf_layers.specs.Address.{Address, SeenIn, is_own}
use Rattle.wf_layers.specs.Definition.{has}
use Rattle.wf_layers.specs.Listed.{Among}
use Rattle.wf_layers.specs.Seen.{Once}
use Rattle.wf_layers.specs.Source.{Source}
use Rattle.wf_layers.specs.Variables.{IsLastWritten}
use Rattle.wf_layers.proofs.Basics.{not_true, two, unless, when}
use Rattle.wf_layers.proofs.Tables.{one_is}
use Rattle.wf_asks.specs.Instances.{address_of, instance_cmp, instance_of, instance_total}
use Rattle.wf_asks.specs.Known.{is_among, writer}
use Rattle.wf_asks.specs.declared.instance.Instance.{Instance}
use Rattle.wf_asks.specs.declared.known.RowAt.{RowAt}
use Rattle.wf_def.specs.ActionTree.{ActionTree}
use Rattle.wf_def.specs.AllActions.{numbered}
use Rattle.wf_def.specs.DefTree.{DefTree}
use Rattle.wf_opening.specs.Decisions.{DecisionTree}
use Rattle.wf_opening.specs.Verdicts.{VerdictTree}
use Rattle.wf_turns.specs.Leaf.{BegunTree}
use Rattle.wf_record.specs.Record as record_of
use Rattle.wf_record.specs.declared.row.Row.{Row}
use Rattle.wf_record.specs.declared.status.Status.{Status}
use Rattle.wf_turns.specs.Points.{graph_of}
use Rattle.wf_sight_laws.specs.CatalogVariables.{numbers_of}
use Rattle.wf_tables.proofs.TableLemmas.{own_place}
use Rattle.wf_sight_laws.specs.Writes.{if_succeeded, is_full, writes}
use Rattle.wf_sight_laws.specs.Seen.{row_content, rows_seen}
use Rattle.wf_regained.specs.Last.{AreInLine, comes_after, last_from}
use Rattle.wf_regained.proofs.LastLemmas.{Leads, Line, Written, all_lead}
use Rattle.wf_regained.proofs.NamedLemmas.{all_among}

abbrev place_of : RowAt Row → Instance
place_of r = r.instance

abbrev Found : List (RowAt Row) → Address → record_of.Row → Type 0
Found rs y q = (r : RowAt Row) × Among rs r × (address_of r.instance ≡ y) × (row_content r.row ≡ q)

-- ---- a row that is listed is the one at its instance, and the other way round

there : (rs : List (RowAt Row)) → IsInKeyOrder instance_cmp place_of rs → (r : RowAt Row) → Among rs r
    → find_key instance_cmp place_of r.instance rs ≡ Some r
there [] order r i = absurd i
there (s ∷ rs) order r (inl e) = rw (← e, tied_itself instance_total (place_of s)) refl
there (s ∷ rs) order r (inr i) =
    let above = instance_total.antisymm (place_of r) (place_of s)
    ∙ ap ordering_reverse (all_among (λ (q : RowAt Row). instance_cmp (place_of s) (place_of q) ≡ Less) rs r order.0 i) in
    rw above (there rs order.1 r i)

found : (rs : List (RowAt Row)) (y : Address) (r : RowAt Row) → find_key instance_cmp place_of (instance_of y) rs ≡ Some r
    → Among rs r × (is_eq (instance_cmp (instance_of y) (place_of r)) ≡ true)
found [] y r is = absurd (none-some r is)
found (s ∷ rs) y r is = elim (two (is_eq (instance_cmp (instance_of y) (place_of s)))) [
  | inl t ↦
      let it : Some s ≡ Some r =
      sym (when (is_eq (instance_cmp (instance_of y) (place_of s))) (Some s) (find_key instance_cmp place_of (instance_of y) rs) t) ∙ is in
      let same : s ≡ r = cc (it) in
      (inl same, subst (λ (q : RowAt Row). is_eq (instance_cmp (instance_of y) (place_of q)) ≡ true) same t)
  | inr f ↦
      let h = found rs y r
      (sym (unless (is_eq (instance_cmp (instance_of y) (place_of s))) (Some s) (find_key instance_cmp place_of (instance_of y) rs) f)
      ∙ is) in
      (inr h.0, h.1)
]

found_row : (rs : List (RowAt Row)) (y : Address) (q : record_of.Row) → rows_seen rs y ≡ Some q → Found rs y q
found_row rs y q is = go (find_key instance_cmp place_of (instance_of y) rs) refl
  where
    go : (o : Option (RowAt Row)) → find_key instance_cmp place_of (instance_of y) rs ≡ o → Found rs y q
    go None e = absurd (none-some q (sym (ap (option_map (λ (r : RowAt Row). row_content r.row)) e) ∙ is))
    go (Some r) e =
        let h = found rs y r e in
        let own : is_own r.instance.action r.instance.at y ≡ true = sym (own_place r.instance y) ∙ h.1 in
        let it : Some (row_content r.row) ≡ Some q = sym (ap (option_map (λ (r : RowAt Row). row_content r.row)) e) ∙ is in
        let same : row_content r.row ≡ q = cc (it) in (
          r,
          h.0,
          (one_is r.instance.action r.instance.at r y r (when (is_own r.instance.action r.instance.at y) (Some r) None own)).0,
          same,
        )

-- ---- who writes is an action's

none_written : (v : ℕ) (full : Bool) (s : Status) → is_among v (cond full (if_succeeded s []) []) ≡ false
none_written v false s = refl
none_written v true Status.Succeeded = refl
none_written v true Status.Failed = refl
none_written v true Status.Skipped = refl
none_written v true Status.TimedOut = refl
none_written v true Status.Cancelled = refl

module _ (d : DefTree) (had : (n : ℕ) (a : ActionTree) → numbered n d.top ≡ Some a → has (graph_of d) n ≡ true) where
  writer_has : (v : ℕ) (y : Address) (row : record_of.Row) → writes d v y row ≡ true → has (graph_of d) y.name ≡ true
  writer_has v y row is = go (numbered y.name d.top) refl
    where
      go : (o : Option ActionTree) → numbered y.name d.top ≡ o → has (graph_of d) y.name ≡ true
      go None none =
          let off = ap (λ (o : Option ActionTree). is_among v (cond (is_full d y) (if_succeeded row.status (numbers_of d o)) [])) none
          ∙ none_written v (is_full d y) row.status in
          absurd (true≢false (sym is ∙ off))
      go (Some a) some = had y.name a some

  -- ---- THE LAW

  module _ (once : Once (graph_of d))
      (later : (x y : Address) → has (graph_of d) x.name ≡ true → has (graph_of d) y.name ≡ true → SeenIn (graph_of d) y x
      → comes_after d x y ≡ true)
      (never : (x y : Address) → has (graph_of d) x.name ≡ true → has (graph_of d) y.name ≡ true → comes_after d x y ≡ true
      → comes_after d y x ≡ true → ⊥)
      (rs : List (RowAt Row)) (order : IsInKeyOrder instance_cmp place_of rs) (line : AreInLine d (rows_seen rs)) (v : ℕ) where
    abbrev None' : Address → Type 0
    None' z = ⊥

    abbrev Writes : Address → Type 0
    Writes z = None' z ⊎ Written d v once rs z

    abbrev content : (r : RowAt Row) → record_of.Row
    content r = row_content r.row

    seen_there : (z : Address) (r : RowAt Row) → Among rs r → address_of r.instance ≡ z → rows_seen rs z ≡ Some (content r)
    seen_there z r i at =
        ap (rows_seen rs) (sym at) ∙ ap (option_map (λ (q : RowAt Row). content q)) (there rs order r i)

    wrote_there : (z : Address) (r : RowAt Row) → address_of r.instance ≡ z → writes d v (address_of r.instance) (content r) ≡ true
        → writes d v z (content r) ≡ true
    wrote_there z r at is = subst (λ (y : Address). writes d v y (content r) ≡ true) at is

    has_there : (z : Address) → Writes z → has (graph_of d) z.name ≡ true
    has_there z (inl w) = absurd w
    has_there z (inr h) = writer_has v z (content h.0) (wrote_there z h.0 h.2 h.3)

    ordered : (x y : Address) → Writes x → Writes y → (x ≡ y) ⊎ (SeenIn (graph_of d) x y ⊎ SeenIn (graph_of d) y x)
    ordered x y (inl w) b = absurd w
    ordered x y (inr g) (inl w) = absurd w
    ordered x y (inr g) (inr h) =
        line v x y (content g.0) (content h.0) (seen_there x g.0 g.1 g.2) (seen_there y h.0 h.1 h.2) (wrote_there x g.0 g.2 g.3)
        (wrote_there y h.0 h.2 h.3)

    in_line : Line d v once Writes
    in_line = record {
      ordered = λ x y a b. ordered x y a b;
      later = λ x y a b s. later x y (has_there x a) (has_there y b) s;
      never = λ x y a b s t. never x y (has_there x a) (has_there y b) s t;
    }

    leads : Leads d v once Writes (last_from d v None rs)
    leads = all_lead d v once rs None' None in_line (λ z w. w)

    listed : (z : Address) (q : record_of.Row) → rows_seen rs z ≡ Some q → writes d v z q ≡ true → Writes z
    listed z q is wr =
        let h = found_row rs z q is in
        inr (
          h.0,
          h.1,
          h.2,
          subst (λ (y : Address). writes d v y (content h.0) ≡ true) (sym h.2)
              (subst (λ (w : record_of.Row). writes d v z w ≡ true) (sym h.3) wr),
        )

    writing : (z : Address) (q : record_of.Row) → (writer (writes d) v z q ≡ None → ⊥) → writes d v z q ≡ true
    writing z q some = elim (two (writes d v z q)) [
      | inl t ↦ t
      | inr f ↦ absurd (some (unless (writes d v z q) (Some z) None f))
    ]

    as_last : (m : Source record_of.Row BegunTree DecisionTree VerdictTree) (o : Option Address) → Leads d v once Writes o
        → IsLastWritten (graph_of d) m (writer (writes d) v) (rows_seen rs) o
    as_last m None h =
        inl (
          refl,
          λ y r is. unless (writes d v y r) (Some y) None (not_true (writes d v y r) (λ t. h y (listed y r is t))),
        )
    as_last m (Some y) h = of_writer h.0
      where
        of_writer : Writes y → IsLastWritten (graph_of d) m (writer (writes d) v) (rows_seen rs) (Some y)
        of_writer (inl w) = absurd w
        of_writer (inr g) =
            inr (
              y,
              content g.0,
              seen_there y g.0 g.1 g.2,
              when (writes d v y (content g.0)) (Some y) None (wrote_there y g.0 g.2 g.3),
              (λ n. none-some y (sym n)),
              (λ z q is some. h.1 z (listed z q is (writing z q some))),
            )

    pub store_is : (m : Source record_of.Row BegunTree DecisionTree VerdictTree)
        → IsLastWritten (graph_of d) m (writer (writes d) v) (rows_seen rs) (last_from d v None rs)
    store_is m = as_last m (last_from d v None rs) leads
