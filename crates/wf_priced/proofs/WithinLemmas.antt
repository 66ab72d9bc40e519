-- What a state costs, by the rows of the meaning.
use Rattle.std.proofs.Common.{◌≡◌, ◌≤◌, ℕ, ◌+◌, List, sym, ◌∙◌, arith}
use Rattle.wf_lists.specs.KeyOrder.{IsInKeyOrder}
use Rattle.wf_layers.specs.Address.{Address}
use Rattle.wf_layers.specs.Definition.{Graph, Turns}
use Rattle.wf_layers.specs.Listed.{sum_of}
use Rattle.wf_layers.specs.Machine.{IsOver, Opening, Running, State}
use Rattle.wf_layers.specs.Meaning.{meaning}
use Rattle.wf_layers.specs.Source.{Source}
use Rattle.wf_kept.specs.Reached.{IsReached}
use Rattle.wf_kept.proofs.Informed.{open_stands, reached_facts, running_stands}
use Rattle.wf_asks.specs.Instances.{address_of, instance_cmp, instance_of, table_of}
use Rattle.wf_asks.specs.Known.{open_tree}
use Rattle.wf_asks.specs.declared.instance.Instance.{Instance}
use Rattle.wf_asks.specs.declared.known.OpenAt.{OpenAt}
use Rattle.wf_asks.specs.declared.known.RowAt.{RowAt}
use Rattle.wf_meter.specs.Tables.{leaf_tree, state_of}
use Rattle.wf_meter.specs.LeafAt.{LeafAt}
use Rattle.wf_meter.specs.Cost.{leaf_cost, open_cost, opens_cost, rows_cost, running_cost}
use Rattle.wf_meter.proofs.PriceLemmas.{lists_table}
use Rattle.wf_priced.specs.Priced.{PaysItsParts, TellsRows}
use Rattle.wf_priced.proofs.ListedLemmas.{by_keys, covered}
use Rattle.wf_priced.proofs.OverLemmas.{whole}
use Rattle.wf_priced.proofs.PaidLemmas.{leaf_paid, open_paid}
use Rattle.wf_priced.proofs.TellsLemmas.{told_order, told_table}

module _ {Row Begun Decision Verdict Kept Started Decided Told : Type 0} (see : Row → Kept) (started : Begun → Started)
    (decided : Decision → Decided) (told : Verdict → Told) (d : Graph) (depth : ℕ → ℕ) (m : Source Kept Started Decided Told)
    (rows : List (RowAt Row)) (running : List (LeafAt Begun)) (opens : List (OpenAt Decision Verdict))
    (reached : IsReached d depth m (state_of see started decided told rows running opens))
    (by_rows : IsInKeyOrder instance_cmp (λ (r : RowAt Row). r.instance) rows) where
  abbrev s : State Kept Started Decided Told
  s = state_of see started decided told rows running opens

  -- of a state that is over
  pub over_tells : Turns d → IsOver d m (state_of see started decided told rows running opens)
      → TellsRows (λ (r : RowAt Row). address_of r.instance) (λ (r : RowAt Row). see r.row) (meaning m depth d) rows
  over_tells turns over =
      let own = lists_table (λ (r : RowAt Row). r.instance) (λ (r : RowAt Row). see r.row) rows by_rows in
      let all = whole d depth turns m s reached over in
      record {
        all = record {
          each = λ e a. sym (all (address_of e.instance)) ∙ own.each e a;
          all = λ x y is. own.all x y (all x ∙ is);
        };
        ordered = by_keys (λ (r : RowAt Row). r.instance) rows by_rows;
      }

  module _ {Entry : Type 0} (by_running : IsInKeyOrder instance_cmp (λ (l : LeafAt Begun). l.instance) running)
      (by_opens : IsInKeyOrder instance_cmp (λ (o : OpenAt Decision Verdict). o.instance) opens)
      (cost : Kept → ℕ) (begun_weight : Started → ℕ) (weight : Decided → ℕ)
      (pays : PaysItsParts m d (meaning m depth d) cost begun_weight weight)
      (at : Entry → Address) (row : Entry → Kept) (entries : List Entry) (tells : TellsRows at row (meaning m depth d) entries) where
    abbrev place : Entry → Instance
    place e = instance_of (at e)

    ordered : IsInKeyOrder instance_cmp (λ (e : Entry). instance_of (at e)) entries
    ordered = told_order (meaning m depth d) at row entries tells

    meant : (x : Address) → table_of (λ (e : Entry). instance_of (at e)) row entries x ≡ meaning m depth d x
    meant = told_table (meaning m depth d) at row entries tells

    pub within : rows_cost see cost rows + running_cost started begun_weight running + opens_cost decided told d m.items weight opens
        ≤ sum_of (λ (e : Entry). cost (row e)) entries
    within =
        let after_rows = covered place row cost (λ (r : RowAt Row). r.instance) (λ (r : RowAt Row). see r.row)
        (λ (x : Address) (r : Kept). cost r) rows by_rows entries ordered
        (λ x r e. (r, meant x ∙ (reached_facts d depth m s reached).rows x r e, omega arith)) in
        let after_leaves = covered place row cost (λ (l : LeafAt Begun). l.instance) (leaf_tree started)
        (λ (x : Address) (w : Running Started). leaf_cost begun_weight w) running by_running after_rows.0 after_rows.1.ordered
        (λ x w e. let paid = leaf_paid d depth m s reached cost begun_weight weight pays x w e in
        (paid.0, after_rows.1.else_same x (running_stands d depth m s reached x w e).1 ∙ meant x ∙ paid.1, paid.2)) in
        let after_opens = covered place row cost (λ (o : OpenAt Decision Verdict). o.instance) (open_tree decided told)
        (λ (x : Address) (w : Opening Decided Told). open_cost d m.items weight x w) opens by_opens after_leaves.0 after_leaves.1.ordered
        (λ x w e. let paid = open_paid d depth m s reached cost begun_weight weight pays x w e in
        let stands = open_stands d depth m s reached x w e in
        (paid.0, after_leaves.1.else_same x stands.2 ∙ after_rows.1.else_same x stands.1 ∙ meant x ∙ paid.1, paid.2)) in
        let of_rows = after_rows.1.fits in
        let of_leaves = after_leaves.1.fits in
        let of_opens = after_opens.1.fits in
        omega (arith, of_rows, of_leaves, of_opens)

    pub all_there : Turns d → IsOver d m (state_of see started decided told rows running opens)
        → rows_cost see cost rows + running_cost started begun_weight running + opens_cost decided told d m.items weight opens
        ≡ sum_of (λ (e : Entry). cost (row e)) entries
    all_there turns over =
        let back = covered (λ (r : RowAt Row). r.instance) (λ (r : RowAt Row). see r.row) cost place row
        (λ (x : Address) (r : Kept). cost r) entries ordered rows by_rows
        (λ x r e. (r, whole d depth turns m s reached over x ∙ sym (meant x) ∙ e, omega arith)) in
        let of_entries = back.1.fits in
        let most = within in
        omega (arith, most, of_entries)
