-- WHAT THE STATES OF A RUN COST against what the rows cost that its definition means.
use Rattle.std.specs.Prelude.{◌≡◌, ℕ, ◌+◌, ◌≤◌, List}
use Rattle.wf_lists.specs.KeyOrder.{IsInKeyOrder}
use Rattle.wf_layers.specs.Definition.{Graph}
use Rattle.wf_layers.specs.Machine.{IsOver}
use Rattle.wf_layers.specs.Source.{Source}
use Rattle.wf_kept.specs.Reached.{IsReached}
use Rattle.wf_asks.specs.Instances.{instance_cmp}
use Rattle.wf_asks.specs.declared.known.OpenAt.{OpenAt}
use Rattle.wf_asks.specs.declared.known.RowAt.{RowAt}
use Rattle.wf_metered.specs.Tables.{state_of}
use Rattle.wf_metered.specs.LeafAt.{LeafAt}
use Rattle.wf_metered.specs.Cost.{opens_cost, rows_cost, running_cost}

module _ {Row Begun Decision Verdict Kept Started Decided Told : Type 0} (see : Row → Kept) (started : Begun → Started)
    (decided : Decision → Decided) (told : Verdict → Told) (d : Graph) (depth : ℕ → ℕ) (m : Source Kept Started Decided Told)
    (cost : Kept → ℕ) (begun_weight : Started → ℕ) (weight : Decided → ℕ) where
  -- rows, running leaves and open containers together
  abbrev pub lists_cost : List (RowAt Row) → List (LeafAt Begun) → List (OpenAt Decision Verdict) → ℕ
  lists_cost rows running opens =
      rows_cost see cost rows + running_cost started begun_weight running + opens_cost decided told d m.items weight opens

  -- No state to which a run leads costs more than this, and one in which nothing may happen any more costs as much.
  pub record IsPriced (meant : ℕ) : Type 0 where
    pub within : (rows : List (RowAt Row)) (running : List (LeafAt Begun)) (opens : List (OpenAt Decision Verdict))
        → IsReached d depth m (state_of see started decided told rows running opens)
        → IsInKeyOrder instance_cmp (λ (r : RowAt Row). r.instance) rows
        → IsInKeyOrder instance_cmp (λ (l : LeafAt Begun). l.instance) running
        → IsInKeyOrder instance_cmp (λ (o : OpenAt Decision Verdict). o.instance) opens
        → lists_cost rows running opens ≤ meant
    pub whole : (rows : List (RowAt Row)) (running : List (LeafAt Begun)) (opens : List (OpenAt Decision Verdict))
        → IsReached d depth m (state_of see started decided told rows running opens)
        → IsInKeyOrder instance_cmp (λ (r : RowAt Row). r.instance) rows
        → IsInKeyOrder instance_cmp (λ (l : LeafAt Begun). l.instance) running
        → IsInKeyOrder instance_cmp (λ (o : OpenAt Decision Verdict). o.instance) opens
        → IsOver d m (state_of see started decided told rows running opens) → lists_cost rows running opens ≡ meant
