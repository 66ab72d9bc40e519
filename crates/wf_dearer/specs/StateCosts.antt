-- WHAT A STATE COSTS, however an engine keeps its tables: its rows, its running leaves and its open containers, each counted once.
use Rattle.std.specs.Prelude.{◌≡◌, ℕ, ◌+◌, List}
use Rattle.wf_layers.specs.Address.{Address}
use Rattle.wf_layers.specs.Definition.{Graph}
use Rattle.wf_layers.specs.Listed.{sum_of}
use Rattle.wf_layers.specs.Machine.{Opening, Running, State}
use Rattle.wf_meter.specs.Cost.{leaf_cost, open_cost}
use Rattle.wf_priced.specs.Priced.{TellsRows}

-- an entry of a table: where it stands, and what it is
abbrev pub Entry : Type 0 → Type 0
Entry A = Address × A

pub record StateCosts {Row Begun Decision Verdict : Type 0} (d : Graph) (items : Decision → ℕ) (cost : Row → ℕ) (begun_weight : Begun → ℕ)
    (weight : Decision → ℕ) (s : State Row Begun Decision Verdict) (total : ℕ) : Type 0 where
  pub rows : List (Entry Row)
  pub leaves : List (Entry (Running Begun))
  pub opens : List (Entry (Opening Decision Verdict))
  pub rows_are : TellsRows (λ e. e.0) (λ e. e.1) s.rows rows
  pub leaves_are : TellsRows (λ e. e.0) (λ e. e.1) s.running leaves
  pub opens_are : TellsRows (λ e. e.0) (λ e. e.1) s.opens opens
  pub total_is : total
      ≡ sum_of (λ e. cost e.1) rows + sum_of (λ e. leaf_cost begun_weight e.1) leaves
      + sum_of (λ e. open_cost d items weight e.0 e.1) opens
