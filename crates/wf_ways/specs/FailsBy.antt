-- WHERE A TABLE FAILS, by its rows: one that isn't such as is called for where it stands, one that stands where none is called for, and one
-- that is missing where the definition or the row of a container calls for it.
use Rattle.std.specs.Prelude.{◌≡◌, ◌↔◌, ℕ, Bool, true, false, Some, None}
use Rattle.wf_layers.specs.Definition.{Graph}
use Rattle.wf_layers.specs.Address.{Address, Table}
use Rattle.wf_layers.specs.Seen.{Once}
use Rattle.wf_layers.specs.Shape.{Reading}
use Rattle.wf_shape.specs.Standing.{called, fails, standing, uncalled}
use Rattle.wf_ways.specs.CalledBy.{CalledBy}

module _ {Row : Type 0} (read : Reading Row) (is_skipped : Row → Bool) (fits : ℕ → Bool → Row → Bool) (r : Table Row) (d : Graph) where
  pub data FailsBy (y : Address) : Type 0 where
    wrong : (row : Row) (skipped : Bool) → r y ≡ Some row → standing read is_skipped fits r d y ≡ called skipped
        → fits y.name skipped row ≡ false → FailsBy y
    surplus : (row : Row) → r y ≡ Some row → standing read is_skipped fits r d y ≡ uncalled → FailsBy y
    missing : r y ≡ None → CalledBy read is_skipped fits r d y → FailsBy y

  -- an address fails exactly there
  abbrev pub FailsByARow : Type 0
  FailsByARow = Once d → (y : Address) → (fails read is_skipped fits r d y ≡ true) ↔ FailsBy y
