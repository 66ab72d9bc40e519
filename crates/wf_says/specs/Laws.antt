-- What the right shape of a record asks of the rows that fit, kind by kind.
use Rattle.std.specs.Prelude.{◌≡◌, Bool, true, Option}
use Rattle.wf_def.specs.ActionTree.{KindTree, foreach, until}
use Rattle.wf_def.specs.declared.sort.Sort.{Sort}
use Rattle.wf_data.specs.Record.{Row}
use Rattle.wf_says.specs.Says.{fits_kind, is_skipped}
use Rattle.wf_says.specs.Told.{items_said, rounds_said}

abbrev pub IsForeach : KindTree → Type 0
IsForeach (foreach over repetitions graph) = Unit {0}
IsForeach kind = ⊥

abbrev pub IsUntil : KindTree → Type 0
IsUntil (until test count fails graph) = Unit {0}
IsUntil kind = ⊥

-- a row that fits where a Skipped one has to be is Skipped, and a Skipped row that fits a loop says no iteration
pub record SkippedSaysNothing (sort : Option Sort) (kind : KindTree) (r : Row) : Type 0 where
  pub is_one : fits_kind sort kind true r ≡ true → is_skipped r ≡ true
  pub no_items : (skipped : Bool) → fits_kind sort kind skipped r ≡ true → is_skipped r ≡ true → IsForeach kind → items_said r ≡ 0
  pub no_rounds : (skipped : Bool) → fits_kind sort kind skipped r ≡ true → is_skipped r ≡ true → IsUntil kind → rounds_said r ≡ 0
