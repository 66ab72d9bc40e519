-- The record of a table: its rows in one sorted list.
use Rattle.std.specs.Prelude.{◌≡◌, ℕ, List, [], ◌∷◌, None}
use Rattle.std.specs.Cmp.Lexicographic.{slice_cmp}
use Rattle.std.specs.Ordering.{nat_cmp}
use Rattle.std.specs.FinMap.{FinMap, get}
use Rattle.wf_layers.specs.Address.{Address, Table}

-- Rows go by name, and then by indexes, outermost first.
abbrev pub key : Address → List ℕ
key x = x.name ∷ x.at

abbrev pub Record : Type 0 → Type 0
Record Row = FinMap (slice_cmp nat_cmp) Row

-- It has the rows of the table, and no others.
pub record IsRecord {Row : Type 0} (t : Table Row) (rows : Record Row) : Type 0 where
  pub has : (x : Address) → get rows (key x) ≡ t x
  pub no_other : get rows [] ≡ None

-- Two records of one table are the same list.
abbrev pub RecordsAreOne : Type 0 → Type 0
RecordsAreOne Row = (t : Table Row) (m n : Record Row) → IsRecord t m → IsRecord t n → m ≡ n

abbrev pub HasRecord : {Row : Type 0} → Table Row → Type 0
HasRecord {Row} t = (rows : Record Row) × IsRecord t rows
