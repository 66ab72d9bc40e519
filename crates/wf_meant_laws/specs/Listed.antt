-- A record's rows stand for the table that they are read from.
use Rattle.std.specs.Prelude.{◌≡◌, List, map}
use Rattle.std.specs.Cmp.Lexicographic.{slice_cmp}
use Rattle.std.specs.Ordering.{nat_cmp}
use Rattle.wf_lists.specs.KeyOrder.{IsInKeyOrder}
use Rattle.wf_layers.specs.Address.{Address, Table}
use Rattle.wf_layers.specs.Listed.{Lists}
use Rattle.wf_layers.specs.Record.{key}
use Rattle.wf_seen_laws.specs.DefTree.{DefTree}
use Rattle.wf_record.specs.Record.{Row, RowTree}
use Rattle.wf_instance.specs.Look.{instance}
use Rattle.wf_instance.specs.Record.{rows_of}

-- a row at its address
abbrev pub Entry : Type 0
Entry = Address × Row

abbrev pub told_as : DefTree → Entry → RowTree
told_as d entry = record { address = instance d entry.0; row = entry.1 }

-- they are those of the table, each once, in ascending order of the actions' numbers, and of one action in that of the indexes
pub record StandFor (d : DefTree) (rows : Table Row) : Type 0 where
  pub entries : List Entry
  pub told : rows_of d rows ≡ map (told_as d) entries
  pub all : Lists (λ (entry : Entry). entry.0) (λ entry. entry.1) rows entries
  pub ordered : IsInKeyOrder (slice_cmp nat_cmp) (λ (entry : Entry). key entry.0) entries
