-- Rows, and where a reference leads, as contracts see them.
use Rattle.std.specs.Prelude.{ℕ, List, [], ◌∷◌, ◌++◌, map}
use Rattle.wf_layers.specs.Address.{Table}
use Rattle.wf_asks.specs.Instances.{rows_in}
use Rattle.wf_asks.specs.declared.known.RowAt.{RowAt}
use Rattle.wf_record.specs.Record as record_of
use Rattle.wf_record.specs.Seen.{row_tree}
use Rattle.wf_record.specs.declared.row.Row.{Row}
use Rattle.wf_catalog.specs.References as references
use Rattle.wf_catalog.specs.References.{every, last_of, latest, one, upto}
use Rattle.wf_views.specs.declared.spots.Spots.{Spots}

-- a row without its address
abbrev pub row_content : Row → record_of.Row
row_content r = (row_tree r).row

abbrev pub rows_seen : List (RowAt Row) → Table record_of.Row
rows_seen = rows_in row_content

-- inside these indexes
abbrev pub spots_seen : List ℕ → Spots → references.Spots
spots_seen at Spots.One = one at
spots_seen at (Spots.Every n) = every (map (λ j. at ++ j ∷ []) (upto n))
spots_seen at (Spots.Last n) = latest (last_of at n)
