-- WHERE A RECORD HASN'T THE RIGHT SHAPE, by the addresses that a record names: how they stand to its rows is said by the laws on shape, by
-- the number of the action of the name. A row of a name that no action has is one too many.
use Rattle.std.specs.Prelude.{Bool, List, Option}
use Rattle.wf_val.specs.declared.address.Address.{Address}
use Rattle.wf_def.specs.ActionTree.{ActionTree}
use Rattle.wf_def.specs.DefTree.{DefTree}
use Rattle.wf_record.specs.Record.{RowTree}
use Rattle.wf_catalog.specs.Says.{is_skipped}
use Rattle.wf_fits.specs.Reading.{reading}
use Rattle.wf_fits.specs.Fits.{fits_in}
use Rattle.wf_shaped.specs.Least.{IsLeastAt}
use Rattle.wf_shaped.specs.Told.{fails_named, judged, missing_at_top, told, told_as, told_by}
use Rattle.wf_shaped.specs.declared.judged.Judged.{Judged}

abbrev pub fails_at : DefTree → List RowTree → Address → Bool
fails_at d rows y = fails_named (reading d) is_skipped (fits_in d) d rows y

-- THE LEAST ADDRESS THAT FAILS; none, where no address does
abbrev pub IsLeastFailing : DefTree → List RowTree → Option Address → Type 0
IsLeastFailing d rows o = IsLeastAt (fails_at d rows) o

-- ---- as the rows are gone over

abbrev pub judged_in : DefTree → List RowTree → ActionTree → RowTree → Judged
judged_in d rows a r = judged (reading d) is_skipped (fits_in d) d rows a r

abbrev pub told_judged : DefTree → List RowTree → RowTree → ActionTree → Judged → List Address
told_judged d rows r a j = told_as (reading d) is_skipped (fits_in d) d rows r a j

abbrev pub told_by_action : DefTree → List RowTree → RowTree → Option ActionTree → List Address
told_by_action d rows r o = told_by (reading d) is_skipped (fits_in d) d rows r o

abbrev pub told_in : DefTree → List RowTree → RowTree → List Address
told_in d rows r = told (reading d) is_skipped (fits_in d) d rows r

abbrev pub missing_at_top_in : DefTree → List RowTree → List Address
missing_at_top_in d rows = missing_at_top (reading d) is_skipped (fits_in d) d rows
