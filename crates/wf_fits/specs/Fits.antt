-- How an instance stands to the rows of a record, along the way to its action.
use Rattle.std.specs.Prelude.{ℕ, Bool, false, not, ◌||◌, List, [], ◌∷◌, Option, Some, None, option_map, if◌then◌else◌, nat_eq, nat_lt}
use Rattle.wf_layers.specs.Address.{Address, address}
use Rattle.wf_def.specs.ActionTree.{ActionTree, action_kind}
use Rattle.wf_def.specs.AllActions.{numbered}
use Rattle.wf_def.specs.DefTree.{DefTree}
use Rattle.wf_def.specs.declared.sort.Sort.{Sort}
use Rattle.wf_catalog.specs.Points.{graph_of}
use Rattle.wf_catalog.specs.Resubmitted.{rows_by}
use Rattle.wf_record.specs.Record.{Row, RowTree}
use Rattle.wf_catalog.specs.Says.{fits_kind, is_skipped}
use Rattle.wf_catalog.specs.SaysTold.{items_said, rounds_said}
use Rattle.wf_shape.specs.Standing.{Standing}
use Rattle.wf_turns.specs.Reading.{reading, taken_in}
use Rattle.wf_ways.specs.Along.{along}
use Rattle.wf_ways.specs.Way.{Into, whole, branch_of, item, round, Step, way}
use Rattle.wf_fits.specs.Sorts.{sort_at}

-- a row may be one of the action, where it has to be Skipped or not; of a number that no action has there is none
abbrev pub fits_as : Option Sort → Option ActionTree → Bool → Row → Bool
fits_as sort None skipped row = false
fits_as sort (Some a) skipped row = fits_kind sort (action_kind a) skipped row

abbrev pub fits_in : DefTree → ℕ → Bool → Row → Bool
fits_in d n skipped row = fits_as (sort_at d n) (numbered n d.top) skipped row

abbrev pub along_in : DefTree → List RowTree → List Step → Bool → List ℕ → List ℕ → Standing
along_in d rows = along (reading d) is_skipped (fits_in d) (rows_by d rows)

abbrev pub stands_in : DefTree → List RowTree → Address → Standing
stands_in d rows y = along_in d rows (way (graph_of d) y.name) false [] y.at

-- ---- what a row says at a step

-- What stands there is reached without an index, and perhaps has to be Skipped; or it takes an index below a number.
pub data Entry : Type 0 where
  through : (skipped : Bool) → Entry
  turns : (count : ℕ) → Entry

abbrev pub entry_by : Into → Option ActionTree → Row → Entry
entry_by whole o row = through (is_skipped row)
entry_by (branch_of k) o row = through (is_skipped row || not (nat_eq k (taken_in o row)))
entry_by item o row = turns (items_said row)
entry_by round o row = turns (rounds_said row)

-- the row, where it fits
abbrev pub fitting : (Row → Bool) → Option Row → Option Row
fitting fits None = None
fitting fits (Some row) = if fits row then Some row else None

-- past the row of a container, where that is there and fits
abbrev pub entry_past : DefTree → List RowTree → Step → Bool → List ℕ → Option Entry
entry_past d rows s skipped i =
    option_map (entry_by s.into (numbered s.container d.top))
    (fitting (fits_in d s.container skipped) (rows_by d rows (address s.container i)))

-- a first step, and those behind it
abbrev pub steps_of : Option (Step × List Step) → List Step
steps_of None = []
steps_of (Some p) = p.0 ∷ p.1

-- a first index that is below a number, and those behind it
abbrev pub turn_of : ℕ → List ℕ → Option (ℕ × List ℕ)
turn_of n [] = None
turn_of n (j ∷ more) = if nat_lt j n then Some (j, more) else None
