-- WHICH ADDRESSES FAIL, by the rows of a record: its own, where a row isn't right; and those that have no row where the definition or a row
-- that is right calls for one.
use Rattle.std.specs.Prelude.{ℕ, zero, suc, Bool, false, List, [], ◌∷◌, ◌++◌, filter, flat_map, map, Option, Some, None, is_none, is_some}
use Rattle.std.specs.Prelude.{if◌then◌else◌}
use Rattle.wf_layers.specs.Address.{address}
use Rattle.wf_layers.specs.Shape.{Reading}
use Rattle.wf_val.specs.declared.address.Address.{Address}
use Rattle.wf_def.specs.ActionTree.{ActionTree, action_kind, action_name, action_number, actions_in, KindTree, foreach, until}
use Rattle.wf_def.specs.DefTree.{DefTree}
use Rattle.wf_record.specs.Record.{Row, RowTree, find_row}
use Rattle.wf_shape.specs.Standing.{Standing, called, fails, unsaid, uncalled}
use Rattle.wf_ways.specs.Along.{along}
use Rattle.wf_ways.specs.Way.{way}
use Rattle.wf_catalog.specs.Points.{action_named, graph_of}
use Rattle.wf_catalog.specs.References.{first_level}
use Rattle.wf_catalog.specs.Resubmitted.{rows_by}
use Rattle.wf_shaped.specs.declared.judged.Judged.{Judged}

-- ---- what the row of a container calls for inside it

-- the actions of a container's own graphs
abbrev pub listed : Option (List ActionTree) → List ActionTree
listed None = []
listed (Some as') = as'

abbrev pub held : KindTree → List ActionTree
held kind = listed (first_level kind)

-- so many numbers from k on
abbrev pub count_from : ℕ → ℕ → List ℕ
count_from k zero = []
count_from k (suc n) = k ∷ count_from (suc k) n

-- the iterations of a loop
abbrev pub turns_told : Reading Row → KindTree → Row → Option ℕ
turns_told read (foreach items repetitions graph) row = Some (read.items row)
turns_told read (until test count fails graph) row = Some (read.rounds row)
turns_told read kind row = None

-- the indexes of each action there: those of the container, and that of an iteration of a loop
abbrev pub turns_from : List ℕ → ℕ → ℕ → List (List ℕ)
turns_from at' k n = map (λ j. at' ++ j ∷ []) (count_from k n)

abbrev pub indexes_inside : List ℕ → Option ℕ → List (List ℕ)
indexes_inside at' None = at' ∷ []
indexes_inside at' (Some n) = turns_from at' 0 n

abbrev pub instances : List (List ℕ) → ActionTree → List Address
instances ats a = map (λ i. record { name = action_name a; at = i }) ats

abbrev pub instances_of : List (List ℕ) → List ActionTree → List Address
instances_of ats as' = flat_map (instances ats) as'

-- ---- what fails by a row

abbrev pub missing : List RowTree → List Address → List Address
missing rows ys = filter (λ y. is_none (find_row y rows)) ys

-- what has no row inside a container whose row is right
abbrev pub missing_by : Reading Row → List RowTree → ActionTree → RowTree → List Address
missing_by read rows a r =
    missing rows (instances_of (indexes_inside r.address.at (turns_told read (action_kind a) r.row)) (held (action_kind a)))

-- whether a row is right, by how it stands
abbrev pub judged_as : (Bool → Row → Bool) → Standing → Row → Judged
judged_as fits (called skipped) row = if fits skipped row then Judged.Right else Judged.Fails
judged_as fits unsaid row = Judged.Unsaid
judged_as fits uncalled row = Judged.Fails

module _ (read : Reading Row) (is_skipped : Row → Bool) (fits : ℕ → Bool → Row → Bool) (d : DefTree) (rows : List RowTree) where
  abbrev pub stands_at : ℕ → List ℕ → Standing
  stands_at n at' = along read is_skipped fits (rows_by d rows) (way (graph_of d) n) false [] at'

  abbrev pub judged : ActionTree → RowTree → Judged
  judged a r = judged_as (fits (action_number a)) (stands_at (action_number a) r.address.at) r.row

  abbrev pub told_as : RowTree → ActionTree → Judged → List Address
  told_as r a Judged.Right = missing_by read rows a r
  told_as r a Judged.Fails = r.address ∷ []
  told_as r a Judged.Unsaid = []

  -- a row of a name that no action has is one too many
  abbrev pub told_by : RowTree → Option ActionTree → List Address
  told_by r None = r.address ∷ []
  told_by r (Some a) = told_as r a (judged a r)

  abbrev pub told : RowTree → List Address
  told r = told_by r (action_named d r.address.name)

  abbrev pub missing_at_top : List Address
  missing_at_top = missing rows (instances_of ([] ∷ []) (actions_in d.top))

  -- ---- and at a single address

  abbrev pub fails_by : Option ActionTree → Address → Bool
  fails_by None y = is_some (find_row y rows)
  fails_by (Some a) y = fails read is_skipped fits (rows_by d rows) (graph_of d) (address (action_number a) y.at)

  abbrev pub fails_named : Address → Bool
  fails_named y = fails_by (action_named d y.name) y
