-- Where a record differs from what a test expects of it. Each member is compared with the record's; the member `actions` has an object
-- for each address, which is compared with the row of that address.
use Rattle.std.specs.Prelude.{ℕ, List, [], ◌∷◌, ◌++◌, codes, Bool, bytes_eq, Option, Some, None, if◌then◌else◌, slice_get}
use Rattle.wf_json.specs.Pointer.{item_step, member_step}
use Rattle.wf_match.specs.Differences.{differences, one}
use Rattle.wf_match.specs.Rows.{rows_of, place_of}
use Rattle.wf_match.specs.Told.{Told}
use Rattle.wf_val.specs.Get.{get}
use Rattle.wf_val.specs.ValueTree.{ValueTree, object, Member, pairs, members}

-- the pointer to the row at a place
abbrev pub row_pointer : ℕ → List ℕ
row_pointer place = codes "/rows" ++ item_step place

-- a row: where there is none of the address, the address stands with what is expected of it
abbrev pub in_row : List ValueTree → List ℕ → ValueTree → Option ℕ → List Told
in_row rows address e None = one (codes "/rows") (object (members ((address, e) ∷ []))) None
in_row rows address e (Some place) = differences (row_pointer place) e (slice_get rows place)

abbrev pub in_rows : List ValueTree → List Member → List Told
in_rows rows [] = []
in_rows rows (m ∷ ms) = in_row rows m.0 m.1 (place_of m.0 rows) ++ in_rows rows ms

-- whether a member tells what is expected of actions
abbrev pub tells_actions : List ℕ → Bool
tells_actions k = bytes_eq k (codes "actions")

-- a member of what is expected
abbrev pub in_member : List ℕ → ValueTree → ValueTree → List Told
in_member k (object es) r =
    if tells_actions k then in_rows (rows_of r) (pairs es) else differences (member_step k) (object es) (get k r)
in_member k e r = differences (member_step k) e (get k r)

abbrev pub in_record : List Member → ValueTree → List Told
in_record [] r = []
in_record (m ∷ ms) r = in_member m.0 m.1 r ++ in_record ms r

-- the differences of a record
abbrev pub record_differences : ValueTree → ValueTree → List Told
record_differences (object es) r = in_record (pairs es) r
record_differences e r = differences [] e (Some r)
