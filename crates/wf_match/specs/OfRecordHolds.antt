-- What it means that a record is as a test expects it, without any pointer.
use Rattle.std.specs.Prelude.{◌≡◌, ℕ, List, ◌&&◌, Contains, codes, [], ◌∷◌, Some, None, Bool, true, false}
use Rattle.wf_json.specs.Pointer.{member_step}
use Rattle.wf_match.specs.Holds.{Holds, IsOne}
use Rattle.wf_match.specs.OfRecord.{tells_actions, row_pointer}
use Rattle.wf_match.specs.Rows.{rows_of, row_of, place_of}
use Rattle.wf_match.specs.Told.{Told}
use Rattle.wf_val.specs.Get.{get, is_object}
use Rattle.wf_val.specs.ValueTree.{ValueTree, object, Member, members, pairs}

-- the members of an object; no other value has any
abbrev pub members_of : ValueTree → List Member
members_of (object ms) = pairs ms
members_of t = []

-- whether a member has what is expected of actions, by their addresses
abbrev pub is_by_address : List ℕ → ValueTree → Bool
is_by_address k e = tells_actions k && is_object e

-- what is expected of each address holds of its row, and it has one
abbrev pub RowsHold : List Member → List ValueTree → Type 0
RowsHold es rows = (address : List ℕ) → (e : ValueTree) → Contains es (address, e) → Holds e (row_of address rows)

pub record MembersHold (es : List Member) (r : ValueTree) : Type 0 where
  pub members : (k : List ℕ) → (e : ValueTree) → Contains es (k, e) → is_by_address k e ≡ false → Holds e (get k r)
  pub actions : (k : List ℕ) → (e : ValueTree) → Contains es (k, e) → is_by_address k e ≡ true → RowsHold (members_of e) (rows_of r)

-- the record is as expected
abbrev pub RecordHolds : ValueTree → ValueTree → Type 0
RecordHolds (object es) r = MembersHold (pairs es) r
RecordHolds e r = Holds e (Some r)

-- A difference of a record is one: in a member, in the row of an address, or there is no row of an address.
pub data IsOneOf (es : List Member) (r : ValueTree) (d : Told) : Type 0 where
  in_member : (k : List ℕ) (e : ValueTree) → Contains es (k, e) → is_by_address k e ≡ false → IsOne (member_step k) e (get k r) d
      → IsOneOf es r d
  in_row : (k : List ℕ) (e : ValueTree) → Contains es (k, e) → is_by_address k e ≡ true
      → (address : List ℕ) (x : ValueTree) → Contains (members_of e) (address, x)
      → (place : ℕ) → place_of address (rows_of r) ≡ Some place → IsOne (row_pointer place) x (row_of address (rows_of r)) d
      → IsOneOf es r d
  no_row : (k : List ℕ) (e : ValueTree) → Contains es (k, e) → is_by_address k e ≡ true
      → (address : List ℕ) (x : ValueTree) → Contains (members_of e) (address, x)
      → row_of address (rows_of r) ≡ None
      → d ≡ record { pointer = codes "/rows"; expected = object (members ((address, x) ∷ [])); found = None }
      → IsOneOf es r d
