-- A record has no differences exactly where it is as expected, and each difference is one.
use Rattle.std.proofs.Common.{◌≡◌, ◌↔◌, ◌+◌, ℕ, suc, List, [], ◌∷◌, ◌++◌, flat_map}
use Rattle.std.proofs.Common.{slice_get, Bool, true, false, ◌&&◌, cond, Option, Some, None, is_eq}
use Rattle.std.proofs.Common.{inl, inr, refl, sym, ap, ◌∙◌, subst, arith}
use Rattle.std.specs.List.{Contains}
use Rattle.wf_json.specs.Pointer.{member_step}
use Rattle.wf_match.specs.Differences.{differences}
use Rattle.wf_match.specs.Holds.{Holds, IsMet}
use Rattle.wf_match.specs.OfRecord.{in_member, in_record, in_row, in_rows, record_differences, row_pointer, tells_actions}
use Rattle.wf_match.specs.OfRecordHolds.{is_by_address, members_of, IsOneOf, in_member as of_member}
use Rattle.wf_match.specs.OfRecordHolds.{in_row as of_row, no_row, MembersHold, RecordHolds, RowsHold}
use Rattle.wf_match.specs.Rows.{address_of, place_from, place_of, row_of, rows_of}
use Rattle.wf_match.specs.Told.{Told}
use Rattle.wf_match.proofs.DifferenceLemmas.{none_iff_holds, one_of}
use Rattle.wf_match.proofs.Elements.{first_or_rest, none_in_nothing, flat_listed, flat_none, flat_part, formed_member}
use Rattle.wf_val.specs.Get.{get}
use Rattle.wf_val.specs.NameOrder.{bytes_cmp}
use Rattle.wf_val.specs.ValueTree.{ValueTree, null, boolean, number, text, list, object, MemberTrees, Member, pairs}
use Rattle.wf_val.specs.WellFormed.{IsWellFormed, AllMembersWellFormed}

-- ---- rows

-- a place and a row are those of one address
pub row_at_place : (address : List ℕ) (rows : List ValueTree) (i place : ℕ) → place_from i address rows ≡ Some place
    → (j : ℕ) × (place ≡ i + j) × (slice_get rows j ≡ row_of address rows)
row_at_place address [] i place is = absurd (cc)
row_at_place address (row ∷ rows) i place is =
    at (is_eq (bytes_cmp (address_of row) address)) refl (row_at_place address rows (suc i) place)
  where
    at : (b : Bool) → is_eq (bytes_cmp (address_of row) address) ≡ b
        → (place_from (suc i) address rows ≡ Some place → (j : ℕ) × (place ≡ suc i + j) × (slice_get rows j ≡ row_of address rows))
        → (j : ℕ) × (place ≡ i + j) × (slice_get (row ∷ rows) j ≡ row_of address (row ∷ rows))
    at true tie later =
        let here : i ≡ place = cc in
        (0, omega (arith, here), rw tie refl)
    at false tie later =
        let (j, far, found) = later (rw tie at is) in
        (suc j, omega (arith, far), found ∙ rw tie refl)

no_place_no_row : (address : List ℕ) (rows : List ValueTree) (i : ℕ) → place_from i address rows ≡ None → row_of address rows ≡ None
no_place_no_row address [] i is = refl
no_place_no_row address (row ∷ rows) i is =
    at (is_eq (bytes_cmp (address_of row) address)) refl (no_place_no_row address rows (suc i))
  where
    at : (b : Bool) → is_eq (bytes_cmp (address_of row) address) ≡ b
        → (place_from (suc i) address rows ≡ None → row_of address rows ≡ None) → row_of address (row ∷ rows) ≡ None
    at true tie later = absurd (cc)
    at false tie later = rw tie (later (rw tie at is))

row_there : (address : List ℕ) (rows : List ValueTree) (place : ℕ) → place_of address rows ≡ Some place
    → slice_get rows place ≡ row_of address rows
row_there address rows place is =
    let (j, far, found) = row_at_place address rows 0 place is in
    let same : place ≡ j = omega (arith, far) in
    ap (slice_get rows) same ∙ found

abbrev row_part : List ValueTree → Member → List Told
row_part rows m = in_row rows m.0 m.1 (place_of m.0 rows)

in_rows_flat : (rows : List ValueTree) (ms : List Member) → in_rows rows ms ≡ flat_map (row_part rows) ms
in_rows_flat rows [] = refl
in_rows_flat rows (m ∷ ms) = ap (λ ds. row_part rows m ++ ds) (in_rows_flat rows ms)

row_none_iff : (rows : List ValueTree) (address : List ℕ) (e : ValueTree) → IsWellFormed e → (place : Option ℕ)
    → place_of address rows ≡ place → (in_row rows address e place ≡ []) ↔ Holds e (row_of address rows)
row_none_iff rows address e formed None is = (
  (λ none. absurd (cc)),
  (λ holds. absurd (subst (λ f. IsMet e f) (no_place_no_row address rows 0 is) (at_root (row_of address rows) holds))),
)
  where
    at_root : (found : Option ValueTree) → Holds e found → IsMet e found
    at_root None holds = holds [] e refl
    at_root (Some t) holds = holds [] e refl
row_none_iff rows address e formed (Some place) is =
    rw (row_there address rows place is) (none_iff_holds (row_pointer place) e (row_of address rows) formed)

rows_none_iff : (rows : List ValueTree) (es : List Member) → ((k : List ℕ) (x : ValueTree) → Contains es (k, x) → IsWellFormed x)
    → (in_rows rows es ≡ []) ↔ RowsHold es rows
rows_none_iff rows es formed = (
  (λ none address e c. (row_none_iff rows address e (formed address e c) (place_of address rows) refl).0
      (flat_part (row_part rows) es (address, e) (sym (in_rows_flat rows es) ∙ none) c)),
  (λ holds. in_rows_flat rows es
      ∙ flat_none (row_part rows) es (λ m c. (row_none_iff rows m.0 m.1 (formed m.0 m.1 c) (place_of m.0 rows) refl).1 (holds m.0 m.1 c))),
)

-- ---- members

in_member_other : (k : List ℕ) (e r : ValueTree) → is_by_address k e ≡ false → in_member k e r ≡ differences (member_step k) e (get k r)
in_member_other k null r is = refl
in_member_other k (boolean b) r is = refl
in_member_other k (number n) r is = refl
in_member_other k (text s) r is = refl
in_member_other k (list ts) r is = refl
in_member_other k (object es) r is = at (tells_actions k) is
  where
    at : (b : Bool) → (b && true) ≡ false
        → cond b (in_rows (rows_of r) (pairs es)) (differences (member_step k) (object es) (get k r))
        ≡ differences (member_step k) (object es) (get k r)
    at true is = absurd (cc)
    at false is = refl

not_both : (b : Bool) → (b && false) ≡ true → ⊥
not_both true is = cc
not_both false is = cc

in_member_rows : (k : List ℕ) (e r : ValueTree) → is_by_address k e ≡ true → in_member k e r ≡ in_rows (rows_of r) (members_of e)
in_member_rows k null r is = absurd (not_both (tells_actions k) is)
in_member_rows k (boolean b) r is = absurd (not_both (tells_actions k) is)
in_member_rows k (number n) r is = absurd (not_both (tells_actions k) is)
in_member_rows k (text s) r is = absurd (not_both (tells_actions k) is)
in_member_rows k (list ts) r is = absurd (not_both (tells_actions k) is)
in_member_rows k (object es) r is = at (tells_actions k) is
  where
    at : (b : Bool) → (b && true) ≡ true
        → cond b (in_rows (rows_of r) (pairs es)) (differences (member_step k) (object es) (get k r)) ≡ in_rows (rows_of r) (pairs es)
    at true is = refl
    at false is = absurd (cc)

-- what is expected of addresses is well formed where the member is
formed_members : (e : ValueTree) → IsWellFormed e → (k : List ℕ) (x : ValueTree) → Contains (members_of e) (k, x) → IsWellFormed x
formed_members null formed k x c = absurd (none_in_nothing (k, x) c)
formed_members (boolean b) formed k x c = absurd (none_in_nothing (k, x) c)
formed_members (number n) formed k x c = absurd (none_in_nothing (k, x) c)
formed_members (text s) formed k x c = absurd (none_in_nothing (k, x) c)
formed_members (list ts) formed k x c = absurd (none_in_nothing (k, x) c)
formed_members (object es) formed k x c = formed_member es k x formed.1 c

-- what a member asks of a record
abbrev MemberHolds : List ℕ → ValueTree → ValueTree → Type 0
MemberHolds k e r =
    (is_by_address k e ≡ false → Holds e (get k r)) × (is_by_address k e ≡ true → RowsHold (members_of e) (rows_of r))

member_none_iff : (k : List ℕ) (e r : ValueTree) → IsWellFormed e → (in_member k e r ≡ []) ↔ MemberHolds k e r
member_none_iff k e r formed = (
  (λ none. (
    (λ is. (none_iff_holds (member_step k) e (get k r) formed).0 (sym (in_member_other k e r is) ∙ none)),
    (λ is. (rows_none_iff (rows_of r) (members_of e) (formed_members e formed)).0 (sym (in_member_rows k e r is) ∙ none)),
  )),
  (λ holds. at holds (is_by_address k e) refl),
)
  where
    at : MemberHolds k e r → (b : Bool) → is_by_address k e ≡ b → in_member k e r ≡ []
    at holds true is =
        in_member_rows k e r is ∙ (rows_none_iff (rows_of r) (members_of e) (formed_members e formed)).1 (holds.1 is)
    at holds false is = in_member_other k e r is ∙ (none_iff_holds (member_step k) e (get k r) formed).1 (holds.0 is)

abbrev member_part : ValueTree → Member → List Told
member_part r m = in_member m.0 m.1 r

in_record_flat : (ms : List Member) (r : ValueTree) → in_record ms r ≡ flat_map (member_part r) ms
in_record_flat [] r = refl
in_record_flat (m ∷ ms) r = ap (λ ds. member_part r m ++ ds) (in_record_flat ms r)

members_none_iff : (es : MemberTrees) (r : ValueTree) → AllMembersWellFormed es → (in_record (pairs es) r ≡ []) ↔ MembersHold (pairs es) r
members_none_iff es r formed = (
  (λ none. record {
    members = λ k e c. (part none k e c).0;
    actions = λ k e c. (part none k e c).1;
  }),
  (λ holds. in_record_flat (pairs es) r
      ∙ flat_none (member_part r) (pairs es) (λ m c. (member_none_iff m.0 m.1 r (formed_member es m.0 m.1 formed c)).1
      (holds.members m.0 m.1 c, holds.actions m.0 m.1 c))),
)
  where
    part : in_record (pairs es) r ≡ [] → (k : List ℕ) (e : ValueTree) → Contains (pairs es) (k, e) → MemberHolds k e r
    part none k e c =
        (member_none_iff k e r (formed_member es k e formed c)).0
        (flat_part (member_part r) (pairs es) (k, e) (sym (in_record_flat (pairs es) r) ∙ none) c)

pub record_none_iff : (e r : ValueTree) → IsWellFormed e → (record_differences e r ≡ []) ↔ RecordHolds e r
record_none_iff null r formed = none_iff_holds [] null (Some r) formed
record_none_iff (boolean b) r formed = none_iff_holds [] (boolean b) (Some r) formed
record_none_iff (number n) r formed = none_iff_holds [] (number n) (Some r) formed
record_none_iff (text s) r formed = none_iff_holds [] (text s) (Some r) formed
record_none_iff (list ts) r formed = none_iff_holds [] (list ts) (Some r) formed
record_none_iff (object es) r formed = members_none_iff es r formed.1

-- ---- each difference is one

row_one : (es : List Member) (r : ValueTree) (d : Told) (k : List ℕ) (e : ValueTree) → Contains es (k, e) → is_by_address k e ≡ true
    → (address : List ℕ) (x : ValueTree) → Contains (members_of e) (address, x) → IsWellFormed x
    → (place : Option ℕ) → place_of address (rows_of r) ≡ place → Contains (in_row (rows_of r) address x place) d → IsOneOf es r d
row_one es r d k e listed by address x asked formed None is c = elim (first_or_rest _ [] d c) [
  | inl same ↦ no_row k e listed by address x asked (no_place_no_row address (rows_of r) 0 is) (sym same)
  | inr none ↦ absurd (none_in_nothing d none)
]
row_one es r d k e listed by address x asked formed (Some place) is c =
    of_row k e listed by address x asked place is
    (one_of (row_pointer place) x (row_of address (rows_of r)) d formed
    (subst (λ f. Contains (differences (row_pointer place) x f) d) (row_there address (rows_of r) place is) c))

pub record_one : (es : MemberTrees) (r : ValueTree) (d : Told) → IsWellFormed (object es) → Contains (record_differences (object es) r) d
    → IsOneOf (pairs es) r d
record_one es r d formed c =
    let (m, listed, part) = flat_listed (member_part r) (pairs es) d (subst (λ ds. Contains ds d) (in_record_flat (pairs es) r) c) in
    at m listed part (is_by_address m.0 m.1) refl
  where
    at : (m : Member) → Contains (pairs es) m → Contains (in_member m.0 m.1 r) d → (b : Bool) → is_by_address m.0 m.1 ≡ b
        → IsOneOf (pairs es) r d
    at m listed c true is =
        let rows = subst (λ ds. Contains ds d) (in_member_rows m.0 m.1 r is ∙ in_rows_flat (rows_of r) (members_of m.1)) c in
        let (a, asked, part) = flat_listed (row_part (rows_of r)) (members_of m.1) d rows in
        let formed' = formed_members m.1 (formed_member es m.0 m.1 formed.1 listed) a.0 a.1 asked in
        row_one (pairs es) r d m.0 m.1 listed is a.0 a.1 asked formed' (place_of a.0 (rows_of r)) refl part
    at m listed c false is =
        of_member m.0 m.1 listed is
        (one_of (member_step m.0) m.1 (get m.0 r) d (formed_member es m.0 m.1 formed.1 listed)
        (subst (λ ds. Contains ds d) (in_member_other m.0 m.1 r is) c))
