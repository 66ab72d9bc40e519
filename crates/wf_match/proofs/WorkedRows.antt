-- Differences at worked values.
use Rattle.std.proofs.Common.{◌≡◌, ℕ, List, [], ◌∷◌, Option, Some, None, true, false, refl}
use Rattle.std.specs.Fmt.{digits}
use Rattle.std.specs.Prelude.{codes}
use Rattle.wf_match.specs.Differences.{differences}
use Rattle.wf_match.specs.Names.{is_named, record_names, row_names}
use Rattle.wf_match.specs.OfRecord.{record_differences}
use Rattle.wf_match.specs.Rows.{address_of, row_of}
use Rattle.wf_match.specs.Told.{Told}
use Rattle.wf_val.proofs.RowValues.{fields, items, plus, word, yes, no}
use Rattle.wf_val.specs.ValueTree.{ValueTree, Member, null, text}

abbrev tell : List ℕ → ValueTree → Option ValueTree → Told
tell p e found = record { pointer = p; expected = e; found = found }

abbrev of : ValueTree → ValueTree → List Told
of e t = differences [] e (Some t)

-- ---- values

equal-numbers : of (plus 1) (plus 1) ≡ []
equal-numbers = refl

-- no value of one kind is one of another
number-text : of (plus 1) (word "1") ≡ tell [] (plus 1) (Some (word "1")) ∷ []
number-text = refl

boolean-number : of yes (plus 1) ≡ tell [] yes (Some (plus 1)) ∷ []
boolean-number = refl

-- null is a value: it isn't absent
null-absent : of (fields ((codes "a", null) ∷ [])) (fields []) ≡ tell (codes "/a") null None ∷ []
null-absent = refl

null-null : of (fields ((codes "a", null) ∷ [])) (fields ((codes "a", null) ∷ [])) ≡ []
null-null = refl

-- what isn't named isn't compared, at any depth
further-members : of (fields ((codes "a", fields []) ∷ []))
    (fields ((codes "a", fields ((codes "b", no) ∷ [])) ∷ (codes "c", no) ∷ [])) ≡ []
further-members = refl

-- an empty object asks for an object
empty-object : of (fields []) (items []) ≡ tell [] (fields []) (Some (items [])) ∷ []
empty-object = refl

-- a list is equal or isn't: its items aren't asked for members
list-items : of (items (fields [] ∷ [])) (items (fields ((codes "a", no) ∷ []) ∷ []))
    ≡ tell [] (items (fields [] ∷ [])) (Some (items (fields ((codes "a", no) ∷ []) ∷ []))) ∷ []
list-items = refl

list-longer : of (items (plus 1 ∷ [])) (items (plus 1 ∷ plus 2 ∷ []))
    ≡ tell [] (items (plus 1 ∷ [])) (Some (items (plus 1 ∷ plus 2 ∷ []))) ∷ []
list-longer = refl

-- all differences are told, in the order of the expectation; names are escaped in pointers
two-inside :
    of (fields ((codes "a/b", fields ((codes "x", plus 1) ∷ (codes "y", plus 2) ∷ [])) ∷ (codes "m~n", no) ∷ []))
    (fields ((codes "a/b", fields ((codes "x", plus 2) ∷ [])) ∷ (codes "m~n", yes) ∷ []))
    ≡ tell (codes "/a~1b/x") (plus 1) (Some (plus 2)) ∷ tell (codes "/a~1b/y") (plus 2) None
    ∷ tell (codes "/m~0n") no (Some yes) ∷ []
two-inside = refl

-- below what isn't there, or is no object, nothing is told
absent-inside : of (fields ((codes "a", fields ((codes "b", no) ∷ [])) ∷ [])) (fields [])
    ≡ tell (codes "/a") (fields ((codes "b", no) ∷ [])) None ∷ []
absent-inside = refl

-- ---- records

abbrev row : List ℕ → List ValueTree → ValueTree → ValueTree
row name at' status =
    fields ((codes "at", items at') ∷ (codes "name", text name) ∷ (codes "status", status) ∷ [])

abbrev rows : List ValueTree
rows =
    row (codes "Lines") (plus 0 ∷ []) (word "Succeeded") ∷ row (codes "Lines") (plus 10 ∷ plus 2 ∷ []) (word "Failed")
    ∷ row (codes "Pay") [] (word "Skipped") ∷ []

abbrev done : ValueTree
done =
    fields ((codes "response", fields ((codes "statusCode", plus 409) ∷ []))
    ∷ (codes "rows", items rows) ∷ (codes "status", word "Failed") ∷ [])

abbrev acts : List Member → ValueTree
acts ms = fields ((codes "actions", fields ms) ∷ [])

abbrev is : ValueTree → ValueTree
is s = fields ((codes "status", s) ∷ [])

address-loops : address_of (row (codes "Lines") (plus 10 ∷ plus 2 ∷ []) null) ≡ codes "Lines/10/2"
unfolding digits
address-loops = refl

address-top : address_of (row (codes "Pay") [] null) ≡ codes "Pay"
address-top = refl

-- a value that is no row has no name
address-none : address_of null ≡ []
address-none = refl

-- of two rows with one text the first is looked at
first-row : row_of (codes "A/1") (row (codes "A") (plus 1 ∷ []) yes ∷ row (codes "A/1") [] no ∷ [])
    ≡ Some (row (codes "A") (plus 1 ∷ []) yes)
unfolding digits
first-row = refl

record-as_expected :
    record_differences
    (fields ((codes "actions", fields ((codes "Lines/10/2", is (word "Failed")) ∷ (codes "Pay", is (word "Skipped")) ∷ []))
    ∷ (codes "status", word "Failed") ∷ []))
    done
    ≡ []
unfolding digits
record-as_expected = refl

record-row_differs : record_differences (acts ((codes "Lines/10/2", is (word "Succeeded")) ∷ [])) done
    ≡ tell (codes "/rows/1/status") (word "Succeeded") (Some (word "Failed")) ∷ []
unfolding digits
record-row_differs = refl

-- an address without a row is told with what is expected of it
record-no_row : record_differences (acts ((codes "Lines/1", is (word "Failed")) ∷ [])) done
    ≡ tell (codes "/rows") (fields ((codes "Lines/1", is (word "Failed")) ∷ [])) None ∷ []
unfolding digits
record-no_row = refl

record-member :
    record_differences (fields ((codes "response", fields ((codes "statusCode", plus 200) ∷ []))
    ∷ (codes "status", word "Succeeded") ∷ [])) done
    ≡ tell (codes "/response/statusCode") (plus 200) (Some (plus 409))
    ∷ tell (codes "/status") (word "Succeeded") (Some (word "Failed")) ∷ []
record-member = refl

-- actions that are no object are compared as any member, and a record has none of the name
record-actions_no_object : record_differences (fields ((codes "actions", items []) ∷ [])) done
    ≡ tell (codes "/actions") (items []) None ∷ []
record-actions_no_object = refl

record-no_object : record_differences (plus 1) done ≡ tell [] (plus 1) (Some done) ∷ []
record-no_object = refl

-- ---- names

names-record : is_named (codes "actions") record_names ≡ true
names-record = refl

names-rows : is_named (codes "rows") record_names ≡ false
names-rows = refl

names-row : is_named (codes "attempts") row_names ≡ true
names-row = refl

names-row_other : is_named (codes "actions") row_names ≡ false
names-row_other = refl
