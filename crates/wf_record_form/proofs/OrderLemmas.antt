-- The rows of a value of the form stand in the order of their addresses.
use Rattle.std.proofs.Common.{◌≡◌, ℕ, suc, ℤ, pos, negsuc, List, [], ◌∷◌, ◌++◌, map, slice_get, Bool, true, false, not, cond, Option}
use Rattle.std.proofs.Common.{Some, None, option_map, Ok, Ordering, Less, Equal, Greater}
use Rattle.std.proofs.Common.{refl, sym, ap, ap₂, ◌∙◌, subst, append-nil, append_assoc, arith}
use Rattle.std.proofs.lemmas.List.Elements.{Contains-append_right}
use Rattle.std.proofs.lemmas.Map.Lookups.{exact_bytes}
use Rattle.std.proofs.lemmas.Option.{none-some}
use Rattle.std.specs.List.{AllByRecursion, Contains}
use Rattle.std.specs.Ordering.{is_eq, is_lt}
use Rattle.std.specs.Prelude.{codes}
use Rattle.wf_lists.specs.KeyOrder.{IsAboveKeys, IsInKeyOrder}
use Rattle.wf_asked.specs.Asked.{is_index, is_name}
use Rattle.wf_json.specs.Pointer.{least}
use Rattle.wf_json.proofs.PointerLemmas.{least-none}
use Rattle.wf_places.specs.Amiss.{IsAmiss, wrong, missing, beside, in_member, in_item}
use Rattle.wf_places.specs.Form.{places}
use Rattle.wf_places.proofs.AmissLemmas.{amiss_listed}
use Rattle.wf_val.specs.Address.{address_cmp, address_total}
use Rattle.wf_val.specs.Get.{get, value_of}
use Rattle.wf_val.specs.NameOrder.{bytes_cmp, find_named}
use Rattle.wf_val.specs.ValueTree.{ValueTree, null, boolean, number, text, list, object, ValueTrees, items, MemberTrees, pairs, Member}
use Rattle.wf_val.specs.declared.address.Address.{Address}
use Rattle.wf_record_form.specs.OfVal.{if_known, if_of_form, of_val, record_places, version_in}
use Rattle.wf_record_form.specs.Reading.{address_said, index_in, items_or_none, row_of, rows_in, text_or_empty}
use Rattle.wf_record.specs.Record.{RecordTree, RowTree, address_of}
use Rattle.wf_record.specs.Seen.{row_tree}
use Rattle.wf_record.specs.declared.row.Row.{Row}
use Rattle.wf_record_form.specs.RecordForm.{address_in, are_unordered, flagged_item, indexes_after, is_right, named_at, part_item}
use Rattle.wf_record_form.specs.RecordForm.{part_member, record_form, row_address, unordered, unordered_after}
use Rattle.wf_record_form.specs.declared.part.Part.{Part}
use Rattle.wf_record_form.specs.declared.part.Version.{Version}

-- ---- a value in which nothing is amiss

abbrev IsFine : Part → ValueTree → Type 0
IsFine part t = (p : List ℕ) → IsAmiss record_form part t p → ⊥

first_of : {X : Type 0} (x : X) (xs : List X) → Contains (x ∷ xs) x
first_of x xs = (0, omega arith, refl)

none_in : {X : Type 0} (xs : List X) (x : X) → xs ≡ [] → Contains xs x → ⊥
none_in xs x is c = let d = subst (λ ys. Contains ys x) is c in let within = d.1 in omega arith

empty : {X : Type 0} (xs : List X) → ((x : X) → Contains xs x → ⊥) → xs ≡ []
empty [] none = refl
empty (x ∷ xs) none = absurd (none x (first_of x xs))

is_fine : (part : Part) (t : ValueTree) → places record_form part t ≡ [] → IsFine part t
is_fine part t is p amiss = none_in (places record_form part t) p is (amiss_listed record_form amiss)

sure : (b : Bool) → (b ≡ false → ⊥) → b ≡ true
sure true never = refl
sure false never = absurd (never refl)

right : (part : Part) (t : ValueTree) → IsFine part t → is_right part t ≡ true
right part t fine = sure (is_right part t) (λ is. fine [] (wrong is))

abbrev pair : List ℕ → ValueTree → Member
pair a b = (a, b)

listed : (name : List ℕ) (ms : List Member) (u : ValueTree) → value_of name ms ≡ Some u → Contains ms (name, u)
listed name [] u is = absurd (none-some u is)
listed name (m ∷ ms) u is = at_first (bytes_cmp name m.0) refl is (listed name ms u)
  where
    same : name ≡ m.0 → m.1 ≡ u → m ≡ (name, u)
    same k v = ap₂ pair (sym k) v

    at_first : (o : Ordering) → bytes_cmp name m.0 ≡ o
        → option_map (λ (q : Member). q.1) (cond (is_eq o) (Some m) (find_named (λ (q : Member). q.0) name ms)) ≡ Some u
        → (value_of name ms ≡ Some u → Contains ms (name, u)) → Contains (m ∷ ms) (name, u)
    at_first Equal tie is later = let k = exact_bytes name m.0 tie in let v : m.1 ≡ u = cc in (0, omega arith, same k v)
    at_first Less tie is later =
        Contains-append_right (m ∷ []) ms (name, u) (later is)
    at_first Greater tie is later =
        Contains-append_right (m ∷ []) ms (name, u) (later is)

member_fine : (part sub : Part) (ms : MemberTrees) (name : List ℕ) (u : ValueTree) → IsFine part (object ms)
    → value_of name (pairs ms) ≡ Some u → part_member part name ≡ Some sub → IsFine sub u
member_fine part sub ms name u fine is role p amiss = fine _ (in_member (listed name (pairs ms) u is) role amiss)

item_fine : (part sub : Part) (ts : ValueTrees) → IsFine part (list ts) → part_item part ≡ Some sub
    → (i : ℕ) (u : ValueTree) → slice_get (items ts) i ≡ Some u → IsFine sub u
item_fine part sub ts fine role i u at' p amiss = fine _ (in_item i at' role amiss)

-- ---- the address of a row

index_of : (t : ValueTree) → is_index t ≡ true → t ≡ number (pos (index_in t))
index_of null is = absurd (cc)
index_of (boolean b) is = absurd (cc)
index_of (number n) is = of_sign n is
  where
    of_sign : (n : ℤ) → is_index (number n) ≡ true → number n ≡ number (pos (index_in (number n)))
    of_sign (pos k) is = refl
    of_sign (negsuc k) is = absurd (cc)
index_of (text s) is = absurd (cc)
index_of (list ts) is = absurd (cc)
index_of (object ms) is = absurd (cc)

indexes_said : (done : List ℕ) (ts : List ValueTree) → ((i : ℕ) (u : ValueTree) → slice_get ts i ≡ Some u → is_index u ≡ true)
    → indexes_after done ts ≡ Some (done ++ map index_in ts)
indexes_said done [] all = ap (λ ns. Some ns) (sym (append-nil done))
indexes_said done (t ∷ ts) all =
    let k : ℕ = index_in t in
    let is : t ≡ number (pos k) = index_of t (all 0 t refl) in
    ap (λ (u : ValueTree). indexes_after done (u ∷ ts)) is
    ∙ indexes_said (done ++ k ∷ []) ts (λ i u at'. all (suc i) u at')
    ∙ ap (λ ns. Some ns) (append_assoc done (k ∷ []) (map index_in ts))

-- what is in a member is there
there : (name : List ℕ) (t : ValueTree) (part : Part) (o : Option ValueTree) → get name t ≡ o → Contains (record_form.needed part) name
    → IsFine part t → (u : ValueTree) × (o ≡ Some u)
there name t part None is needed fine = absurd (fine _ (missing needed is))
there name t part (Some u) is needed fine = (u, refl)

name_said : (u : ValueTree) → is_name 80 u ≡ true → u ≡ text (text_or_empty (Some u))
name_said null is = absurd (cc)
name_said (boolean b) is = absurd (cc)
name_said (number n) is = absurd (cc)
name_said (text s) is = refl
name_said (list ts) is = absurd (cc)
name_said (object ms) is = absurd (cc)

at_said : (u : ValueTree) → IsFine Part.At u → (s : List ℕ)
    → address_in (Some (text s)) (Some u) ≡ Some (record { name = s; at = map index_in (items_or_none (Some u)) })
at_said null fine s = let is = right Part.At null fine in absurd (cc)
at_said (boolean b) fine s = let is = right Part.At (boolean b) fine in absurd (cc)
at_said (number n) fine s = let is = right Part.At (number n) fine in absurd (cc)
at_said (text x) fine s = let is = right Part.At (text x) fine in absurd (cc)
at_said (list ts) fine s =
    ap (named_at s) (indexes_said [] (items ts) (λ i u at'. right Part.Index u (item_fine Part.At Part.Index ts fine refl i u at')))
at_said (object ms) fine s = let is = right Part.At (object ms) fine in absurd (cc)

row_named : (v : Version) (t : ValueTree) → IsFine (Part.Row v) t → row_address t ≡ Some (address_said t)
row_named v null fine = let is = right (Part.Row v) null fine in absurd (cc)
row_named v (boolean b) fine = let is = right (Part.Row v) (boolean b) fine in absurd (cc)
row_named v (number n) fine = let is = right (Part.Row v) (number n) fine in absurd (cc)
row_named v (text s) fine = let is = right (Part.Row v) (text s) fine in absurd (cc)
row_named v (list ts) fine = let is = right (Part.Row v) (list ts) fine in absurd (cc)
row_named v (object ms) fine =
    let name = there (codes "name") (object ms) (Part.Row v) (value_of (codes "name") (pairs ms)) refl (5, omega arith, refl) fine in
    let at' = there (codes "at") (object ms) (Part.Row v) (value_of (codes "at") (pairs ms)) refl (0, omega arith, refl) fine in
    joined (value_of (codes "name") (pairs ms)) (value_of (codes "at") (pairs ms)) name.0 at'.0 name.1 at'.1
    (right Part.Name name.0 (member_fine (Part.Row v) Part.Name ms (codes "name") name.0 fine name.1 refl))
    (member_fine (Part.Row v) Part.At ms (codes "at") at'.0 fine at'.1 refl)
  where
    joined : (n a : Option ValueTree) (u w : ValueTree) → n ≡ Some u → a ≡ Some w → is_name 80 u ≡ true → IsFine Part.At w
        → address_in n a ≡ Some (record { name = text_or_empty n; at = map index_in (items_or_none a) })
    joined n a u w n_is a_is named fine =
        rw (n_is, a_is) (ap (λ (x : ValueTree). address_in (Some x) (Some w)) (name_said u named) ∙ at_said w fine (text_or_empty (Some u)))

-- ---- rows in order

below : (a b : Address) (rs : List RowTree) → address_cmp a b ≡ Less → AllByRecursion (λ r. address_cmp b (address_of r) ≡ Less) rs
    → AllByRecursion (λ r. address_cmp a (address_of r) ≡ Less) rs
below a b [] lt all = tt
below a b (r ∷ rs) lt all = (address_total.trans a b (address_of r) lt all.0, below a b rs lt all.1)

less : (o : Ordering) → not (is_lt o) ≡ false → o ≡ Less
less Less is = refl
less Equal is = absurd (cc)
less Greater is = absurd (cc)

unflagged : (b : Bool) (place : ℕ) (ps : List (List ℕ)) → flagged_item b place ++ ps ≡ [] → (b ≡ false) × (ps ≡ [])
unflagged true place ps is = absurd (cc)
unflagged false place ps is = (refl, is)

abbrev AllNamed : List ValueTree → Type 0
AllNamed ts = AllByRecursion (λ t. row_address t ≡ Some (address_said t)) ts

ordered : (a : Address) (place : ℕ) (ts : List ValueTree) → AllNamed ts → unordered_after (Some a) place ts ≡ []
    → AllByRecursion (λ r. address_cmp a (address_of r) ≡ Less) (map row_of ts) × IsInKeyOrder address_cmp address_of (map row_of ts)
ordered a place [] named is = (tt, tt)
ordered a place (t ∷ ts) named is =
    let b : Address = address_said t in
    let at_b =
    subst (λ (o : Option Address). flagged_item (are_unordered (Some a) o) place ++ unordered_after o (suc place) ts ≡ []) named.0 is in
    let flag = unflagged (are_unordered (Some a) (Some b)) place (unordered_after (Some b) (suc place) ts) at_b in
    let rest = ordered b (suc place) ts named.1 flag.1 in
    let lt = less (address_cmp a b) flag.0 in
    ((lt, below a b (map row_of ts) lt rest.0), rest)

all_ordered : (ts : List ValueTree) → AllNamed ts → unordered ts ≡ [] → IsInKeyOrder address_cmp address_of (map row_of ts)
all_ordered [] named is = tt
all_ordered (t ∷ ts) named is =
    let b : Address = address_said t in
    let at_b = subst (λ (o : Option Address). flagged_item (are_unordered None o) 0 ++ unordered_after o 1 ts ≡ []) named.0 is in
    ordered b 1 ts named.1 at_b

all_named : (v : Version) (ts : List ValueTree) → ((i : ℕ) (u : ValueTree) → slice_get ts i ≡ Some u → IsFine (Part.Row v) u) → AllNamed ts
all_named v [] fine = tt
all_named v (t ∷ ts) fine = (row_named v t (fine 0 t refl), all_named v ts (λ i u at'. fine (suc i) u at'))

rows_ordered : (v : Version) (o : Option ValueTree) → ((u : ValueTree) → o ≡ Some u → IsFine (Part.Rows v) u)
    → IsInKeyOrder address_cmp address_of (map row_of (items_or_none o))
rows_ordered v None fine = tt
rows_ordered v (Some null) fine = tt
rows_ordered v (Some (boolean b)) fine = tt
rows_ordered v (Some (number n)) fine = tt
rows_ordered v (Some (text s)) fine = tt
rows_ordered v (Some (list ts)) fine =
    let this = fine (list ts) refl in
    all_ordered (items ts) (all_named v (items ts) (item_fine (Part.Rows v) (Part.Row v) ts this refl))
    (empty (unordered (items ts)) (λ p c. this p (beside c)))
rows_ordered v (Some (object ms)) fine = tt

record_ordered : (v : Version) (t : ValueTree) → IsFine (Part.Record v) t → IsInKeyOrder address_cmp address_of (map row_of (rows_in t))
record_ordered v null fine = tt
record_ordered v (boolean b) fine = tt
record_ordered v (number n) fine = tt
record_ordered v (text s) fine = tt
record_ordered v (list ts) fine = tt
record_ordered v (object ms) fine =
    rows_ordered v (value_of (codes "rows") (pairs ms)) (λ u is. member_fine (Part.Record v) (Part.Rows v) ms (codes "rows") u fine is refl)

-- ---- a value that is a record

none_found : (t : ValueTree) (o : Option (List ℕ)) (r : RecordTree) → if_of_form t o ≡ Ok r → o ≡ None
none_found t None r is = refl
none_found t (Some p) r is = absurd (cc)

is_of_form : (t : ValueTree) (o : Option ℤ) (r : RecordTree) → if_known t o ≡ Ok r → least (record_places t) ≡ None
is_of_form t None r is = none_found t (least (record_places t)) r is
is_of_form t (Some n) r is = absurd (cc)

pub rows_in_order : (t : ValueTree) (r : RecordTree) → of_val t ≡ Ok r → IsInKeyOrder address_cmp address_of (map row_of (rows_in t))
rows_in_order t r is =
    let v : Version = version_in (get (codes "form") t) in
    record_ordered v t (is_fine (Part.Record v) t (least-none (record_places t) (is_of_form t _ r is)))

-- ---- rows one by one

all_before : (P : RowTree → Type 0) (xs : List RowTree) (y : RowTree) (rest : List RowTree) → AllByRecursion P (xs ++ y ∷ rest) → P y
all_before P [] y rest all = all.0
all_before P (x ∷ xs) y rest all = all_before P xs y rest all.1

next_of : (xs : List RowTree) (y : RowTree) (rest : List RowTree) → IsInKeyOrder address_cmp address_of (xs ++ y ∷ rest)
    → AllByRecursion (λ x. address_cmp (address_of x) (address_of y) ≡ Less) xs
next_of [] y rest order = tt
next_of (x ∷ xs) y rest order =
    (all_before (λ z. address_cmp (address_of x) (address_of z) ≡ Less) xs y rest order.0, next_of xs y rest order.1)

above_seen : (a : Address) (rows : List Row) → AllByRecursion (λ x. address_cmp (address_of x) a ≡ Less) (map row_tree rows)
    → IsAboveKeys address_cmp (λ (r : Row). r.address) a rows
above_seen a [] all = tt
above_seen a (r ∷ rows) all = (all.0, above_seen a rows all.1)

-- a row of rows in order is above those before it
pub next_above : (rows : List Row) (row : Row) (rest whole : List RowTree) → map row_tree rows ++ (row_tree row ∷ rest) ≡ whole
    → IsInKeyOrder address_cmp address_of whole → IsAboveKeys address_cmp (λ (r : Row). r.address) row.address rows
next_above rows row rest whole is order =
    above_seen row.address rows
    (next_of (map row_tree rows) (row_tree row) rest (subst (λ (rs : List RowTree). IsInKeyOrder address_cmp address_of rs) (sym is) order))
