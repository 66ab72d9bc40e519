-- A pointer is among those of `fails` exactly where there is a mismatch.
use Rattle.std.proofs.Common.{◌≡◌, ◌↔◌, ℕ, List, [], ◌∷◌, ◌++◌, ◌⊎◌, inl, inr, Bool, true, false, ◌&&◌, ◌||◌, Option, Some, None, is_some, refl, sym, ap, ◌∙◌, subst, arith, codes, slice_get}
use Rattle.std.specs.List.{Contains, list_all, list_any}
use Rattle.std.specs.Ordering.{is_eq}
use Rattle.std.specs.declared.cmp.Ordering.{Ordering}
use Rattle.std.proofs.lemmas.List.Elements.{Contains-append_right, Contains-append_cases, Contains-push_cases}
use Rattle.wf_places.specs.Pointer.{member_step, item_step}
use Rattle.wf_places.specs.Amiss.{IsAmiss, wrong, missing, beside, further, in_member as amiss_member, in_item as amiss_item}
use Rattle.wf_places.proofs.AmissLemmas.{listed_iff_amiss}
use Rattle.wf_val.specs.Get.{get}
use Rattle.wf_val.specs.ValueOrder.{order}
use Rattle.wf_val.specs.ValueTree.{ValueTree, null, boolean, number, text, list, object, ValueTrees, items, MemberTrees, pairs}
use Rattle.wf_val.proofs.ValueOrderLaws.{order-self, same_from_order}
use Rattle.wf_schema.specs.Asked.{is_of_type, is_of_named, is_of_types, has_name, has_required, is_same, is_listed, is_as_asked}
use Rattle.wf_schema.specs.Fails.{by_schema, fails, property, property_in, item_schema, items_schema}
use Rattle.wf_schema.specs.Mismatch.{NamesType, alone, among, IsMismatch, of_no_type, lacking, unlisted, in_member, in_item}

-- ---- elements

none_in_nothing : {X : Type 0} (y : X) → Contains [] y → ⊥
none_in_nothing y c = let within = c.1 in omega arith

first_listed : {X : Type 0} (x : X) (xs : List X) → Contains (x ∷ xs) x
first_listed x xs = (0, omega arith, refl)

later_listed : {X : Type 0} (x : X) (xs : List X) (y : X) → Contains xs y → Contains (x ∷ xs) y
later_listed x xs y c = Contains-append_right (x ∷ []) xs y c

first_or_rest : {X : Type 0} (x : X) (xs : List X) (y : X) → Contains (x ∷ xs) y → (x ≡ y) ⊎ Contains xs y
first_or_rest x xs y c = elim (Contains-append_cases (x ∷ []) xs y c) [
  | inl one ↦ elim (Contains-push_cases [] x y one) [ inl none ↦ absurd (none_in_nothing y none) | inr is ↦ inl is ]
  | inr rest ↦ inr rest
]

-- ---- tests

either_false : (a b : Bool) → (a && b) ≡ false → (a ≡ false) ⊎ (b ≡ false)
either_false true b is = inr is
either_false false b is = inl refl

first_false : (a b : Bool) → a ≡ false → (a && b) ≡ false
first_false true b is = cc
first_false false b is = refl

second_false : (a b : Bool) → b ≡ false → (a && b) ≡ false
second_false true b is = is
second_false false b is = refl

never_true : (b : Bool) → (b ≡ true → ⊥) → b ≡ false
never_true true refuted = absurd (refuted refl)
never_true false refuted = refl

or_false : (a b : Bool) → (a || b) ≡ false → (a ≡ false) × (b ≡ false)
or_false true b is = cc
or_false false b is = (refl, is)

-- no item passes where none of the list does, and the other way round
none_passes : {X : Type 0} (test : X → Bool) (xs : List X) (x : X) → list_any test xs ≡ false → Contains xs x → test x ≡ false
none_passes test [] x none c = absurd (none_in_nothing x c)
none_passes test (y ∷ xs) x none c =
    let (first, rest) = or_false (test y) (list_any test xs) none in
    elim (first_or_rest y xs x c) [ inl is ↦ ap test (sym is) ∙ first | inr later ↦ none_passes test xs x rest later ]

all_fail : {X : Type 0} (test : X → Bool) (xs : List X) → ((x : X) → Contains xs x → test x ≡ false) → list_any test xs ≡ false
all_fail test [] none = refl
all_fail test (y ∷ xs) none =
    rw (none y (first_listed y xs)) (all_fail test xs (λ x c. none x (later_listed y xs x c)))

-- an item fails where not all pass, and the other way round
one_fails : {X : Type 0} (test : X → Bool) (xs : List X) → list_all test xs ≡ false → (x : X) × Contains xs x × (test x ≡ false)
one_fails test [] is = cc
one_fails test (y ∷ xs) is = elim (either_false (test y) (list_all test xs) is) [
  | inl first ↦ (y, first_listed y xs, first)
  | inr rest ↦ let (x, c, refuted) = one_fails test xs rest in (x, later_listed y xs x c, refuted)
]

not_all_pass : {X : Type 0} (test : X → Bool) (xs : List X) (x : X) → Contains xs x → test x ≡ false → list_all test xs ≡ false
not_all_pass test [] x c refuted = absurd (none_in_nothing x c)
not_all_pass test (y ∷ xs) x c refuted = elim (first_or_rest y xs x c) [
  | inl is ↦ first_false (test y) (list_all test xs) (ap test is ∙ refuted)
  | inr later ↦ second_false (test y) (list_all test xs) (not_all_pass test xs x later refuted)
]

-- ---- types

named_alone : (v : ValueTree) (k name : List ℕ) → is_of_type k v ≡ false → NamesType (text k) name → is_of_type name v ≡ false
named_alone v k name refuted alone = refuted

named_among : (v : ValueTree) (ts : ValueTrees) (name : List ℕ) → list_any (is_of_named v) (items ts) ≡ false → NamesType (list ts) name
    → is_of_type name v ≡ false
named_among v ts name refuted (among c) = none_passes (is_of_named v) (items ts) (text name) refuted c

types_fail : (s v t : ValueTree) → get (codes "type") s ≡ Some t → is_of_types (Some t) v ≡ false → IsMismatch s v []
types_fail s v (text k) there refuted = of_no_type there (λ name named. named_alone v k name refuted named)
types_fail s v (list ts) there refuted = of_no_type there (λ name named. named_among v ts name refuted named)
types_fail s v null there refuted = of_no_type there (λ name named. elim named [ ])
types_fail s v (boolean b) there refuted = of_no_type there (λ name named. elim named [ ])
types_fail s v (number n) there refuted = of_no_type there (λ name named. elim named [ ])
types_fail s v (object ms) there refuted = of_no_type there (λ name named. elim named [ ])

type_fails : (s v : ValueTree) (o : Option ValueTree) → get (codes "type") s ≡ o → is_of_types o v ≡ false → IsMismatch s v []
type_fails s v None there refuted = cc
type_fails s v (Some t) there refuted = types_fail s v t there refuted

named_fails : (v t : ValueTree) (ts : ValueTrees) → Contains (items ts) t
    → ((name : List ℕ) → NamesType (list ts) name → is_of_type name v ≡ false) → is_of_named v t ≡ false
named_fails v (text k) ts c none = none k (among c)
named_fails v t ts c none = refl

types_refuse : (v t : ValueTree) → ((name : List ℕ) → NamesType t name → is_of_type name v ≡ false) → is_of_types (Some t) v ≡ false
types_refuse v (text k) none = none k alone
types_refuse v (list ts) none = all_fail (is_of_named v) (items ts) (λ t c. named_fails v t ts c none)
types_refuse v t none = refl

-- ---- members that are required

absent : (o : Option ValueTree) → is_some o ≡ false → o ≡ None
absent None is = refl
absent (Some t) is = cc

name_fails : (ms : MemberTrees) (t : ValueTree) → has_name (object ms) t ≡ false
    → (name : List ℕ) × (t ≡ text name) × (get name (object ms) ≡ None)
name_fails ms (text k) refuted = (k, refl, absent (get k (object ms)) refuted)
name_fails ms t refuted = cc

required_fails : (s : ValueTree) (o : Option ValueTree) (v : ValueTree) → get (codes "required") s ≡ o → has_required o v ≡ false
    → IsMismatch s v []
required_fails s (Some (list names)) (object ms) there refuted =
    let (t, c, lacks) = one_fails (has_name (object ms)) (items names) refuted in
    let (name, is, none) = name_fails ms t lacks in
    lacking there (subst (Contains (items names)) is c) none
required_fails s o v there refuted = cc

-- ---- values that are listed

same_itself : (v : ValueTree) → is_same v v ≡ true
same_itself v = ap is_eq (order-self v)

is_equal : (o : Ordering) → is_eq o ≡ true → o ≡ Ordering.Equal
is_equal Ordering.Less is = cc
is_equal Ordering.Equal is = refl
is_equal Ordering.Greater is = cc

enum_fails : (s v : ValueTree) (o : Option ValueTree) → get (codes "enum") s ≡ o → is_listed o v ≡ false → IsMismatch s v []
enum_fails s v (Some (list ts)) there refuted =
    unlisted there (λ c. let other = none_passes (is_same v) (items ts) v refuted c in let itself = same_itself v in cc)
enum_fails s v o there refuted = cc

enum_refuses : (v : ValueTree) (ts : ValueTrees) → (Contains (items ts) v → ⊥) → is_listed (Some (list ts)) v ≡ false
enum_refuses v ts none =
    all_fail (is_same v) (items ts) (λ t c. never_true (is_same v t) (λ same. none (subst (Contains (items ts))
    (sym (same_from_order v t (is_equal (order v t) same))) c)))

-- ---- the value itself

own_fails : (s v : ValueTree) → is_as_asked s v ≡ false → IsMismatch s v []
own_fails s v refuted =
    elim (either_false (is_of_types (get (codes "type") s) v) (has_required (get (codes "required") s) v
    && is_listed (get (codes "enum") s) v) refuted) [
      | inl types ↦ type_fails s v (get (codes "type") s) refl types
      | inr rest ↦ elim (either_false (has_required (get (codes "required") s) v) (is_listed (get (codes "enum") s) v) rest) [
        | inl required ↦ required_fails s (get (codes "required") s) v refl required
        | inr listed ↦ enum_fails s v (get (codes "enum") s) refl listed
      ]
    ]

types_refused : (s v : ValueTree) (t : ValueTree) → get (codes "type") s ≡ Some t
    → ((name : List ℕ) → NamesType t name → is_of_type name v ≡ false) → is_as_asked s v ≡ false
types_refused s v t there none =
    first_false (is_of_types (get (codes "type") s) v) (has_required (get (codes "required") s) v && is_listed (get (codes "enum") s) v)
    (ap (λ o. is_of_types o v) there ∙ types_refuse v t none)

required_refused : (s : ValueTree) (ms : MemberTrees) (names : ValueTrees) (name : List ℕ) → get (codes "required") s ≡ Some (list names)
    → Contains (items names) (text name) → get name (object ms) ≡ None → is_as_asked s (object ms) ≡ false
required_refused s ms names name there c none =
    let v = object ms in
    second_false (is_of_types (get (codes "type") s) v) (has_required (get (codes "required") s) v && is_listed (get (codes "enum") s) v)
    (first_false (has_required (get (codes "required") s) v) (is_listed (get (codes "enum") s) v)
    (ap (λ o. has_required o v) there ∙ not_all_pass (has_name v) (items names) (text name) c (ap is_some none)))

enum_refused : (s v : ValueTree) (ts : ValueTrees) → get (codes "enum") s ≡ Some (list ts) → (Contains (items ts) v → ⊥)
    → is_as_asked s v ≡ false
enum_refused s v ts there none =
    second_false (is_of_types (get (codes "type") s) v) (has_required (get (codes "required") s) v && is_listed (get (codes "enum") s) v)
    (second_false (has_required (get (codes "required") s) v) (is_listed (get (codes "enum") s) v)
    (ap (λ o. is_listed o v) there ∙ enum_refuses v ts none))

-- ---- what is in it

property_there : (name : List ℕ) (o : Option ValueTree) (part : ValueTree) → property_in name o ≡ Some part
    → (t : ValueTree) × (o ≡ Some t) × (get name t ≡ Some part)
property_there name None part is = cc
property_there name (Some t) part is = (t, refl, is)

items_there : (o : Option ValueTree) (part : ValueTree) → items_schema o ≡ Some part
    → (ms : MemberTrees) × (o ≡ Some (object ms)) × (object ms ≡ part)
items_there (Some (object ms)) part is = (ms, refl, cc)
items_there o part is = cc

member_fails : (s part : ValueTree) (ms : MemberTrees) (name : List ℕ) (u : ValueTree) (p : List ℕ) → Contains (pairs ms) (name, u)
    → property s name ≡ Some part → IsMismatch part u p → IsMismatch s (object ms) (member_step name ++ p)
member_fails s part ms name u p c is inside =
    let (t, there, found) = property_there name (get (codes "properties") s) part is in in_member there found c inside

item_fails : (s part : ValueTree) (ts : ValueTrees) (i : ℕ) (u : ValueTree) (p : List ℕ) → slice_get (items ts) i ≡ Some u
    → item_schema s ≡ Some part → IsMismatch part u p → IsMismatch s (list ts) (item_step i ++ p)
item_fails s part ts i u p found is inside =
    let (ms, there, same) = items_there (get (codes "items") s) part is in
    in_item i there found (subst (λ one. IsMismatch one u p) (sym same) inside)

amiss_fails : {s v : ValueTree} {p : List ℕ} → IsAmiss by_schema s v p → IsMismatch s v p
amiss_fails (wrong {role} {t} is) = own_fails role t is
amiss_fails (missing {name} needed none) = absurd (none_in_nothing name needed)
amiss_fails (beside {p} found) = absurd (none_in_nothing p found)
amiss_fails (further c closed none) = cc
amiss_fails (amiss_member {role} {part} {ms} {name} {u} {p} c is amiss) = member_fails role part ms name u p c is (amiss_fails amiss)
amiss_fails (amiss_item {role} {part} {ts} i {u} {p} found is amiss) = item_fails role part ts i u p found is (amiss_fails amiss)

fails_amiss : {s v : ValueTree} {p : List ℕ} → IsMismatch s v p → IsAmiss by_schema s v p
fails_amiss (of_no_type {s} {v} {t} there none) = wrong (types_refused s v t there none)
fails_amiss (lacking {s} {names} {ms} {name} there c none) = wrong (required_refused s ms names name there c none)
fails_amiss (unlisted {s} {v} {ts} there none) = wrong (enum_refused s v ts there none)
fails_amiss (in_member {s} {t} {part} {ms} {name} {u} {p} there found c inside) =
    amiss_member c (ap (property_in name) there ∙ found) (fails_amiss inside)
fails_amiss (in_item {s} {part} {ts} i {u} {p} there found inside) = amiss_item i found (ap items_schema there) (fails_amiss inside)

pub fails_are_mismatches : (s v : ValueTree) (p : List ℕ) → Contains (fails s v) p ↔ IsMismatch s v p
fails_are_mismatches s v p =
    let (amiss, listed) = listed_iff_amiss by_schema s v p in (λ c. amiss_fails (amiss c), λ mismatch. listed (fails_amiss mismatch))
