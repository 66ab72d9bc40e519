-- A value is a schema exactly where it has no flaw.
use Rattle.std.proofs.Common.{◌≡◌, ℕ, suc, ℤ, List, [], ◌++◌, map, option_map, Bool, true, false, not, ◌&&◌, ◌||◌, if◌then◌else◌, Option, Some, None, is_none, refl, sym, ap, ap₂, ◌∙◌, bytes_eq, codes}
use Rattle.std.specs.List.{list_all}
use Rattle.wf_places.specs.Pointer.{here, least, lesser, member_step, item_step}
use Rattle.wf_places.proofs.PointerLemmas.{least-append, least-front}
use Rattle.wf_places.specs.Form.{places, in_members, in_items, in_part, in_list, own}
use Rattle.wf_val.specs.ValueTree.{ValueTree, ValueTrees, MemberTrees, null, boolean, number, text, list, object, items, no_values, value_then, no_members, member_then}
use Rattle.wf_schema.specs.Keywords.{is_schema, are_keywords, is_keyword, are_properties, are_schemas, are_names, are_types}
use Rattle.wf_schema.specs.Reading.{flaws}
use Rattle.wf_schema.specs.SchemaForm.{is_list, is_right, is_text, is_type, part_item, schema_form, schema_member}
use Rattle.wf_schema.specs.declared.part.Part.{Part}

-- there are none
abbrev empty : List (List ℕ) → Bool
empty ps = is_none (least ps)

none_lesser : (o p : Option (List ℕ)) → is_none (lesser o p) ≡ (is_none o && is_none p)
none_lesser None p = refl
none_lesser (Some o) None = refl
none_lesser (Some o) (Some p) = refl

none_mapped : (front : List ℕ) (o : Option (List ℕ)) → is_none (option_map (λ p. front ++ p) o) ≡ is_none o
none_mapped front None = refl
none_mapped front (Some p) = refl

empty_both : (ps qs : List (List ℕ)) → empty (ps ++ qs) ≡ (empty ps && empty qs)
empty_both ps qs = ap is_none (least-append ps qs) ∙ none_lesser (least ps) (least qs)

empty_behind : (front : List ℕ) (ps : List (List ℕ)) → empty (map (λ p. front ++ p) ps) ≡ empty ps
empty_behind front ps = ap is_none (least-front front ps) ∙ none_mapped front (least ps)

-- one behind a front, and the rest
empty_step : (front : List ℕ) (ps qs : List (List ℕ)) (a b : Bool) → empty ps ≡ a → empty qs ≡ b
    → empty (map (λ p. front ++ p) ps ++ qs) ≡ (a && b)
empty_step front ps qs a b one rest =
    empty_both (map (λ p. front ++ p) ps) qs ∙ ap₂ (λ x y. x && y) (empty_behind front ps ∙ one) rest

empty_here : (right : Bool) → empty (here (not right) ++ ([] ++ [])) ≡ right
empty_here true = refl
empty_here false = refl

-- at the value itself
empty_own : (part : Part) (t : ValueTree) → empty (own schema_form part t) ≡ is_right part t
empty_own part t = empty_here (is_right part t)

-- what each part has to be, in whole
abbrev is_part : Part → ValueTree → Bool
is_part Part.Schema t = is_schema t
is_part Part.Types t = are_types t
is_part Part.Type t = is_type t
is_part Part.Properties t = are_properties t
is_part Part.Required t = are_names t
is_part Part.Name t = is_text t
is_part Part.Items t = is_list t || is_schema t
is_part Part.Enum t = is_list t

-- the members of a part
abbrev are_members : Part → MemberTrees → Bool
are_members Part.Schema ms = are_keywords ms
are_members Part.Items ms = are_keywords ms
are_members Part.Properties ms = are_schemas ms
are_members part ms = true

abbrev are_items : Part → ValueTrees → Bool
are_items Part.Types ts = list_all is_type (items ts)
are_items Part.Required ts = list_all is_text (items ts)
are_items part ts = true

keyword : (e i p r k : Bool) (t : ValueTree) (inside : Part → List (List ℕ))
    → ((part : Part) → empty (inside part) ≡ is_part part t)
    → empty (in_part false (if e then Some Part.Enum else (if i then Some Part.Items else (if p then Some Part.Properties else
    (if r then Some Part.Required else (if k then Some Part.Types else None))))) inside)
    ≡ (if e then is_list t else (if i then is_list t || is_schema t else (if p then are_properties t else
    (if r then are_names t else (if k then are_types t else true)))))
keyword true i p r k t inside each = each Part.Enum
keyword false true p r k t inside each = each Part.Items
keyword false false true r k t inside each = each Part.Properties
keyword false false false true k t inside each = each Part.Required
keyword false false false false true t inside each = each Part.Types
keyword false false false false false t inside each = refl

-- a scalar has no more to it than itself
of_null : (part : Part) → is_right part null ≡ is_part part null
of_null Part.Schema = refl
of_null part = refl

of_boolean : (part : Part) (b : Bool) → is_right part (boolean b) ≡ is_part part (boolean b)
of_boolean Part.Schema b = refl
of_boolean part b = refl

of_number : (part : Part) (n : ℤ) → is_right part (number n) ≡ is_part part (number n)
of_number Part.Schema n = refl
of_number part n = refl

of_text : (part : Part) (s : List ℕ) → is_right part (text s) ≡ is_part part (text s)
of_text Part.Schema s = refl
of_text part s = refl

of_object : (part : Part) (ms : MemberTrees) → (is_right part (object ms) && are_members part ms) ≡ is_part part (object ms)
of_object Part.Schema ms = refl
of_object part ms = refl

of_list : (part : Part) (ts : ValueTrees) → (is_right part (list ts) && are_items part ts) ≡ is_part part (list ts)
of_list Part.Schema ts = refl
of_list part ts = refl

mutual
  in_whole : (part : Part) (t : ValueTree) → empty (places schema_form part t) ≡ is_part part t
  in_whole part (object ms) =
      empty_both (own schema_form part (object ms)) (in_members schema_form part ms)
      ∙ ap₂ (λ x y. x && y) (empty_own part (object ms)) (of_members part ms) ∙ of_object part ms
  in_whole part (list ts) =
      empty_both (own schema_form part (list ts)) (in_list (part_item part) (λ inner. in_items schema_form inner 0 ts))
      ∙ ap₂ (λ x y. x && y) (empty_own part (list ts)) (of_items part 0 ts) ∙ of_list part ts
  in_whole part null = empty_own part null ∙ of_null part
  in_whole part (boolean b) = empty_own part (boolean b) ∙ of_boolean part b
  in_whole part (number n) = empty_own part (number n) ∙ of_number part n
  in_whole part (text s) = empty_own part (text s) ∙ of_text part s

  of_members : (part : Part) (ms : MemberTrees) → empty (in_members schema_form part ms) ≡ are_members part ms
  of_members Part.Schema no_members = refl
  of_members part no_members = refl
  of_members Part.Schema (member_then k t ms) =
      empty_step (member_step k) (in_part false (schema_member k) (λ part. places schema_form part t))
      (in_members schema_form Part.Schema ms)
      (is_keyword k t (is_schema t) (are_properties t)) (are_keywords ms)
      (keyword (bytes_eq k (codes "enum")) (bytes_eq k (codes "items")) (bytes_eq k (codes "properties")) (bytes_eq k (codes "required"))
      (bytes_eq k (codes "type")) t (λ part. places schema_form part t) (λ part. in_whole part t))
      (of_members Part.Schema ms)
  of_members Part.Items (member_then k t ms) =
      empty_step (member_step k) (in_part false (schema_member k) (λ part. places schema_form part t))
      (in_members schema_form Part.Items ms)
      (is_keyword k t (is_schema t) (are_properties t)) (are_keywords ms)
      (keyword (bytes_eq k (codes "enum")) (bytes_eq k (codes "items")) (bytes_eq k (codes "properties")) (bytes_eq k (codes "required"))
      (bytes_eq k (codes "type")) t (λ part. places schema_form part t) (λ part. in_whole part t))
      (of_members Part.Items ms)
  of_members Part.Properties (member_then k t ms) =
      empty_step (member_step k) (places schema_form Part.Schema t) (in_members schema_form Part.Properties ms)
      (is_schema t) (are_schemas ms) (in_whole Part.Schema t) (of_members Part.Properties ms)
  of_members part (member_then k t ms) =
      empty_step (member_step k) [] (in_members schema_form part ms) true true refl (of_members part ms)

  of_items : (part : Part) (start : ℕ) (ts : ValueTrees)
      → empty (in_list (part_item part) (λ inner. in_items schema_form inner start ts)) ≡ are_items part ts
  of_items Part.Types start no_values = refl
  of_items Part.Required start no_values = refl
  of_items Part.Types start (value_then t ts) =
      empty_step (item_step start) (places schema_form Part.Type t) (in_items schema_form Part.Type (suc start) ts)
      (is_type t) (list_all is_type (items ts)) (in_whole Part.Type t) (of_items Part.Types (suc start) ts)
  of_items Part.Required start (value_then t ts) =
      empty_step (item_step start) (places schema_form Part.Name t) (in_items schema_form Part.Name (suc start) ts)
      (is_text t) (list_all is_text (items ts)) (in_whole Part.Name t) (of_items Part.Required (suc start) ts)
  of_items part start ts = refl

pub flawless : (t : ValueTree) → is_none (least (flaws t)) ≡ is_schema t
flawless t = in_whole Part.Schema t

pub taken : (t : ValueTree) → None ≡ least (flaws t) → is_schema t ≡ true
taken t none = sym (flawless t) ∙ ap is_none (sym none)

pub refused : (t : ValueTree) (p : List ℕ) → Some p ≡ least (flaws t) → is_schema t ≡ false
refused t p some = sym (flawless t) ∙ ap is_none (sym some)
