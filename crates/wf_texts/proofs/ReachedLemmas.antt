-- A pointer is listed exactly where it leads to a bad text.
use Rattle.std.proofs.Common.{◌≡◌, ◌↔◌, ◌⊎◌, ℕ, zero, suc, ◌+◌, List, [], ◌∷◌, ◌++◌, map, flat_map, Bool, true, false, Option, Some, None, slice_get, if◌then◌else◌}
use Rattle.std.proofs.Common.{inl, inr, refl, sym, ap, ◌∙◌, subst, arith}
use Rattle.std.specs.Prelude.{bytes_eq}
use Rattle.std.specs.List.{Contains}
use Rattle.std.proofs.lemmas.List.Elements.{Contains-append_left, Contains-append_right, Contains-append_cases, Contains-push_cases}
use Rattle.wf_val.specs.ValueTree.{ValueTree, null, boolean, number, text, list, object, ValueTrees, no_values, value_then, items, MemberTrees, no_members, member_then}
use Rattle.wf_val.specs.Get.{get}
use Rattle.wf_kinds.specs.Follow.{Step, to_item, to_member, step_text}
use Rattle.wf_kinds.specs.Pointer.{here, item_step, member_step}
use Rattle.wf_texts.specs.Bad.{bad_texts, bad_items, bad_members}
use Rattle.wf_texts.specs.Members.{Way, to, to_all_but, to_each, along, along_all, in_member, in_items, in_other, in_members_but}
use Rattle.wf_texts.specs.Reached.{IsMember, Goes, GoesBy, GoAlong, LeadsToBadText}
use Rattle.wf_texts.specs.Sound.{is_bad}

-- ---- elements

none_in_nothing : {X : Type 0} (y : X) → Contains [] y → ⊥
none_in_nothing y c = let within = c.1 in omega arith

first_listed : {X : Type 0} (x : X) (xs : List X) → Contains (x ∷ xs) x
first_listed x xs = (0, omega arith, refl)

first_or_rest : {X : Type 0} (x : X) (xs : List X) (y : X) → Contains (x ∷ xs) y → (x ≡ y) ⊎ Contains xs y
first_or_rest x xs y c = elim (Contains-append_cases (x ∷ []) xs y c) [
  | inl one ↦ elim (Contains-push_cases [] x y one) [ inl none ↦ absurd (none_in_nothing y none) | inr is ↦ inl is ]
  | inr rest ↦ inr rest
]

-- a pointer is a step and a pointer of these
abbrev IsBehind : List ℕ → List (List ℕ) → List ℕ → Type 0
IsBehind step qs p = (q : List ℕ) × Contains qs q × (p ≡ step ++ q)

behind : (step : List ℕ) (qs : List (List ℕ)) (p : List ℕ) → Contains (map (λ q. step ++ q) qs) p → IsBehind step qs p
behind step [] p c = absurd (none_in_nothing p c)
behind step (q ∷ qs) p c = elim (first_or_rest (step ++ q) (map (λ r. step ++ r) qs) p c) [
  | inl is ↦ (q, first_listed q qs, sym is)
  | inr rest ↦ let (r, listed, is) = behind step qs p rest in (r, Contains-append_right (q ∷ []) qs r listed, is)
]

in_front : (step : List ℕ) (qs : List (List ℕ)) (q : List ℕ) → Contains qs q → Contains (map (λ r. step ++ r) qs) (step ++ q)
in_front step [] q c = absurd (none_in_nothing q c)
in_front step (r ∷ qs) q c = elim (first_or_rest r qs q c) [
  | inl is ↦ subst (λ y. Contains ((step ++ r) ∷ map (λ s. step ++ s) qs) (step ++ y)) is
      (first_listed (step ++ r) (map (λ s. step ++ s) qs))
  | inr rest ↦ Contains-append_right ((step ++ r) ∷ []) (map (λ s. step ++ s) qs) (step ++ q) (in_front step qs q rest)
]

-- ---- items and members, whatever is looked for in them

-- a pointer from the items, the first of which stands at a place
abbrev InItems : (ValueTree → List ℕ → Type 0) → ℕ → ValueTrees → List ℕ → Type 0
InItems Q start ts p =
    (i : ℕ) × (u : ValueTree) × (q : List ℕ) × (slice_get (items ts) i ≡ Some u) × (p ≡ item_step (start + i) ++ q) × Q u q

abbrev InMembers : (List ℕ → ValueTree → List ℕ → Type 0) → MemberTrees → List ℕ → Type 0
InMembers Q ms p = (k : List ℕ) × (u : ValueTree) × (q : List ℕ) × IsMember k u ms × (p ≡ member_step k ++ q) × Q k u q

first_item : (Q : ValueTree → List ℕ → Type 0) (start : ℕ) (t : ValueTree) (ts : ValueTrees) (p q : List ℕ)
    → p ≡ item_step start ++ q → Q t q → InItems Q start (value_then t ts) p
first_item Q start t ts p q is there =
    let here : start ≡ start + 0 = omega arith in
    (0, t, q, refl, subst (λ n. p ≡ item_step n ++ q) here is, there)

later_item : (Q : ValueTree → List ℕ → Type 0) (start : ℕ) (t : ValueTree) (ts : ValueTrees) (p : List ℕ)
    → InItems Q (suc start) ts p → InItems Q start (value_then t ts) p
later_item Q start t ts p later =
    let (i, u, q, found, is, rest) = later in
    let same : suc start + i ≡ start + suc i = omega arith in
    (suc i, u, q, found, subst (λ n. p ≡ item_step n ++ q) same is, rest)

-- ---- what is listed in a value leads there

abbrev Leads : List Way → ValueTree → List ℕ → Type 0
Leads ways t p =
    (steps : List Step) × (p ≡ flat_map step_text steps) × (bytes : List ℕ) × GoAlong ways steps t (text bytes) × (is_bad bytes ≡ true)

step_before : (step : Step) (t u : ValueTree) (p q : List ℕ) → p ≡ step_text step ++ q → Goes step t u → Leads [] u q → Leads [] t p
step_before step t u p q is goes rest =
    let (steps, spelled, bytes, reached, bad) = rest in
    (step ∷ steps, is ∙ ap (λ r. step_text step ++ r) spelled, bytes, (u, goes, reached), bad)

way_before : (way : Way) (ways : List Way) (step : Step) (t u : ValueTree) (p q : List ℕ)
    → p ≡ step_text step ++ q → GoesBy way step t u → Leads ways u q → Leads (way ∷ ways) t p
way_before way ways step t u p q is goes rest =
    let (steps, spelled, bytes, reached, bad) = rest in
    (step ∷ steps, is ∙ ap (λ r. step_text step ++ r) spelled, bytes, (u, goes, reached), bad)

at_itself : (flawed : Bool) (p : List ℕ) → Contains (here flawed) p → ([] ≡ p) × (flawed ≡ true)
at_itself true p c = elim (first_or_rest [] [] p c) [ inl is ↦ (is, refl) | inr none ↦ absurd (none_in_nothing p none) ]
at_itself false p c = absurd (none_in_nothing p c)

mutual
  leads_there : (t : ValueTree) (p : List ℕ) → Contains (bad_texts t) p → Leads [] t p
  leads_there null p c = absurd (none_in_nothing p c)
  leads_there (boolean b) p c = absurd (none_in_nothing p c)
  leads_there (number n) p c = absurd (none_in_nothing p c)
  leads_there (text s) p c = let (is, bad) = at_itself (is_bad s) p c in ([], sym is, s, refl, bad)
  leads_there (list ts) p c =
      let (i, u, q, found, is, rest) = leads_in_items 0 ts p c in
      let from_first : 0 + i ≡ i = omega arith in
      step_before (to_item i) (list ts) u p q (subst (λ n. p ≡ item_step n ++ q) from_first is) found rest
  leads_there (object ms) p c =
      let (k, u, q, found, is, rest) = leads_in_members ms p c in
      step_before (to_member k) (object ms) u p q is found rest

  leads_in_items : (start : ℕ) (ts : ValueTrees) (p : List ℕ) → Contains (bad_items start ts) p → InItems (Leads []) start ts p
  leads_in_items start no_values p c = absurd (none_in_nothing p c)
  leads_in_items start (value_then t ts) p c =
      elim (Contains-append_cases (map (λ q. item_step start ++ q) (bad_texts t)) (bad_items (suc start) ts) p c) [
        | inl first ↦
            let (q, listed, is) = behind (item_step start) (bad_texts t) p first in
            first_item (Leads []) start t ts p q is (leads_there t q listed)
        | inr later ↦ later_item (Leads []) start t ts p (leads_in_items (suc start) ts p later)
      ]

  leads_in_members : (ms : MemberTrees) (p : List ℕ) → Contains (bad_members ms) p → InMembers (λ k u q. Leads [] u q) ms p
  leads_in_members no_members p c = absurd (none_in_nothing p c)
  leads_in_members (member_then k t ms) p c =
      elim (Contains-append_cases (map (λ q. member_step k ++ q) (bad_texts t)) (bad_members ms) p c) [
        | inl first ↦
            let (q, listed, is) = behind (member_step k) (bad_texts t) p first in
            (k, t, q, inl (refl, refl), is, leads_there t q listed)
        | inr later ↦
            let (l, u, q, found, is, rest) = leads_in_members ms p later in
            (l, u, q, inr found, is, rest)
      ]

-- ---- along ways down

from_items : (f : ValueTree → List (List ℕ)) (start : ℕ) (ts : ValueTrees) (p : List ℕ) → Contains (in_items f start ts) p
    → InItems (λ u q. Contains (f u) q) start ts p
from_items f start no_values p c = absurd (none_in_nothing p c)
from_items f start (value_then t ts) p c =
    elim (Contains-append_cases (map (λ q. item_step start ++ q) (f t)) (in_items f (suc start) ts) p c) [
      | inl first ↦
          let (q, listed, is) = behind (item_step start) (f t) p first in
          first_item (λ u r. Contains (f u) r) start t ts p q is listed
      | inr later ↦ later_item (λ u r. Contains (f u) r) start t ts p (from_items f (suc start) ts p later)
    ]

from_other : (name : List ℕ) (f : ValueTree → List (List ℕ)) (k : List ℕ) (t : ValueTree) (p : List ℕ) (same : Bool)
    → bytes_eq k name ≡ same → Contains (if same then [] else map (λ q. member_step k ++ q) (f t)) p
    → (q : List ℕ) × (bytes_eq k name ≡ false) × Contains (f t) q × (p ≡ member_step k ++ q)
from_other name f k t p true is c = absurd (none_in_nothing p c)
from_other name f k t p false is c = let (q, listed, made) = behind (member_step k) (f t) p c in (q, is, listed, made)

from_members_but : (name : List ℕ) (f : ValueTree → List (List ℕ)) (ms : MemberTrees) (p : List ℕ) → Contains (in_members_but name f ms) p
    → InMembers (λ k u q. (bytes_eq k name ≡ false) × Contains (f u) q) ms p
from_members_but name f no_members p c = absurd (none_in_nothing p c)
from_members_but name f (member_then k t ms) p c =
    elim (Contains-append_cases (in_other name f k t) (in_members_but name f ms) p c) [
      | inl first ↦
          let (q, other, listed, is) = from_other name f k t p (bytes_eq k name) refl first in
          (k, t, q, inl (refl, refl), is, (other, listed))
      | inr later ↦
          let (l, u, q, found, is, rest) = from_members_but name f ms p later in
          (l, u, q, inr found, is, rest)
    ]

from_member : (name : List ℕ) (f : ValueTree → List (List ℕ)) (o : Option ValueTree) (p : List ℕ) → Contains (in_member name f o) p
    → (u : ValueTree) × (q : List ℕ) × (o ≡ Some u) × Contains (f u) q × (p ≡ member_step name ++ q)
from_member name f None p c = absurd (none_in_nothing p c)
from_member name f (Some u) p c = let (q, listed, is) = behind (member_step name) (f u) p c in (u, q, refl, listed, is)

leads_along : (ways : List Way) (t : ValueTree) (p : List ℕ) → Contains (along ways t) p → Leads ways t p
leads_along [] t p c = leads_there t p c
leads_along (to name ∷ ways) t p c =
    let (u, q, found, listed, is) = from_member name (λ v. along ways v) (get name t) p c in
    way_before (to name) ways (to_member name) t u p q is (refl, found) (leads_along ways u q listed)
leads_along (to_each ∷ ways) null p c = absurd (none_in_nothing p c)
leads_along (to_each ∷ ways) (boolean b) p c = absurd (none_in_nothing p c)
leads_along (to_each ∷ ways) (number n) p c = absurd (none_in_nothing p c)
leads_along (to_each ∷ ways) (text s) p c = absurd (none_in_nothing p c)
leads_along (to_each ∷ ways) (list ts) p c =
    let (i, u, q, found, is, listed) = from_items (λ v. along ways v) 0 ts p c in
    let from_first : 0 + i ≡ i = omega arith in
    way_before to_each ways (to_item i) (list ts) u p q (subst (λ n. p ≡ item_step n ++ q) from_first is) found
    (leads_along ways u q listed)
leads_along (to_each ∷ ways) (object ms) p c = absurd (none_in_nothing p c)
leads_along (to_all_but name ∷ ways) null p c = absurd (none_in_nothing p c)
leads_along (to_all_but name ∷ ways) (boolean b) p c = absurd (none_in_nothing p c)
leads_along (to_all_but name ∷ ways) (number n) p c = absurd (none_in_nothing p c)
leads_along (to_all_but name ∷ ways) (text s) p c = absurd (none_in_nothing p c)
leads_along (to_all_but name ∷ ways) (list ts) p c = absurd (none_in_nothing p c)
leads_along (to_all_but name ∷ ways) (object ms) p c =
    let (k, u, q, found, is, rest) = from_members_but name (λ v. along ways v) ms p c in
    way_before (to_all_but name) ways (to_member k) (object ms) u p q is (rest.0, found) (leads_along ways u q rest.1)

-- ---- and what leads there is listed

item_listed : (f : ValueTree → List (List ℕ)) (start i : ℕ) (ts : ValueTrees) (u : ValueTree) (q : List ℕ)
    → slice_get (items ts) i ≡ Some u → Contains (f u) q → Contains (in_items f start ts) (item_step (start + i) ++ q)
item_listed f start i no_values u q found listed = absurd (cc)
item_listed f start zero (value_then t ts) u q found listed =
    let here : start ≡ start + 0 = omega arith in
    let same : u ≡ t = cc in
    let first = in_front (item_step start) (f t) q (subst (λ v. Contains (f v) q) same listed) in
    let ps = map (λ r. item_step start ++ r) (f t) ++ in_items f (suc start) ts in
    subst (λ n. Contains ps (item_step n ++ q)) here (Contains-append_left _ (in_items f (suc start) ts) (item_step start ++ q) first)
item_listed f start (suc i) (value_then t ts) u q found listed =
    let same : suc start + i ≡ start + suc i = omega arith in
    let later = item_listed f (suc start) i ts u q found listed in
    let ps = map (λ r. item_step start ++ r) (f t) ++ in_items f (suc start) ts in
    subst (λ n. Contains ps (item_step n ++ q)) same
    (Contains-append_right (map (λ r. item_step start ++ r) (f t)) (in_items f (suc start) ts) (item_step (suc start + i) ++ q) later)

member_listed : (k : List ℕ) (ms : MemberTrees) (u : ValueTree) (q : List ℕ)
    → IsMember k u ms → Contains (bad_texts u) q → Contains (bad_members ms) (member_step k ++ q)
member_listed k no_members u q found listed = absurd found
member_listed k (member_then l t ms) u q found listed =
    let ps = map (λ r. member_step l ++ r) (bad_texts t) in
    elim found [
      | inl is ↦
          let first = in_front (member_step l) (bad_texts t) q (subst (λ v. Contains (bad_texts v) q) is.1 listed) in
          subst (λ n. Contains (ps ++ bad_members ms) (member_step n ++ q)) (sym is.0)
          (Contains-append_left ps (bad_members ms) (member_step l ++ q) first)
      | inr later ↦ Contains-append_right ps (bad_members ms) (member_step k ++ q) (member_listed k ms u q later listed)
    ]

other_listed : (name : List ℕ) (f : ValueTree → List (List ℕ)) (k : List ℕ) (ms : MemberTrees) (u : ValueTree) (q : List ℕ)
    → bytes_eq k name ≡ false → IsMember k u ms → Contains (f u) q → Contains (in_members_but name f ms) (member_step k ++ q)
other_listed name f k no_members u q other found listed = absurd found
other_listed name f k (member_then l t ms) u q other found listed =
    elim found [
      | inl is ↦
          let apart : bytes_eq l name ≡ false = subst (λ n. bytes_eq n name ≡ false) is.0 other in
          let first = in_front (member_step l) (f t) q (subst (λ v. Contains (f v) q) is.1 listed) in
          let here : Contains (in_other name f l t) (member_step l ++ q) = rw apart first in
          subst (λ n. Contains (in_other name f l t ++ in_members_but name f ms) (member_step n ++ q)) (sym is.0)
          (Contains-append_left (in_other name f l t) (in_members_but name f ms) (member_step l ++ q) here)
      | inr later ↦ Contains-append_right (in_other name f l t) (in_members_but name f ms) (member_step k ++ q)
          (other_listed name f k ms u q other later listed)
    ]

-- the items of a list are looked through as by their own recursion
bad_items-in_items : (start : ℕ) (ts : ValueTrees) → in_items bad_texts start ts ≡ bad_items start ts
bad_items-in_items start no_values = refl
bad_items-in_items start (value_then t ts) =
    ap (λ ps. map (λ p. item_step start ++ p) (bad_texts t) ++ ps) (bad_items-in_items (suc start) ts)

item_in_list : (f : ValueTree → List (List ℕ)) (i : ℕ) (ts : ValueTrees) (u : ValueTree) (q : List ℕ)
    → slice_get (items ts) i ≡ Some u → Contains (f u) q → Contains (in_items f 0 ts) (item_step i ++ q)
item_in_list f i ts u q found listed =
    let from_first : 0 + i ≡ i = omega arith in
    subst (λ n. Contains (in_items f 0 ts) (item_step n ++ q)) from_first (item_listed f 0 i ts u q found listed)

step_listed : (step : Step) (t u : ValueTree) (q : List ℕ) → Goes step t u → Contains (bad_texts u) q
    → Contains (bad_texts t) (step_text step ++ q)
step_listed (to_item i) null u q goes listed = absurd (cc)
step_listed (to_item i) (boolean b) u q goes listed = absurd (cc)
step_listed (to_item i) (number n) u q goes listed = absurd (cc)
step_listed (to_item i) (text s) u q goes listed = absurd (cc)
step_listed (to_item i) (list ts) u q goes listed =
    subst (λ ps. Contains ps (item_step i ++ q)) (bad_items-in_items 0 ts) (item_in_list bad_texts i ts u q goes listed)
step_listed (to_item i) (object ms) u q goes listed = absurd (cc)
step_listed (to_member k) null u q goes listed = absurd goes
step_listed (to_member k) (boolean b) u q goes listed = absurd goes
step_listed (to_member k) (number n) u q goes listed = absurd goes
step_listed (to_member k) (text s) u q goes listed = absurd goes
step_listed (to_member k) (list ts) u q goes listed = absurd goes
step_listed (to_member k) (object ms) u q goes listed = member_listed k ms u q goes listed

way_listed : (way : Way) (ways : List Way) (step : Step) (t u : ValueTree) (q : List ℕ) → GoesBy way step t u → Contains (along ways u) q
    → Contains (along (way ∷ ways) t) (step_text step ++ q)
way_listed (to name) ways (to_item i) t u q goes listed = absurd goes
way_listed (to name) ways (to_member k) t u q goes listed =
    let front : Contains (map (λ r. member_step name ++ r) (along ways u)) (member_step name ++ q) =
    in_front (member_step name) (along ways u) q listed in
    subst (λ n. Contains (in_member name (λ v. along ways v) (get name t)) (member_step n ++ q)) (sym goes.0)
    (subst (λ o. Contains (in_member name (λ v. along ways v) o) (member_step name ++ q)) (sym goes.1) front)
way_listed to_each ways (to_member k) t u q goes listed = absurd goes
way_listed to_each ways (to_item i) null u q goes listed = absurd (cc)
way_listed to_each ways (to_item i) (boolean b) u q goes listed = absurd (cc)
way_listed to_each ways (to_item i) (number n) u q goes listed = absurd (cc)
way_listed to_each ways (to_item i) (text s) u q goes listed = absurd (cc)
way_listed to_each ways (to_item i) (list ts) u q goes listed = item_in_list (λ v. along ways v) i ts u q goes listed
way_listed to_each ways (to_item i) (object ms) u q goes listed = absurd (cc)
way_listed (to_all_but name) ways (to_item i) t u q goes listed = absurd goes
way_listed (to_all_but name) ways (to_member k) null u q goes listed = absurd goes.1
way_listed (to_all_but name) ways (to_member k) (boolean b) u q goes listed = absurd goes.1
way_listed (to_all_but name) ways (to_member k) (number n) u q goes listed = absurd goes.1
way_listed (to_all_but name) ways (to_member k) (text s) u q goes listed = absurd goes.1
way_listed (to_all_but name) ways (to_member k) (list ts) u q goes listed = absurd goes.1
way_listed (to_all_but name) ways (to_member k) (object ms) u q goes listed =
    other_listed name (λ v. along ways v) k ms u q goes.0 goes.1 listed

reached_listed : (ways : List Way) (steps : List Step) (t : ValueTree) (bytes : List ℕ) → GoAlong ways steps t (text bytes)
    → is_bad bytes ≡ true → Contains (along ways t) (flat_map step_text steps)
reached_listed [] [] t bytes go bad =
    let itself : Contains (here (is_bad bytes)) [] = rw bad (first_listed [] []) in
    subst (λ v. Contains (bad_texts v) []) (sym go) itself
reached_listed [] (step ∷ steps) t bytes go bad =
    let (next, goes, rest) = go in
    step_listed step t next (flat_map step_text steps) goes (reached_listed [] steps next bytes rest bad)
reached_listed (way ∷ ways) [] t bytes go bad = absurd go
reached_listed (way ∷ ways) (step ∷ steps) t bytes go bad =
    let (next, goes, rest) = go in
    way_listed way ways step t next (flat_map step_text steps) goes (reached_listed ways steps next bytes rest bad)

-- ---- of one of the ways down

from_all : (ways : List (List Way)) (t : ValueTree) (p : List ℕ) → Contains (along_all ways t) p
    → (way : List Way) × Contains ways way × Contains (along way t) p
from_all [] t p c = absurd (none_in_nothing p c)
from_all (way ∷ ways) t p c =
    elim (Contains-append_cases (along way t) (along_all ways t) p c) [
      | inl first ↦ (way, first_listed way ways, first)
      | inr later ↦
          let (other, listed, rest) = from_all ways t p later in
          (other, Contains-append_right (way ∷ []) ways other listed, rest)
    ]

in_all : (ways : List (List Way)) (t : ValueTree) (p : List ℕ) (way : List Way) → Contains ways way → Contains (along way t) p
    → Contains (along_all ways t) p
in_all [] t p way listed c = absurd (none_in_nothing way listed)
in_all (first ∷ ways) t p way listed c =
    elim (first_or_rest first ways way listed) [
      | inl is ↦ Contains-append_left (along first t) (along_all ways t) p (subst (λ w. Contains (along w t) p) (sym is) c)
      | inr later ↦ Contains-append_right (along first t) (along_all ways t) p (in_all ways t p way later c)
    ]

all_lead : (ways : List (List Way)) (t : ValueTree) (p : List ℕ) → Contains (along_all ways t) p → LeadsToBadText ways t p
all_lead ways t p c =
    let (way, listed, inside) = from_all ways t p c in
    let (steps, spelled, bytes, reached, bad) = leads_along way t p inside in
    record { way = way; listed = listed; steps = steps; spelled = spelled; bytes = bytes; reached = reached; bad = bad }

all_listed : (ways : List (List Way)) (t : ValueTree) (p : List ℕ) → LeadsToBadText ways t p → Contains (along_all ways t) p
all_listed ways t p leads =
    in_all ways t p leads.way leads.listed
    (subst (Contains (along leads.way t)) (sym leads.spelled) (reached_listed leads.way leads.steps t leads.bytes leads.reached leads.bad))

pub listed_iff_leading : (ways : List (List Way)) (t : ValueTree) (p : List ℕ) → Contains (along_all ways t) p ↔ LeadsToBadText ways t p
listed_iff_leading ways t p = (all_lead ways t p, all_listed ways t p)
