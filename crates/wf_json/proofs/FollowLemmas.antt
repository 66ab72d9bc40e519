-- A pointer is listed exactly where it leads to a value that has the flaw.
use Rattle.std.proofs.Common.{◌≡◌, ◌↔◌, ℕ, zero, suc, ◌+◌, ◌-◌, ◌⊎◌, List, [], ◌∷◌, ◌++◌, map, length, flat_map, Bool, true, false, Some}
use Rattle.std.proofs.Common.{inl, inr, refl, sym, ap, ◌∙◌, subst, arith}
use Rattle.std.specs.List.{Contains}
use Rattle.std.proofs.lemmas.List.Elements.{Contains-append_left, Contains-append_right, Contains-append_cases, Contains-push_cases}
use Rattle.serde_json.specs.Data as json
use Rattle.serde_json.specs.Find.{get_item}
use Rattle.wf_json.specs.Follow.{Step, to_item, to_member, step_text, IsMember, Goes, Go, LeadsToFlaw}
use Rattle.wf_json.specs.Pointer.{here, item_step, member_step}
use Rattle.wf_json.specs.Read.{has_flaw, flawed_places, flawed_items, flawed_members}
use Rattle.wf_json.specs.declared.fault.Flaw.{Flaw}

-- ---- elements

none_in_nothing : {X : Type 0} (y : X) → Contains [] y → ⊥
none_in_nothing y c = let within = c.1 in omega arith

first_listed : {X : Type 0} (x : X) (xs : List X) → Contains (x ∷ xs) x
first_listed x xs = (0, omega arith, refl)

first_or_rest : {X : Type 0} (x : X) (xs : List X) (y : X) → Contains (x ∷ xs) y → (x ≡ y) ⊎ Contains xs y
first_or_rest x xs y c = elim (Contains-append_cases (x ∷ []) xs y c) [
  | inl one ↦ elim (Contains-push_cases [] x y one) [ inl none ↦ absurd (none_in_nothing y none) | inr is ↦ inl is ]
  | inr rest ↦ inr rest
]

from_mapped : {X Y : Type 0} (f : X → Y) (xs : List X) (y : Y) → Contains (map f xs) y → (x : X) × Contains xs x × (y ≡ f x)
from_mapped f [] y c = absurd (none_in_nothing y c)
from_mapped f (x ∷ xs) y c = elim (first_or_rest (f x) (map f xs) y c) [
  | inl is ↦ (x, first_listed x xs, sym is)
  | inr rest ↦ let (z, listed, is) = from_mapped f xs y rest in (z, Contains-append_right (x ∷ []) xs z listed, is)
]

mapped : {X Y : Type 0} (f : X → Y) (xs : List X) (x : X) → Contains xs x → Contains (map f xs) (f x)
mapped f [] x c = absurd (none_in_nothing x c)
mapped f (z ∷ xs) x c = elim (first_or_rest z xs x c) [
  | inl is ↦ subst (λ y. Contains (f z ∷ map f xs) (f y)) is (first_listed (f z) (map f xs))
  | inr rest ↦ Contains-append_right (f z ∷ []) (map f xs) (f x) (mapped f xs x rest)
]

-- ---- what is listed leads there

at_place_itself : (flawed : Bool) (p : List ℕ) → Contains (here flawed) p → ([] ≡ p) × (flawed ≡ true)
at_place_itself true p c = elim (first_or_rest [] [] p c) [ inl is ↦ (is, refl) | inr none ↦ absurd (none_in_nothing p none) ]
at_place_itself false p c = absurd (none_in_nothing p c)

leads_here : (flaw : Flaw) (room : ℕ) (d : json.Data) (p : List ℕ) → Contains (here (has_flaw flaw room d)) p → LeadsToFlaw flaw room d p
leads_here flaw room d p c =
    let (is, flawed) = at_place_itself (has_flaw flaw room d) p c in
    let whole : room ≡ room - 0 = omega arith in
    record { steps = []; spelled = sym is; place = d; reached = refl; flawed = subst (λ n. has_flaw flaw n d ≡ true) whole flawed }

-- a step more, to where the rest of the pointer begins
step_before : (flaw : Flaw) (room : ℕ) (step : Step) (d next : json.Data) (p q : List ℕ)
    → p ≡ step_text step ++ q → Goes step d next → LeadsToFlaw flaw (room - 1) next q → LeadsToFlaw flaw room d p
step_before flaw room step d next p q is goes rest =
    let one_less : room - 1 - length rest.steps ≡ room - suc (length rest.steps) = omega arith in
    record {
      steps = step ∷ rest.steps;
      spelled = is ∙ ap (λ s. step_text step ++ s) rest.spelled;
      place = rest.place;
      reached = (next, goes, rest.reached);
      flawed = subst (λ n. has_flaw flaw n rest.place ≡ true) one_less rest.flawed;
    }

abbrev InItems : Flaw → ℕ → ℕ → json.Items → List ℕ → Type 0
InItems flaw room start ds p =
    (i : ℕ) × (d : json.Data) × (q : List ℕ) × (get_item i ds ≡ Some d) × (p ≡ item_step (start + i) ++ q) × LeadsToFlaw flaw room d q

abbrev InMembers : Flaw → ℕ → json.Members → List ℕ → Type 0
InMembers flaw room ms p =
    (k : List ℕ) × (d : json.Data) × (q : List ℕ) × IsMember k d ms × (p ≡ member_step k ++ q) × LeadsToFlaw flaw room d q

mutual
  leads_there : (flaw : Flaw) (room : ℕ) (d : json.Data) (p : List ℕ) → Contains (flawed_places flaw room d) p → LeadsToFlaw flaw room d p
  leads_there flaw room json.null p c = leads_here flaw room json.null p c
  leads_there flaw room (json.boolean b) p c = leads_here flaw room (json.boolean b) p c
  leads_there flaw room (json.number n) p c = leads_here flaw room (json.number n) p c
  leads_there flaw room (json.string s) p c = leads_here flaw room (json.string s) p c
  leads_there flaw room (json.array ds) p c =
      elim (Contains-append_cases (here (has_flaw flaw room (json.array ds))) (flawed_items flaw (room - 1) 0 ds) p c) [
        | inl itself ↦ leads_here flaw room (json.array ds) p itself
        | inr inside ↦
            let (i, d, q, found, is, rest) = leads_in_items flaw (room - 1) 0 ds p inside in
            let from_first : 0 + i ≡ i = omega arith in
            step_before flaw room (to_item i) (json.array ds) d p q (subst (λ n. p ≡ item_step n ++ q) from_first is) found rest
      ]
  leads_there flaw room (json.object ms) p c =
      elim (Contains-append_cases (here (has_flaw flaw room (json.object ms))) (flawed_members flaw (room - 1) ms) p c) [
        | inl itself ↦ leads_here flaw room (json.object ms) p itself
        | inr inside ↦
            let (k, d, q, found, is, rest) = leads_in_members flaw (room - 1) ms p inside in
            step_before flaw room (to_member k) (json.object ms) d p q is found rest
      ]

  leads_in_items : (flaw : Flaw) (room start : ℕ) (ds : json.Items) (p : List ℕ) → Contains (flawed_items flaw room start ds) p
      → InItems flaw room start ds p
  leads_in_items flaw room start json.no_items p c = absurd (none_in_nothing p c)
  leads_in_items flaw room start (json.item d ds) p c =
      elim (Contains-append_cases (map (λ q. item_step start ++ q) (flawed_places flaw room d))
      (flawed_items flaw room (suc start) ds) p c) [
        | inl first ↦
            let (q, listed, is) = from_mapped (λ q. item_step start ++ q) (flawed_places flaw room d) p first in
            let here : start ≡ start + 0 = omega arith in
            (0, d, q, refl, subst (λ n. p ≡ item_step n ++ q) here is, leads_there flaw room d q listed)
        | inr later ↦
            let (i, e, q, found, is, rest) = leads_in_items flaw room (suc start) ds p later in
            let same : suc start + i ≡ start + suc i = omega arith in
            (suc i, e, q, found, subst (λ n. p ≡ item_step n ++ q) same is, rest)
      ]

  leads_in_members : (flaw : Flaw) (room : ℕ) (ms : json.Members) (p : List ℕ) → Contains (flawed_members flaw room ms) p
      → InMembers flaw room ms p
  leads_in_members flaw room json.no_members p c = absurd (none_in_nothing p c)
  leads_in_members flaw room (json.member k d ms) p c =
      elim (Contains-append_cases (map (λ q. member_step k ++ q) (flawed_places flaw room d)) (flawed_members flaw room ms) p c) [
        | inl first ↦
            let (q, listed, is) = from_mapped (λ q. member_step k ++ q) (flawed_places flaw room d) p first in
            (k, d, q, inl (refl, refl), is, leads_there flaw room d q listed)
        | inr later ↦
            let (l, e, q, found, is, rest) = leads_in_members flaw room ms p later in
            (l, e, q, inr found, is, rest)
      ]

-- ---- and what leads there is listed

itself_listed : (flaw : Flaw) (room : ℕ) (d : json.Data) → has_flaw flaw room d ≡ true → Contains (flawed_places flaw room d) []
itself_listed flaw room json.null is = rw is (first_listed [] [])
itself_listed flaw room (json.boolean b) is = rw is (first_listed [] [])
itself_listed flaw room (json.number n) is = rw is (first_listed [] [])
itself_listed flaw room (json.string s) is = rw is (first_listed [] [])
itself_listed flaw room (json.array ds) is = rw is (first_listed [] (flawed_items flaw (room - 1) 0 ds))
itself_listed flaw room (json.object ms) is = rw is (first_listed [] (flawed_members flaw (room - 1) ms))

item_listed : (flaw : Flaw) (room start i : ℕ) (ds : json.Items) (d : json.Data) (q : List ℕ)
    → get_item i ds ≡ Some d → Contains (flawed_places flaw room d) q
    → Contains (flawed_items flaw room start ds) (item_step (start + i) ++ q)
item_listed flaw room start i json.no_items d q found listed = absurd (cc)
item_listed flaw room start zero (json.item e ds) d q found listed =
    let here : start ≡ start + 0 = omega arith in
    let same : d ≡ e = cc in
    let first = mapped (λ r. item_step start ++ r) (flawed_places flaw room e) q
    (subst (λ v. Contains (flawed_places flaw room v) q) same listed) in
    let ps = map (λ r. item_step start ++ r) (flawed_places flaw room e) ++ flawed_items flaw room (suc start) ds in
    subst (λ n. Contains ps (item_step n ++ q)) here
    (Contains-append_left _ (flawed_items flaw room (suc start) ds) (item_step start ++ q) first)
item_listed flaw room start (suc i) (json.item e ds) d q found listed =
    let same : suc start + i ≡ start + suc i = omega arith in
    let later = item_listed flaw room (suc start) i ds d q found listed in
    let ps = map (λ r. item_step start ++ r) (flawed_places flaw room e) ++ flawed_items flaw room (suc start) ds in
    subst (λ n. Contains ps (item_step n ++ q)) same
    (Contains-append_right (map (λ r. item_step start ++ r) (flawed_places flaw room e)) (flawed_items flaw room (suc start) ds)
    (item_step (suc start + i) ++ q) later)

member_listed : (flaw : Flaw) (room : ℕ) (k : List ℕ) (ms : json.Members) (d : json.Data) (q : List ℕ)
    → IsMember k d ms → Contains (flawed_places flaw room d) q → Contains (flawed_members flaw room ms) (member_step k ++ q)
member_listed flaw room k json.no_members d q found listed = absurd found
member_listed flaw room k (json.member l e ms) d q found listed =
    let ps = map (λ r. member_step l ++ r) (flawed_places flaw room e) in
    elim found [
      | inl is ↦
          let first = mapped (λ r. member_step l ++ r) (flawed_places flaw room e) q
          (subst (λ v. Contains (flawed_places flaw room v) q) is.1 listed) in
          subst (λ n. Contains (ps ++ flawed_members flaw room ms) (member_step n ++ q)) (sym is.0)
          (Contains-append_left ps (flawed_members flaw room ms) (member_step l ++ q) first)
      | inr later ↦ Contains-append_right ps (flawed_members flaw room ms) (member_step k ++ q)
          (member_listed flaw room k ms d q later listed)
    ]

step_listed : (flaw : Flaw) (room : ℕ) (step : Step) (d next : json.Data) (q : List ℕ)
    → Goes step d next → Contains (flawed_places flaw (room - 1) next) q → Contains (flawed_places flaw room d) (step_text step ++ q)
step_listed flaw room (to_item i) json.null next q goes listed = absurd (cc)
step_listed flaw room (to_item i) (json.boolean b) next q goes listed = absurd (cc)
step_listed flaw room (to_item i) (json.number n) next q goes listed = absurd (cc)
step_listed flaw room (to_item i) (json.string s) next q goes listed = absurd (cc)
step_listed flaw room (to_item i) (json.array ds) next q goes listed =
    let from_first : 0 + i ≡ i = omega arith in
    Contains-append_right (here (has_flaw flaw room (json.array ds))) (flawed_items flaw (room - 1) 0 ds) (item_step i ++ q)
    (subst (λ n. Contains (flawed_items flaw (room - 1) 0 ds) (item_step n ++ q)) from_first
    (item_listed flaw (room - 1) 0 i ds next q goes listed))
step_listed flaw room (to_item i) (json.object ms) next q goes listed = absurd (cc)
step_listed flaw room (to_member k) json.null next q goes listed = absurd goes
step_listed flaw room (to_member k) (json.boolean b) next q goes listed = absurd goes
step_listed flaw room (to_member k) (json.number n) next q goes listed = absurd goes
step_listed flaw room (to_member k) (json.string s) next q goes listed = absurd goes
step_listed flaw room (to_member k) (json.array ds) next q goes listed = absurd goes
step_listed flaw room (to_member k) (json.object ms) next q goes listed =
    Contains-append_right (here (has_flaw flaw room (json.object ms))) (flawed_members flaw (room - 1) ms) (member_step k ++ q)
    (member_listed flaw (room - 1) k ms next q goes listed)

reached_listed : (flaw : Flaw) (room : ℕ) (steps : List Step) (d place : json.Data)
    → Go steps d place → has_flaw flaw (room - length steps) place ≡ true → Contains (flawed_places flaw room d) (flat_map step_text steps)
reached_listed flaw room [] d place is flawed =
    let whole : room - 0 ≡ room = omega arith in
    itself_listed flaw room d (subst (λ v. has_flaw flaw room v ≡ true) (sym is) (subst (λ n. has_flaw flaw n place ≡ true) whole flawed))
reached_listed flaw room (step ∷ steps) d place go flawed =
    let (next, goes, rest) = go in
    let one_less : room - suc (length steps) ≡ room - 1 - length steps = omega arith in
    step_listed flaw room step d next (flat_map step_text steps) goes
    (reached_listed flaw (room - 1) steps next place rest (subst (λ n. has_flaw flaw n place ≡ true) one_less flawed))

leading_listed : (flaw : Flaw) (room : ℕ) (d : json.Data) (p : List ℕ) → LeadsToFlaw flaw room d p → Contains (flawed_places flaw room d) p
leading_listed flaw room d p leads =
    subst (Contains (flawed_places flaw room d)) (sym leads.spelled)
    (reached_listed flaw room leads.steps d leads.place leads.reached leads.flawed)

pub listed_iff_leading : (flaw : Flaw) (room : ℕ) (d : json.Data) (p : List ℕ)
    → Contains (flawed_places flaw room d) p ↔ LeadsToFlaw flaw room d p
listed_iff_leading flaw room d p = (leads_there flaw room d p, leading_listed flaw room d p)
