-- A pointer is listed exactly where something is amiss there.
use Rattle.std.proofs.Common.{◌≡◌, ◌↔◌, ℕ, zero, suc, ◌+◌, ◌⊎◌, List, [], ◌∷◌, ◌++◌, map, slice_get, Bool, true, false, not, Option, Some, None, is_none}
use Rattle.std.proofs.Common.{inl, inr, refl, sym, ap, ◌∙◌, subst, arith, append-nil}
use Rattle.std.specs.List.{Contains}
use Rattle.std.proofs.lemmas.List.Elements.{Contains-append_left, Contains-append_right, Contains-append_cases, Contains-push_cases}
use Rattle.wf_json.specs.Pointer.{here, flagged, item_step, member_step}
use Rattle.wf_places.specs.Amiss.{IsAmiss, wrong, missing, beside, further, in_member, in_item}
use Rattle.wf_places.specs.Form.{Form, own, lacking, in_part, in_list, in_items, in_members, places}
use Rattle.wf_val.specs.Get.{get}
use Rattle.wf_val.specs.ValueTree.{ValueTree, null, boolean, number, text, list, object, ValueTrees, no_values, value_then, items, MemberTrees, no_members, member_then, pairs, Member}

-- ---- elements

none_in_nothing : {X : Type 0} (y : X) → Contains [] y → ⊥
none_in_nothing y c = let within = c.1 in omega arith

first_listed : {X : Type 0} (x : X) (xs : List X) → Contains (x ∷ xs) x
first_listed x xs = (0, omega arith, refl)

first_or_rest : {X : Type 0} (x : X) (xs : List X) (y : X) → Contains (x ∷ xs) y → (x ≡ y) ⊎ Contains xs y
first_or_rest x xs y c = elim (Contains-append_cases (x ∷ []) xs y c) [
  | inl one ↦ elim (Contains-push_cases [] x y one) [ inl none ↦ absurd (none_in_nothing y none) | inr is ↦ inl is ]
  | inr rest ↦ inr rest
]

from_mapped : {X Y : Type 0} (f : X → Y) (xs : List X) (y : Y) → Contains (map f xs) y → (x : X) × Contains xs x × (y ≡ f x)
from_mapped f [] y c = absurd (none_in_nothing y c)
from_mapped f (x ∷ xs) y c = elim (first_or_rest (f x) (map f xs) y c) [
  | inl is ↦ (x, first_listed x xs, sym is)
  | inr rest ↦ let (z, listed, is) = from_mapped f xs y rest in (z, Contains-append_right (x ∷ []) xs z listed, is)
]

mapped : {X Y : Type 0} (f : X → Y) (xs : List X) (x : X) → Contains xs x → Contains (map f xs) (f x)
mapped f [] x c = absurd (none_in_nothing x c)
mapped f (z ∷ xs) x c = elim (first_or_rest z xs x c) [
  | inl is ↦ subst (λ y. Contains (f z ∷ map f xs) (f y)) is (first_listed (f z) (map f xs))
  | inr rest ↦ Contains-append_right (f z ∷ []) (map f xs) (f x) (mapped f xs x rest)
]

is_here : (flawed : Bool) (p : List ℕ) → Contains (here flawed) p → (flawed ≡ true) × (p ≡ [])
is_here true p c = elim (first_or_rest [] [] p c) [ inl is ↦ (refl, sym is) | inr none ↦ absurd (none_in_nothing p none) ]
is_here false p c = absurd (none_in_nothing p c)

is_flagged : (flawed : Bool) (name p : List ℕ) → Contains (flagged flawed name) p → (flawed ≡ true) × (p ≡ member_step name)
is_flagged true name p c = elim (first_or_rest (member_step name) [] p c) [
  | inl is ↦ (refl, sym is)
  | inr none ↦ absurd
      (none_in_nothing p none)
]
is_flagged false name p c = absurd (none_in_nothing p c)

of_false : (b : Bool) → not b ≡ true → b ≡ false
of_false true is = cc
of_false false is = refl

of_none : {X : Type 0} (o : Option X) → is_none o ≡ true → o ≡ None
of_none None is = refl
of_none (Some x) is = cc

module _ {R : Type 0} (form : Form R) where
  -- ---- what is listed is amiss

  lacking_amiss : (names : List (List ℕ)) (t : ValueTree) (p : List ℕ) → Contains (lacking names t) p
      → (name : List ℕ) × Contains names name × (get name t ≡ None) × (p ≡ member_step name)
  lacking_amiss [] t p c = absurd (none_in_nothing p c)
  lacking_amiss (name ∷ names) t p c = elim (Contains-append_cases (flagged (is_none (get name t)) name) (lacking names t) p c) [
    | inl first ↦
        let (none, is) = is_flagged (is_none (get name t)) name p first in
        (name, first_listed name names, of_none (get name t) none, is)
    | inr later ↦
        let (other, listed, none, is) = lacking_amiss names t p later in
        (other, Contains-append_right (name ∷ []) names other listed, none, is)
  ]

  own_amiss : (role : R) (t : ValueTree) (p : List ℕ) → Contains (own form role t) p → IsAmiss form role t p
  own_amiss role t p c = elim (Contains-append_cases (here (not (form.is_right role t))) (lacking
      (form.needed role) t ++ form.beside role t) p c) [
        | inl itself ↦
            let (not_right, is) = is_here (not (form.is_right role t)) p itself in
            subst (IsAmiss form role t) (sym is) (wrong (of_false (form.is_right role t) not_right))
        | inr others ↦ elim (Contains-append_cases (lacking (form.needed role) t) (form.beside role t) p others) [
          | inl lacks ↦
              let (name, listed, none, is) = lacking_amiss (form.needed role) t p lacks in
              subst (IsAmiss form role t) (sym is) (missing listed none)
          | inr found ↦ beside found
        ]
      ]

  -- what is amiss in a part that has a role, or none
  abbrev PartAmiss : Bool → Option R → ValueTree → List ℕ → Type 0
  PartAmiss closed None t p = (closed ≡ true) × (p ≡ [])
  PartAmiss closed (Some part) t p = IsAmiss form part t p

  abbrev InMembers : R → MemberTrees → List ℕ → Type 0
  InMembers role ms p =
      (name : List ℕ) × (u : ValueTree) × (q : List ℕ) × Contains (pairs ms) (name, u) × (p ≡ member_step name ++ q)
      × PartAmiss (form.is_closed role) (form.member role name) u q

  abbrev InItems : R → ℕ → ValueTrees → List ℕ → Type 0
  InItems part start ts p =
      (i : ℕ) × (u : ValueTree) × (q : List ℕ) × (slice_get (items ts) i ≡ Some u) × (p
      ≡ item_step (start + i) ++ q) × IsAmiss form part u q

  member_amiss : (role : R) (ms : MemberTrees) (name : List ℕ) (u : ValueTree) (q : List ℕ) (part : Option R) → form.member role name ≡ part
      → Contains (pairs ms) (name, u) → PartAmiss (form.is_closed role) part u q → IsAmiss form role (object ms) (member_step name ++ q)
  member_amiss role ms name u q None is listed amiss =
      subst (IsAmiss form role (object ms)) (sym (ap (λ q. member_step name ++ q) amiss.1
      ∙ append-nil (member_step name))) (further listed amiss.0 is)
  member_amiss role ms name u q (Some part) is listed amiss = in_member listed is amiss

  in_part_amiss : (closed : Bool) (part : Option R) (t : ValueTree) (q : List ℕ)
      → ((part : R) → Contains (places form part t) q → IsAmiss form part t q)
      → Contains (in_part closed part (λ part. places form part t)) q → PartAmiss closed part t q
  in_part_amiss closed None t q inside c = is_here closed q c
  in_part_amiss closed (Some part) t q inside c = inside part c

  in_list_amiss : (role : R) (ts : ValueTrees) (p : List ℕ) (part : Option R) → form.item role ≡ part
      → ((part : R) → Contains (in_items form part 0 ts) p → InItems part 0 ts p)
      → Contains (in_list part (λ part. in_items form part 0 ts)) p → IsAmiss form role (list ts) p
  in_list_amiss role ts p None is inside c = absurd (none_in_nothing p c)
  in_list_amiss role ts p (Some part) is inside c =
      let (i, u, q, found, spelled, amiss) = inside part c in
      let from_first : 0 + i ≡ i = omega arith in
      subst (IsAmiss form role (list ts)) (sym (subst (λ n. p ≡ item_step n ++ q) from_first spelled)) (in_item i found is amiss)

  mutual
    pub listed_amiss : (role : R) (t : ValueTree) (p : List ℕ) → Contains (places form role t) p → IsAmiss form role t p
    listed_amiss role null p c = own_amiss role null p c
    listed_amiss role (boolean b) p c = own_amiss role (boolean b) p c
    listed_amiss role (number n) p c = own_amiss role (number n) p c
    listed_amiss role (text s) p c = own_amiss role (text s) p c
    listed_amiss role (list ts) p c =
        elim (Contains-append_cases (own form role (list ts)) (in_list (form.item role) (λ part. in_items form part 0 ts)) p c) [
          | inl itself ↦ own_amiss role (list ts) p itself
          | inr inside ↦ in_list_amiss role ts p (form.item role) refl (λ part. listed_in_items part 0 ts p) inside
        ]
    listed_amiss role (object ms) p c =
        elim (Contains-append_cases (own form role (object ms)) (in_members form role ms) p c) [
          | inl itself ↦ own_amiss role (object ms) p itself
          | inr inside ↦
              let (name, u, q, listed, is, amiss) = listed_in_members role ms p inside in
              subst (IsAmiss form role (object ms)) (sym is) (member_amiss role ms name u q (form.member role name) refl listed amiss)
        ]

    listed_in_items : (part : R) (start : ℕ) (ts : ValueTrees) (p : List ℕ) → Contains (in_items form part start ts) p
        → InItems part start ts p
    listed_in_items part start no_values p c = absurd (none_in_nothing p c)
    listed_in_items part start (value_then t ts) p c =
        elim (Contains-append_cases (map (λ q. item_step start ++ q) (places form part t)) (in_items form part (suc start) ts) p c) [
          | inl first ↦
              let (q, listed, is) = from_mapped (λ q. item_step start ++ q) (places form part t) p first in
              let itself : start ≡ start + 0 = omega arith in
              (0, t, q, refl, subst (λ n. p ≡ item_step n ++ q) itself is, listed_amiss part t q listed)
          | inr later ↦
              let (i, u, q, found, is, amiss) = listed_in_items part (suc start) ts p later in
              let same : suc start + i ≡ start + suc i = omega arith in
              (suc i, u, q, found, subst (λ n. p ≡ item_step n ++ q) same is, amiss)
        ]

    listed_in_members : (role : R) (ms : MemberTrees) (p : List ℕ) → Contains (in_members form role ms) p → InMembers role ms p
    listed_in_members role no_members p c = absurd (none_in_nothing p c)
    listed_in_members role (member_then name t ms) p c =
        let inside = in_part (form.is_closed role) (form.member role name) (λ part. places form part t) in
        elim (Contains-append_cases (map (λ q. member_step name ++ q) inside) (in_members form role ms) p c) [
          | inl first ↦
              let (q, listed, is) = from_mapped (λ q. member_step name ++ q) inside p first in (
                name,
                t,
                q,
                first_listed (name, t) (pairs ms),
                is,
                in_part_amiss (form.is_closed role) (form.member role name) t q
                    (λ part. listed_amiss part t q) listed,
              )
          | inr later ↦
              let (other, u, q, listed, is, amiss) = listed_in_members role ms p later in
              (other, u, q, Contains-append_right ((name, t) ∷ []) (pairs ms) (other, u) listed, is, amiss)
        ]

  -- ---- and what is amiss is listed

  own_listed : (role : R) (t : ValueTree) (p : List ℕ) → Contains (own form role t) p → Contains (places form role t) p
  own_listed role null p c = c
  own_listed role (boolean b) p c = c
  own_listed role (number n) p c = c
  own_listed role (text s) p c = c
  own_listed role (list ts) p c = Contains-append_left (own form role (list ts)) (in_list (form.item role)
      (λ part. in_items form part 0 ts)) p c
  own_listed role (object ms) p c = Contains-append_left (own form role (object ms)) (in_members form role ms) p c

  lacking_listed : (names : List (List ℕ)) (t : ValueTree) (name : List ℕ) → Contains names name → get name t ≡ None
      → Contains (lacking names t) (member_step name)
  lacking_listed [] t name c none = absurd (none_in_nothing name c)
  lacking_listed (first ∷ names) t name c none = elim (first_or_rest first names name c) [
    | inl is ↦
        let lacks : get first t ≡ None = subst (λ k. get k t ≡ None) (sym is) none in
        rw lacks (subst (λ k. Contains (member_step first
        ∷ lacking names t) (member_step k)) is (first_listed (member_step first) (lacking names t)))
    | inr rest ↦
        Contains-append_right (flagged (is_none (get first t)) first) (lacking names t) (member_step name)
        (lacking_listed names t name rest none)
  ]

  wrong_listed : (role : R) (t : ValueTree) → form.is_right role t ≡ false → Contains (own form role t) []
  wrong_listed role t is = rw is (first_listed [] (lacking (form.needed role) t ++ form.beside role t))

  others_listed : (role : R) (t : ValueTree) (p : List ℕ) → Contains (lacking (form.needed role) t ++ form.beside role t) p
      → Contains (own form role t) p
  others_listed role t p c = Contains-append_right (here (not (form.is_right role t))) (lacking
      (form.needed role) t ++ form.beside role t) p c

  member_listed : (role : R) (ms : MemberTrees) (name : List ℕ) (u : ValueTree) (q : List ℕ) → Contains (pairs ms) (name, u)
      → Contains (in_part (form.is_closed role) (form.member role name) (λ part. places form part u)) q
      → Contains (in_members form role ms) (member_step name ++ q)
  member_listed role no_members name u q c inside = absurd (none_in_nothing (name, u) c)
  member_listed role (member_then first t ms) name u q c inside =
      let there = in_part (form.is_closed role) (form.member role first) (λ part. places form part t) in
      elim (first_or_rest (first, t) (pairs ms) (name, u) c) [
        | inl is ↦
            subst (λ (m : Member). Contains (in_part (form.is_closed role) (form.member role m.0) (λ part. places form part m.1)) q
            → Contains (map (λ q. member_step first ++ q) there ++ in_members form role ms) (member_step m.0 ++ q)) is
            (λ listed. Contains-append_left (map (λ q. member_step first ++ q) there) (in_members form role ms) (member_step first ++ q)
            (mapped (λ q. member_step first ++ q) there q listed)) inside
        | inr rest ↦
            Contains-append_right (map (λ q. member_step first ++ q) there) (in_members form role ms) (member_step name ++ q)
            (member_listed role ms name u q rest inside)
      ]

  item_listed : (part : R) (start i : ℕ) (ts : ValueTrees) (u : ValueTree) (q : List ℕ) → slice_get (items ts) i ≡ Some u
      → Contains (places form part u) q → Contains (in_items form part start ts) (item_step (start + i) ++ q)
  item_listed part start i no_values u q found listed = cc
  item_listed part start zero (value_then t ts) u q found listed =
      let itself : start ≡ start + 0 = omega arith in
      let same : u ≡ t = cc in
      let ps = map (λ q. item_step start ++ q) (places form part t) in
      subst (λ n. Contains (ps ++ in_items form part (suc start) ts) (item_step n ++ q)) itself
      (Contains-append_left ps (in_items form part (suc start) ts) (item_step start ++ q)
      (mapped (λ q. item_step start ++ q) (places form part t) q (subst (λ v. Contains (places form part v) q) same listed)))
  item_listed part start (suc i) (value_then t ts) u q found listed =
      let same : suc start + i ≡ start + suc i = omega arith in
      let ps = map (λ q. item_step start ++ q) (places form part t) in
      subst (λ n. Contains (ps ++ in_items form part (suc start) ts) (item_step n ++ q)) same
      (Contains-append_right ps (in_items form part (suc start) ts) (item_step (suc start + i) ++ q)
      (item_listed part (suc start) i ts u q found listed))

  inside_object : (role : R) (ms : MemberTrees) (p : List ℕ) → Contains (in_members form role ms) p
      → Contains (places form role (object ms)) p
  inside_object role ms p c = Contains-append_right (own form role (object ms)) (in_members form role ms) p c

  inside_list : (role part : R) (ts : ValueTrees) (p : List ℕ) → form.item role ≡ Some part → Contains (in_items form part 0 ts) p
      → Contains (places form role (list ts)) p
  inside_list role part ts p is c =
      Contains-append_right (own form role (list ts)) (in_list (form.item role) (λ part. in_items form part 0 ts)) p (rw is c)

  further_listed : (role : R) (ms : MemberTrees) (name : List ℕ) (u : ValueTree) → Contains (pairs ms) (name, u)
      → form.is_closed role ≡ true
      → form.member role name ≡ None → Contains (places form role (object ms)) (member_step name)
  further_listed role ms name u c closed none =
      let there : Contains (in_part (form.is_closed role) (form.member role name) (λ part. places form part u)) [] = rw (closed, none)
      (first_listed [] []) in
      subst (Contains (places form role (object ms))) (append-nil (member_step name))
      (inside_object role ms (member_step name ++ []) (member_listed role ms name u [] c there))

  pub amiss_listed : {role : R} {t : ValueTree} {p : List ℕ} → IsAmiss form role t p → Contains (places form role t) p
  amiss_listed (wrong {role} {t} is) = own_listed role t [] (wrong_listed role t is)
  amiss_listed (missing {role} {t} {name} needed none) =
      own_listed role t (member_step name) (others_listed role t (member_step name)
      (Contains-append_left (lacking (form.needed role) t) (form.beside role t) (member_step name) (lacking_listed
      (form.needed role) t name needed none)))
  amiss_listed (beside {role} {t} {p} found) =
      own_listed role t p (others_listed role t p (Contains-append_right (lacking (form.needed role) t) (form.beside role t) p found))
  amiss_listed (further {role} {ms} {name} {u} c closed none) = further_listed role ms name u c closed none
  amiss_listed (in_member {role} {part} {ms} {name} {u} {p} c is amiss) =
      inside_object role ms (member_step name ++ p) (member_listed role ms name u p c (rw is (amiss_listed amiss)))
  amiss_listed (in_item {role} {part} {ts} i {u} {p} found is amiss) =
      let from_first : 0 + i ≡ i = omega arith in
      inside_list role part ts (item_step i ++ p) is
      (subst (λ n. Contains (in_items form part 0 ts) (item_step n ++ p)) from_first (item_listed part 0 i ts u p found
      (amiss_listed amiss)))

  pub listed_iff_amiss : (role : R) (t : ValueTree) (p : List ℕ) → Contains (places form role t) p ↔ IsAmiss form role t p
  listed_iff_amiss role t p = (listed_amiss role t p, λ amiss. amiss_listed amiss)
