-- Where no list or object is too deep, the value nests no deeper than there was room for.
use Rattle.std.proofs.Common.{◌≡◌, ℕ, zero, suc, ◌-◌, ◌≤◌, List, [], ◌∷◌, ◌++◌, map, Option, Some, None, Ok, refl, subst, arith}
use Rattle.serde_json.specs.Data as json
use Rattle.wf_val.specs.ValueTree as value
use Rattle.wf_json.specs.Pointer.{least}
use Rattle.wf_json.specs.Read.{flawed_places, flawed_items, flawed_members, value_of, values_of, members_of, value_unless, read_json}
use Rattle.wf_json.specs.Read.{read_value, json_of}
use Rattle.wf_json.specs.declared.fault.Flaw.{Flaw}
use Rattle.wf_json.proofs.PointerLemmas.{least-none}

none_in_parts : {X : Type 0} (xs ys : List X) → xs ++ ys ≡ [] → (xs ≡ []) × (ys ≡ [])
none_in_parts [] ys h = (refl, h)
none_in_parts (x ∷ xs) ys h = cc

none_mapped : {X Y : Type 0} (f : X → Y) (xs : List X) → map f xs ≡ [] → xs ≡ []
none_mapped f [] h = refl
none_mapped f (x ∷ xs) h = cc

mutual
  pub shallow : (room : ℕ) (d : json.Data) → flawed_places Flaw.TooDeep room d ≡ [] → value.depth (value_of d) ≤ room
  shallow room json.null h = omega arith
  shallow room (json.boolean b) h = omega arith
  shallow room (json.number n) h = omega arith
  shallow room (json.string s) h = omega arith
  shallow zero (json.array ds) h = cc
  shallow (suc r) (json.array ds) h = let inner = shallow_items (suc r - 1) 0 ds ((none_in_parts _ _ h).1) in omega (arith, inner)
  shallow zero (json.object ms) h = cc
  shallow (suc r) (json.object ms) h = let inner = shallow_members (suc r - 1) ms ((none_in_parts _ _ h).1) in omega (arith, inner)

  shallow_items : (room place : ℕ) (ds : json.Items) → flawed_items Flaw.TooDeep room place ds ≡ []
      → value.trees_depth (values_of ds) ≤ room
  shallow_items room place json.no_items h = omega arith
  shallow_items room place (json.item d ds) h =
      let parts = none_in_parts _ _ h in
      let first = shallow room d (none_mapped _ _ parts.0) in
      let rest = shallow_items room (suc place) ds parts.1 in omega (arith, first, rest)

  shallow_members : (room : ℕ) (ms : json.Members) → flawed_members Flaw.TooDeep room ms ≡ [] → value.members_depth (members_of ms) ≤ room
  shallow_members room json.no_members h = omega arith
  shallow_members room (json.member k d ms) h =
      let parts = none_in_parts _ _ h in
      let first = shallow room d (none_mapped _ _ parts.0) in
      let rest = shallow_members room ms parts.1 in omega (arith, first, rest)

none_deep : (whole deep : Option (List ℕ)) (v t : value.ValueTree) → value_unless whole deep v ≡ Ok t → (deep ≡ None) × (v ≡ t)
none_deep (Some p) deep v t is = absurd (cc)
none_deep None (Some p) v t is = absurd (cc)
none_deep None None v t is = (refl, cc)

shallow_json : (o : Option json.Data) (t : value.ValueTree) → read_json o ≡ Ok t → value.depth t ≤ 120
shallow_json None t is = absurd (cc)
shallow_json (Some d) t is =
    let (none, same) = none_deep (least (flawed_places Flaw.NotWhole 120 d)) (least (flawed_places Flaw.TooDeep 120 d)) (value_of d) t is in
    subst (λ v. value.depth v ≤ 120) same (shallow 120 d (least-none (flawed_places Flaw.TooDeep 120 d) none))

pub read_value-shallow : (bytes : List ℕ) (t : value.ValueTree) → read_value bytes ≡ Ok t → value.depth t ≤ 120
read_value-shallow bytes t is = shallow_json (json_of bytes) t is
