-- One member more of a walk, and one item more.
use Rattle.std.proofs.Common.{◌≡◌, ◌+◌, ◌<◌, ◌∷◌, ℕ, suc, List, ◌++◌, map, Option, Some, None, option_map, sym, ap, ◌∙◌, length, drop, drop-cons, get_or, add-one, is_none}
use Rattle.wf_val.specs.ValueTree.{ValueTree, ValueTrees, value_then, MemberTrees, member_then, object, list}
use Rattle.wf_json.specs.Pointer.{flagged, member_step, item_step, lesser, least}
use Rattle.wf_val.specs.Get.{get}
use Rattle.wf_places.specs.Form.{Form, own, lacking, in_part, in_list, in_items, in_members, places}
use Rattle.wf_json.proofs.PointerLemmas.{lesser-assoc, least-append, least-front, least-none, least-IsLeast}
use Rattle.wf_places.specs.Least.{IsLeastOf}

-- a front is put before the least of what is found behind it
behind : (front : List ℕ) (best best' rest : Option (List ℕ)) (ps qs : List (List ℕ))
    → rest ≡ least ps → best' ≡ lesser best (option_map (λ p. front ++ p) rest)
    → lesser best' (least qs) ≡ lesser best (least (map (λ p. front ++ p) ps ++ qs))
behind front best best' rest ps qs found now =
    ap (λ o. lesser o (least qs)) (now ∙ ap (λ r. lesser best (option_map (λ p. front ++ p) r)) found)
    ∙ sym (lesser-assoc best (option_map (λ p. front ++ p) (least ps)) (least qs))
    ∙ ap (lesser best) (ap (λ o. lesser o (least qs)) (sym (least-front front ps)) ∙ sym (least-append (map (λ p. front ++ p) ps) qs))

-- the least of two lists of pointers behind one another
pub least_append : (ps qs : List (List ℕ)) → least (ps ++ qs) ≡ lesser (least ps) (least qs)
least_append = least-append

module _ {R : Type 0} (form : Form R) (role : R) where
  pub member_more : (best best' rest : Option (List ℕ)) (k : List ℕ) (t : ValueTree) (ms : MemberTrees)
      → rest ≡ least (in_part (form.is_closed role) (form.member role k) (λ part. places form part t))
      → best' ≡ lesser best (option_map (λ p. member_step k ++ p) rest)
      → lesser best' (least (in_members form role ms)) ≡ lesser best (least (in_members form role (member_then k t ms)))
  member_more best best' rest k t ms found now =
      behind (member_step k) best best' rest (in_part (form.is_closed role) (form.member role k) (λ part. places form part t))
      (in_members form role ms) found now

  pub item_more : (best best' rest : Option (List ℕ)) (place : ℕ) (t : ValueTree) (ts : ValueTrees)
      → rest ≡ least (places form role t)
      → best' ≡ lesser best (option_map (λ p. item_step place ++ p) rest)
      → lesser best' (least (in_items form role (suc place) ts)) ≡ lesser best (least (in_items form role place (value_then t ts)))
  item_more best best' rest place t ts found now =
      behind (item_step place) best best' rest (places form role t) (in_items form role (suc place) ts) found now

  pub own_and_members : (ms : MemberTrees)
      → least (places form role (object ms)) ≡ lesser (least (own form role (object ms))) (least (in_members form role ms))
  own_and_members ms = least-append (own form role (object ms)) (in_members form role ms)

  pub own_and_items : (ts : ValueTrees) → least (places form role (list ts))
      ≡ lesser (least (own form role (list ts))) (least (in_list (form.item role) (λ part. in_items form part 0 ts)))
  own_and_items ts = least-append (own form role (list ts)) (in_list (form.item role) (λ part. in_items form part 0 ts))

-- the list from a place on
pub drop_at_place : {X : Type 0} (xs : List X) (i : ℕ) (x : X) → i < length xs → x ≡ get_or xs i x → drop i xs ≡ x ∷ drop (i + 1) xs
drop_at_place xs i x within is = rw add-one (drop-cons xs i x within ∙ ap (λ y. y ∷ drop (suc i) xs) (sym is))

-- one name more of those that an object must have
pub lacking_step : (best : Option (List ℕ)) (k : List ℕ) (ks : List (List ℕ)) (t : ValueTree)
    → lesser best (least (lacking (k ∷ ks) t)) ≡ lesser (lesser best (least (flagged (is_none (get k t)) k))) (least (lacking ks t))
lacking_step best k ks t =
    ap (lesser best) (least-append (flagged (is_none (get k t)) k) (lacking ks t))
    ∙ lesser-assoc best (least (flagged (is_none (get k t)) k)) (least (lacking ks t))

pub drop_place : {X : Type 0} (xs : List X) (i : ℕ) (d : X) → i < length xs → drop i xs ≡ get_or xs i d ∷ drop (i + 1) xs
drop_place xs i d within = rw add-one (drop-cons xs i d within)

-- what is answered as the least is the least of them
pub least_of : (ps : List (List ℕ)) (o : Option (List ℕ)) → o ≡ least ps → IsLeastOf ps o
least_of ps None is = least-none ps (sym is)
least_of ps (Some p) is = least-IsLeast ps p (sym is)
