-- What `TreeFields` become at the place of a name, or at the gap for it.
use Rattle.std.proofs.Common.{◌≡◌, ℕ, List, [], ◌∷◌, ◌++◌, map, set, insert, sym, subst}
use Rattle.std.proofs.lemmas.List.{map-append}
use Rattle.wf_val.specs.NameOrder.{IsInNameOrder, IsAboveAll, IsPlace, IsGap, put_named}
use Rattle.wf_val.proofs.NameOrderLemmas.{put-at_place, put-in_gap, in_order-put, in_order-append}
use Rattle.wf_template.specs.DataTree.{DataMember, name_of_data}
use Rattle.wf_template.specs.DataSeen.{data_tree, data_member}
use Rattle.wf_template.specs.declared.tree.Tree.{Tree}

abbrev pub InOrder : List DataMember → Type 0
InOrder ms = IsInNameOrder name_of_data ms

pub in_order-push : (k : List ℕ) (v : Tree) (ms : List (List ℕ × Tree)) → InOrder (map data_member ms)
    → IsAboveAll name_of_data k (map data_member ms) → InOrder (map data_member (ms ++ (k, v) ∷ []))
in_order-push k v ms order above =
    subst InOrder (sym (map-append data_member ms ((k, v) ∷ []))) (in_order-append name_of_data (k, data_tree v) (map data_member ms) order above)

module _ (k : List ℕ) (v : Tree) (ms : List (List ℕ × Tree)) (i : ℕ) where
  pub put-at : IsPlace name_of_data k (map data_member ms) i → put_named name_of_data (k, data_tree v) (map data_member ms) ≡ map data_member (set ms i (k, v))
  put-at = put-at_place name_of_data data_member (k, v) ms i

  pub put-in : IsGap name_of_data k (map data_member ms) i → put_named name_of_data (k, data_tree v) (map data_member ms) ≡ map data_member (insert ms i (k, v))
  put-in = put-in_gap name_of_data data_member (k, v) ms i

  pub in_order-set : InOrder (map data_member ms) → IsPlace name_of_data k (map data_member ms) i → InOrder (map data_member (set ms i (k, v)))
  in_order-set order place = subst InOrder (put-at place) (in_order-put name_of_data (k, data_tree v) (map data_member ms) order)

  pub in_order-insert : InOrder (map data_member ms) → IsGap name_of_data k (map data_member ms) i → InOrder (map data_member (insert ms i (k, v)))
  in_order-insert order gap = subst InOrder (put-in gap) (in_order-put name_of_data (k, data_tree v) (map data_member ms) order)
