-- What `Fields` find and become at the place of a name, or at the gap for it.
use Rattle.std.proofs.Common.{◌≡◌, ℕ, List, map, get_or, set, insert, remove, Some, None, option_map, IsUtf8, [], ◌∷◌, ◌++◌, ap, sym, subst}
use Rattle.std.proofs.lemmas.List.{map-append}
use Rattle.wf_val.specs.Get.{name_of, value_of}
use Rattle.wf_val.specs.NameOrder.{IsPlace, IsGap, IsAboveAll, put_named, without_named}
use Rattle.wf_val.specs.Seen.{tree, member}
use Rattle.wf_val.specs.ValueTree.{Member}
use Rattle.wf_val.specs.WellFormed.{IsWellFormed, AreMembers}
use Rattle.wf_val.specs.declared.val.Val.{Val}
use Rattle.wf_val.proofs.WellFormedLemmas.{AreMembers-put, AreMembers-append, AreMembers-without}
use Rattle.wf_val.proofs.NameOrderLemmas.{find-at_place, find-in_gap, put-at_place, put-in_gap, without-at_place, without-in_gap}

abbrev pub Entry : Type 0
Entry = List ℕ × Val

pub value-at_place : (k : List ℕ) (ms : List Entry) (i : ℕ) (d : Entry) → IsPlace name_of k (map member ms) i → value_of k (map member ms) ≡ Some (tree (get_or ms i d).1)
value-at_place k ms i d place = ap (option_map (λ (m : Member). m.1)) (find-at_place name_of member k ms i d place)

pub value-in_gap : (k : List ℕ) (ms : List Entry) (i : ℕ) → IsGap name_of k (map member ms) i → value_of k (map member ms) ≡ None
value-in_gap k ms i gap = ap (option_map (λ (m : Member). m.1)) (find-in_gap name_of member k ms i gap)

pub AreMembers-push : (k : List ℕ) (v : Val) (ms : List Entry) → IsUtf8 k → IsWellFormed (tree v) → AreMembers (map member ms) → IsAboveAll name_of k (map member ms) → AreMembers (map member (ms ++ (k, v) ∷ []))
AreMembers-push k v ms name value are above = subst AreMembers (sym (map-append member ms ((k, v) ∷ []))) (AreMembers-append (k, tree v) (map member ms) name value are above)

module _ (k : List ℕ) (v : Val) (ms : List Entry) (i : ℕ) where
  pub put-at : IsPlace name_of k (map member ms) i → put_named name_of (k, tree v) (map member ms) ≡ map member (set ms i (k, v))
  put-at = put-at_place name_of member (k, v) ms i

  pub put-in : IsGap name_of k (map member ms) i → put_named name_of (k, tree v) (map member ms) ≡ map member (insert ms i (k, v))
  put-in = put-in_gap name_of member (k, v) ms i

  pub AreMembers-set : IsUtf8 k → IsWellFormed (tree v) → AreMembers (map member ms) → IsPlace name_of k (map member ms) i → AreMembers (map member (set ms i (k, v)))
  AreMembers-set name value are place = subst AreMembers (put-at place) (AreMembers-put (k, tree v) (map member ms) name value are)

  pub AreMembers-insert : IsUtf8 k → IsWellFormed (tree v) → AreMembers (map member ms) → IsGap name_of k (map member ms) i → AreMembers (map member (insert ms i (k, v)))
  AreMembers-insert name value are gap = subst AreMembers (put-in gap) (AreMembers-put (k, tree v) (map member ms) name value are)

module _ (k : List ℕ) (ms : List Entry) (i : ℕ) where
  pub without-at : IsPlace name_of k (map member ms) i → without_named name_of k (map member ms) ≡ map member (remove ms i)
  without-at = without-at_place name_of member k ms i

  pub without-in : IsGap name_of k (map member ms) i → without_named name_of k (map member ms) ≡ map member ms
  without-in = without-in_gap name_of member k ms i

  pub AreMembers-remove : AreMembers (map member ms) → IsPlace name_of k (map member ms) i → AreMembers (map member (remove ms i))
  AreMembers-remove are place = subst AreMembers (without-at place) (AreMembers-without k (map member ms) are)
