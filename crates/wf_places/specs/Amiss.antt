-- What is amiss in a value, cause by cause: the same as the list of its places, in other words. A pointer is from the value on.
use Rattle.std.specs.Prelude.{◌≡◌, ℕ, List, [], ◌++◌, Contains, Some, None, true, false, slice_get}
use Rattle.wf_json.specs.Pointer.{item_step, member_step}
use Rattle.wf_places.specs.Form.{Form}
use Rattle.wf_val.specs.Get.{get}
use Rattle.wf_val.specs.ValueTree.{ValueTree, list, object, ValueTrees, items, MemberTrees, pairs}

module _ {R : Type 0} (form : Form R) where
  pub data IsAmiss : R → ValueTree → List ℕ → Type 0 where
    -- the value may not stand in its role
    wrong : {role : R} {t : ValueTree} → form.is_right role t ≡ false → IsAmiss role t []
    -- it has no member of a name that it must have
    missing : {role : R} {t : ValueTree} {name : List ℕ} → Contains (form.needed role) name → get name t ≡ None
        → IsAmiss role t (member_step name)
    -- what else its role finds
    beside : {role : R} {t : ValueTree} {p : List ℕ} → Contains (form.beside role t) p → IsAmiss role t p
    -- it has a member of a name without a role, and may not
    further : {role : R} {ms : MemberTrees} {name : List ℕ} {u : ValueTree} → Contains (pairs ms) (name, u) → form.is_closed role ≡ true
        → form.member role name ≡ None → IsAmiss role (object ms) (member_step name)
    -- something is amiss in a member
    in_member : {role part : R} {ms : MemberTrees} {name : List ℕ} {u : ValueTree} {p : List ℕ} → Contains (pairs ms) (name, u)
        → form.member role name ≡ Some part → IsAmiss part u p → IsAmiss role (object ms) (member_step name ++ p)
    -- something is amiss in an item
    in_item : {role part : R} {ts : ValueTrees} (i : ℕ) {u : ValueTree} {p : List ℕ} → slice_get (items ts) i ≡ Some u
        → form.item role ≡ Some part → IsAmiss part u p → IsAmiss role (list ts) (item_step i ++ p)
