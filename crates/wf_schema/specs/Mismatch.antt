-- Where a value fails a schema, cause by cause: the same as `fails`, in other words. A pointer is from the value on.
use Rattle.std.specs.Prelude.{◌≡◌, ℕ, List, [], ◌++◌, Contains, Some, None, false, codes, slice_get}
use Rattle.wf_places.specs.Pointer.{item_step, member_step}
use Rattle.wf_val.specs.Get.{get}
use Rattle.wf_val.specs.ValueTree.{ValueTree, text, list, object, ValueTrees, items, MemberTrees, pairs}
use Rattle.wf_schema.specs.Asked.{is_of_type}

-- a `type` names a type: it is its name, or has it as an item
pub data NamesType : ValueTree → List ℕ → Type 0 where
  alone : {name : List ℕ} → NamesType (text name) name
  among : {ts : ValueTrees} {name : List ℕ} → Contains (items ts) (text name) → NamesType (list ts) name

pub data IsMismatch : ValueTree → ValueTree → List ℕ → Type 0 where
  -- there is a `type`, and the value is of none that it names
  of_no_type : {s v t : ValueTree} → get (codes "type") s ≡ Some t → ((name : List ℕ) → NamesType t name → is_of_type name v ≡ false)
      → IsMismatch s v []
  -- it is an object, and lacks a member that is required
  lacking : {s : ValueTree} {names : ValueTrees} {ms : MemberTrees} {name : List ℕ} → get (codes "required") s ≡ Some (list names)
      → Contains (items names) (text name) → get name (object ms) ≡ None → IsMismatch s (object ms) []
  -- there is an `enum`, and it is none of its items
  unlisted : {s v : ValueTree} {ts : ValueTrees} → get (codes "enum") s ≡ Some (list ts) → (Contains (items ts) v → ⊥) → IsMismatch s v []
  -- a member that has a schema fails it
  in_member : {s t part : ValueTree} {ms : MemberTrees} {name : List ℕ} {u : ValueTree} {p : List ℕ}
      → get (codes "properties") s ≡ Some t → get name t ≡ Some part → Contains (pairs ms) (name, u) → IsMismatch part u p
      → IsMismatch s (object ms) (member_step name ++ p)
  -- an item fails the schema of all items
  in_item : {s : ValueTree} {part : MemberTrees} {ts : ValueTrees} (i : ℕ) {u : ValueTree} {p : List ℕ}
      → get (codes "items") s ≡ Some (object part) → slice_get (items ts) i ≡ Some u → IsMismatch (object part) u p
      → IsMismatch s (list ts) (item_step i ++ p)
