-- What an object and a list hold, and the edits of an object.
use Rattle.std.specs.Prelude.{ℕ, List, Bool, true, false, Option, None, option_map, slice_get}
use Rattle.wf_val.specs.NameOrder.{find_named, without_named, put_named}
use Rattle.wf_val.specs.ValueTree.{ValueTree, list, object, items, pairs, members, Member}

-- the name of a member
abbrev pub name_of : Member → List ℕ
name_of m = m.0

abbrev pub is_object : ValueTree → Bool
is_object (object ms) = true
is_object t = false

-- the value of a name among members
abbrev pub value_of : List ℕ → List Member → Option ValueTree
value_of k ms = option_map (λ m. m.1) (find_named name_of k ms)

-- the value of a member; none where this is no object, or has no member of the name
abbrev pub get : List ℕ → ValueTree → Option ValueTree
get k (object ms) = value_of k (pairs ms)
get k t = None

-- the item at a place, counted from 0; none where this is no list, or none that long
abbrev pub item : ℕ → ValueTree → Option ValueTree
item i (list ts) = slice_get (items ts) i
item i t = None

-- an object with the value under the name, in place of the one that was there; anything else stays
abbrev pub put : List ℕ → ValueTree → ValueTree → ValueTree
put k v (object ms) = object (members (put_named name_of (k, v) (pairs ms)))
put k v t = t

-- an object without the name; anything else stays
abbrev pub without : List ℕ → ValueTree → ValueTree
without k (object ms) = object (members (without_named name_of k (pairs ms)))
without k t = t
