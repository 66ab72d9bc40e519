-- What a member may hold. An absent one is None; null is there.
use Rattle.std.specs.Prelude.{ℕ, pos, nat_le, List, Bool, true, false, ◌&&◌, Option, Some, None, codes}
use Rattle.wf_val.specs.ValueTree.{ValueTree, number, text, list, object}
use Rattle.wf_val.specs.Get.{get}

abbrev pub is_text : Option ValueTree → Bool
is_text (Some (text s)) = true
is_text t = false

abbrev pub is_list : Option ValueTree → Bool
is_list (Some (list ts)) = true
is_list t = false

abbrev pub is_object : Option ValueTree → Bool
is_object (Some (object ms)) = true
is_object t = false

-- where present, it is of this form
abbrev pub absent_or : (ValueTree → Bool) → Option ValueTree → Bool
absent_or is_right None = true
absent_or is_right (Some t) = is_right t

abbrev pub is_whole_from_to : ℕ → ℕ → ValueTree → Bool
is_whole_from_to least most (number (pos n)) = nat_le least n && nat_le n most
is_whole_from_to least most t = false

-- The member of what may be there: along a path of names something is there where each is an object that has the next.
abbrev pub get_in : List ℕ → Option ValueTree → Option ValueTree
get_in name None = None
get_in name (Some t) = get name t

-- a member of an action's `inputs`
abbrev pub input : List ℕ → ValueTree → Option ValueTree
input name t = get_in name (get (codes "inputs") t)
