-- THE VALUE THAT OUTPUTS GIVE A VARIABLE: those of an action on variables which Succeeded name one variable, or several in a list.
use Rattle.std.specs.Prelude.{ℕ, List, [], ◌∷◌, Option, Some, None, codes, bytes_eq, if◌then◌else◌}
use Rattle.wf_val.specs.Get.{get}
use Rattle.wf_val.specs.ValueTree.{ValueTree, text, list, items}

-- the value that an item gives the variable: its member `value`, where its member `name` is the variable's name
abbrev pub named_value : List ℕ → Option ValueTree → Option ValueTree → Option ValueTree
named_value k (Some (text s)) value = if bytes_eq s k then value else None
named_value k name value = None

abbrev pub item_value : List ℕ → ValueTree → Option ValueTree
item_value k t = named_value k (get (codes "name") t) (get (codes "value") t)

-- the first item of the name counts
abbrev pub or_else : Option ValueTree → Option ValueTree → Option ValueTree
or_else (Some t) other = Some t
or_else None other = other

abbrev pub items_value : List ℕ → List ValueTree → Option ValueTree
items_value k [] = None
items_value k (t ∷ ts) = or_else (item_value k t) (items_value k ts)

abbrev pub body_value : List ℕ → Option ValueTree → Option ValueTree
body_value k None = None
body_value k (Some (list ts)) = items_value k (items ts)
body_value k (Some t) = item_value k t

-- the value that outputs give a variable
abbrev pub gives : List ℕ → ValueTree → Option ValueTree
gives k outputs = body_value k (get (codes "body") outputs)
