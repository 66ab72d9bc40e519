-- Where a value fails its schema. The schema is the role of the value and gives the roles of what is in it, so the places at which a value
-- fails are those at which it isn't of a form (wf_places).
use Rattle.std.specs.Prelude.{ℕ, List, [], false, Option, Some, None, codes}
use Rattle.wf_places.specs.Form.{Form, places}
use Rattle.wf_val.specs.Get.{get}
use Rattle.wf_val.specs.ValueTree.{ValueTree, object}
use Rattle.wf_schema.specs.Asked.{is_as_asked}

abbrev pub property_in : List ℕ → Option ValueTree → Option ValueTree
property_in name None = None
property_in name (Some t) = get name t

-- the schema of a member
abbrev pub property : ValueTree → List ℕ → Option ValueTree
property s name = property_in name (get (codes "properties") s)

-- the schema of each item; a list of schemas asks nothing
abbrev pub items_schema : Option ValueTree → Option ValueTree
items_schema (Some (object ms)) = Some (object ms)
items_schema t = None

abbrev pub item_schema : ValueTree → Option ValueTree
item_schema s = items_schema (get (codes "items") s)

abbrev pub by_schema : Form ValueTree
by_schema = record {
  is_right = is_as_asked;
  needed = λ s. [];
  is_closed = λ s. false;
  member = property;
  item = item_schema;
  beside = λ s v. [];
}

-- the pointers of all places at which a value isn't as its schema asks
abbrev pub fails : ValueTree → ValueTree → List (List ℕ)
fails s v = places by_schema s v
