-- The value that outputs give a variable, at worked values.
use Rattle.std.proofs.Common.{◌≡◌, refl, [], ◌∷◌, Option, Some, None}
use Rattle.std.specs.Prelude.{codes}
use Rattle.wf_val.specs.ValueTree.{ValueTree, null, text}
use Rattle.wf_data.specs.Made.{one_member}
use Rattle.wf_data.proofs.RowParts.{plus, items, fields}
use Rattle.wf_variables.specs.Given.{gives}
use Rattle.wf_variables.specs.Initials.{given_item}

abbrev body : ValueTree → ValueTree
body t = one_member (codes "body") t

abbrev given_to_v : ValueTree → Option ValueTree
given_to_v t = gives (codes "v") t

given-one : given_to_v (body (given_item (codes "v") (plus 3))) ≡ Some (plus 3)
given-one = refl

-- a value that is a list is one variable's
given-list :
    given_to_v (body (given_item (codes "v") (items (given_item (codes "v") (plus 1) ∷ []))))
    ≡ Some (items (given_item (codes "v") (plus 1) ∷ []))
given-list = refl

given-several : given_to_v (body (items (given_item (codes "u") (plus 1) ∷ given_item (codes "v") (plus 3) ∷ []))) ≡ Some (plus 3)
given-several = refl

given-first : given_to_v (body (items (given_item (codes "v") (plus 1) ∷ given_item (codes "v") (plus 3) ∷ []))) ≡ Some (plus 1)
given-first = refl

given-null : given_to_v (body (given_item (codes "v") null)) ≡ Some null
given-null = refl

given-other_name : given_to_v (body (given_item (codes "u") (plus 3))) ≡ None
given-other_name = refl

given-other_case : given_to_v (body (given_item (codes "V") (plus 3))) ≡ None
given-other_case = refl

given-longer_name : given_to_v (body (items (given_item (codes "v1") (plus 3) ∷ given_item [] (plus 3) ∷ []))) ≡ None
given-longer_name = refl

given-no_text : given_to_v (body (fields ((codes "name", null) ∷ (codes "value", plus 3) ∷ []))) ≡ None
given-no_text = refl

given-no_member : given_to_v (body (one_member (codes "name") (text (codes "v")))) ≡ None
given-no_member = refl

given-no_body : given_to_v (given_item (codes "v") (plus 3)) ≡ None
given-no_body = refl

given-no_outputs : given_to_v null ≡ None
given-no_outputs = refl

given-no_items : given_to_v (body (items [])) ≡ None
given-no_items = refl
