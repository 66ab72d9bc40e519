-- The places of worked values in a form made up for them: a map of points, each with two coordinates up to 9, a list of tags that may be
-- left out, and nothing else. An origin that isn't told is amiss beside.
use Rattle.std.proofs.Common.{◌≡◌, ℕ, List, [], ◌∷◌, Bool, true, false, Some, None, Option, pos, refl, nat_le, bytes_eq, is_none}
use Rattle.std.specs.Fmt.{digits}
use Rattle.std.specs.Prelude.{codes, if◌then◌else◌}
use Rattle.wf_json.specs.Pointer.{least, flagged}
use Rattle.wf_places.specs.Form.{Form, places}
use Rattle.wf_places.specs.Least.{IsLeastOf}
use Rattle.wf_val.specs.Get.{get, is_object}
use Rattle.wf_val.specs.ValueTree.{ValueTree, null, number, text, list, object, trees, members, Member}

data Role : Type 0 where
  plan : Role
  point : Role
  coordinate : Role
  tags : Role
  tag : Role

abbrev is_list : ValueTree → Bool
is_list (list ts) = true
is_list t = false

abbrev is_text : ValueTree → Bool
is_text (text s) = true
is_text t = false

abbrev is_coordinate : ValueTree → Bool
is_coordinate (number (pos n)) = nat_le n 9
is_coordinate t = false

abbrev right : Role → ValueTree → Bool
right plan t = is_object t
right point t = is_object t
right coordinate t = is_coordinate t
right tags t = is_list t
right tag t = is_text t

abbrev needed : Role → List (List ℕ)
needed point = codes "y" ∷ codes "x" ∷ []
needed role = []

abbrev closed : Role → Bool
closed point = true
closed role = false

abbrev point_member : List ℕ → Option Role
point_member k =
    if bytes_eq k (codes "x") then Some coordinate
    else (if bytes_eq k (codes "y") then Some coordinate else (if bytes_eq k (codes "t~g/s") then Some tags else None))

abbrev member_role : Role → List ℕ → Option Role
member_role plan k = if bytes_eq k (codes "note") then None else Some point
member_role point k = point_member k
member_role role k = None

abbrev item_role : Role → Option Role
item_role tags = Some tag
item_role role = None

abbrev origin : Role → ValueTree → List (List ℕ)
origin plan t = flagged (is_none (get (codes "origin") t)) (codes "origin")
origin role t = []

abbrev form : Form Role
form = record { is_right = right; needed = needed; is_closed = closed; member = member_role; item = item_role; beside = origin }

abbrev all : ValueTree → List (List ℕ)
all t = places form plan t

abbrev of : List Member → ValueTree
of ms = object (members ms)

abbrev n : ℕ → ValueTree
n k = number (pos k)

-- the plan with an origin, and a point under the name p
abbrev with_point : ValueTree → ValueTree
with_point t = of ((codes "origin", of ((codes "x", n 0) ∷ (codes "y", n 0) ∷ [])) ∷ (codes "p", t) ∷ [])

right-bounds : all (with_point (of ((codes "x", n 0) ∷ (codes "y", n 9) ∷ []))) ≡ []
right-bounds = refl

-- a value of the wrong kind is named, and what is in it isn't looked at; what it lacks would stand below it
wrong-kind : places form point (list (trees (n 10 ∷ []))) ≡ [] ∷ codes "/y" ∷ codes "/x" ∷ []
wrong-kind = refl

wrong-kind_least : least (places form point (list (trees (n 10 ∷ [])))) ≡ Some []
wrong-kind_least = refl

wrong-inside : all (with_point (of ((codes "x", n 10) ∷ (codes "y", null) ∷ []))) ≡ codes "/p/x" ∷ codes "/p/y" ∷ []
wrong-inside = refl

-- a member that isn't there is named where it would stand; a null is there
missing-one : all (with_point (of ((codes "x", n 1) ∷ []))) ≡ codes "/p/y" ∷ []
missing-one = refl

missing-both : least (all (with_point (of []))) ≡ Some (codes "/p/x")
missing-both = refl

-- a member too many is named itself, and what is in it isn't looked at
further-closed : all (with_point (of ((codes "x", n 1) ∷ (codes "y", n 1) ∷ (codes "z", list (trees (n 10 ∷ []))) ∷ [])))
    ≡ codes "/p/z" ∷ []
further-closed = refl

-- where others are allowed, nothing is asked of one without a role
further-open : all (of ((codes "note", n 10) ∷ (codes "origin", of ((codes "x", n 0) ∷ (codes "y", n 0) ∷ [])) ∷ [])) ≡ []
further-open = refl

-- what is found beside
beside-origin : all (of []) ≡ codes "/origin" ∷ []
beside-origin = refl

-- items, and names that a pointer escapes; the least by bytes is no step's least
abbrev with_tags : List ValueTree → ValueTree
with_tags ts = of ((codes "x", n 1) ∷ (codes "y", n 1) ∷ (codes "t~g/s", list (trees ts)) ∷ [])

items-right : places form point (with_tags (text [] ∷ text [] ∷ [])) ≡ []
items-right = refl

items-wrong : places form point (with_tags (n 1 ∷ text [] ∷ null ∷ [])) ≡ codes "/t~0g~1s/0" ∷ codes "/t~0g~1s/2" ∷ []
unfolding digits
items-wrong = refl

abbrev eleven : List ValueTree
eleven = text [] ∷ text [] ∷ n 1 ∷ text [] ∷ text [] ∷ text [] ∷ text [] ∷ text [] ∷ text [] ∷ text [] ∷ n 1 ∷ []

items-least : least (places form point (with_tags eleven)) ≡ Some (codes "/t~0g~1s/10")
unfolding digits
items-least = refl

-- a list whose items have no role isn't walked through
items-no_role : places form plan (list (trees (n 10 ∷ []))) ≡ [] ∷ codes "/origin" ∷ []
items-no_role = refl

-- the least of them is one of them; where there is none there are none
least-none : IsLeastOf (all (with_point (of ((codes "x", n 0) ∷ (codes "y", n 9) ∷ [])))) None
least-none = refl
