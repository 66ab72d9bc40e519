-- Looks that worked values share.
use Rattle.std.proofs.Common.{ℕ, zero, suc, ◌-◌, ◌^◌, List, [], ◌∷◌, Option, true, false, None, Some}
use Rattle.std.specs.Prelude.{pos, codes, if◌then◌else◌, bytes_eq}
use Rattle.wf_val.specs.ValueTree.{ValueTree, null, boolean, text, list, object, trees, members}
use Rattle.wf_look.specs.Told.{Told}

-- lists in lists, so many deep
abbrev pub nested : ℕ → ValueTree
nested zero = null
nested (suc n) = list (trees (nested n ∷ []))

abbrev pub one_member : List ℕ → ValueTree → ValueTree
one_member k t = object (members ((k, t) ∷ []))

abbrev pub with_outputs : ValueTree → ValueTree
with_outputs t = one_member (codes "outputs") t

abbrev pub with_body : ValueTree → ValueTree
with_body t = with_outputs (one_member (codes "body") t)

-- a list of views; what is no object has no outputs
abbrev pub three_views : ValueTree
three_views = list (trees (with_body (boolean false) ∷ with_outputs null ∷ list (trees (with_body null ∷ [])) ∷ []))

-- the views of A to G, none of another
abbrev pub view_of : List ℕ → Option ValueTree
view_of k =
    if bytes_eq k (codes "A") then Some (with_body (text (codes "a"))) else
    (if bytes_eq k (codes "B") then Some (with_outputs (boolean true)) else
    (if bytes_eq k (codes "C") then Some null else
    (if bytes_eq k (codes "D") then Some three_views else
    (if bytes_eq k (codes "E") then Some (with_outputs (nested 64)) else
    (if bytes_eq k (codes "F") then Some (with_outputs (nested 65)) else
    (if bytes_eq k (codes "G") then Some (one_member (codes "name") null) else None))))))

abbrev pub only : List ℕ → ValueTree → List ℕ → Option ValueTree
only name t k = if bytes_eq k name then Some t else None

abbrev pub index_of : List ℕ → Option ℕ
index_of k =
    if bytes_eq k (codes "L") then Some 2 else
    (if bytes_eq k (codes "M") then Some (2 ^ 63 - 1) else
    (if bytes_eq k (codes "N") then Some (2 ^ 63) else None))

abbrev pub somewhere : Told
somewhere = record {
  parameter = only (codes "p") (boolean true);
  variable = only (codes "v") (text (codes "x"));
  trigger = with_body (boolean true);
  view = view_of;
  result = only (codes "S") (list (trees []));
  items = boolean false ∷ null ∷ [];
  item_of = only (codes "L") (text (codes "i"));
  index_of = index_of;
  own = Some (text (codes "me"));
  moment = pos 0;
  run_name = codes "r1";
  seed = [];
  place = [];
}

abbrev pub named_workflow : ValueTree
named_workflow = object (members (
    (codes "name", text (codes "workflow")) ∷ (codes "run", one_member (codes "name") (text (codes "r1"))) ∷ []))

-- a look that has nothing
abbrev pub nowhere : Told
nowhere = record {
  parameter = λ k. None;
  variable = λ k. None;
  trigger = null;
  view = λ k. None;
  result = λ k. None;
  items = [];
  item_of = λ k. None;
  index_of = λ k. None;
  own = None;
  moment = pos 0;
  run_name = [];
  seed = [];
  place = [];
}
