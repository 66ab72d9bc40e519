-- Where a value isn't of a form. A form is a table over roles: what a value in the role has to be, which members it must have, and the
-- roles of its members and items. A role is what a value stands for; its parent gives it. A pointer is that of RFC 6901.
use Rattle.std.specs.Prelude.{ℕ, suc, List, [], ◌∷◌, ◌++◌, map, Bool, not, Option, Some, None, is_none}
use Rattle.wf_json.specs.Pointer.{here, flagged, item_step, member_step}
use Rattle.wf_val.specs.Get.{get}
use Rattle.wf_val.specs.ValueTree.{ValueTree, list, object, ValueTrees, no_values, value_then, MemberTrees, no_members, member_then}

pub record Form (R : Type 0) : Type 0 where
  -- whether a value may stand in the role, as far as it is judged as a whole
  pub is_right : R → ValueTree → Bool
  -- the members that a value in the role must have; what is no object lacks all
  pub needed : R → List (List ℕ)
  -- whether it may have no others than those that have a role
  pub is_closed : R → Bool
  -- the role of a member, and of each item of a list; none where nothing is asked of it
  pub member : R → List ℕ → Option R
  pub item : R → Option R
  -- what else is amiss, as pointers from the value on
  pub beside : R → ValueTree → List (List ℕ)

-- the members of these names that a value lacks, each where it would stand
abbrev pub lacking : List (List ℕ) → ValueTree → List (List ℕ)
lacking [] t = []
lacking (name ∷ names) t = flagged (is_none (get name t)) name ++ lacking names t

-- what is amiss in a member, from it on; of one without a role just that it is there, where others aren't allowed
abbrev pub in_part : {R : Type 0} → Bool → Option R → (R → List (List ℕ)) → List (List ℕ)
in_part closed None inside = here closed
in_part closed (Some role) inside = inside role

-- what is amiss in the items of a list, if they have a role
abbrev pub in_list : {R : Type 0} → Option R → (R → List (List ℕ)) → List (List ℕ)
in_list None inside = []
in_list (Some role) inside = inside role

module _ {R : Type 0} (form : Form R) where
  -- what is amiss at the value itself
  abbrev pub own : R → ValueTree → List (List ℕ)
  own role t = here (not (form.is_right role t)) ++ (lacking (form.needed role) t ++ form.beside role t)

  -- the pointers, from a value on, of all places at which something that is asked isn't so
  abbrev mutual
    pub places : R → ValueTree → List (List ℕ)
    places role (object ms) = own role (object ms) ++ in_members role ms
    places role (list ts) = own role (list ts) ++ in_list (form.item role) (λ part. in_items part 0 ts)
    places role t = own role t

    pub in_members : R → MemberTrees → List (List ℕ)
    in_members role no_members = []
    in_members role (member_then name t ms) =
        map (λ p. member_step name ++ p) (in_part (form.is_closed role) (form.member role name)
        (λ part. places part t)) ++ in_members role ms

    pub in_items : R → ℕ → ValueTrees → List (List ℕ)
    in_items role place no_values = []
    in_items role place (value_then t ts) = map (λ p. item_step place ++ p) (places role t) ++ in_items role (suc place) ts
