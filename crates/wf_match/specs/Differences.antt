-- Where a value differs from what is expected of it. An object is compared member by member with the members that are expected, and
-- what else it has isn't looked at; everything else is equal or isn't.
use Rattle.std.specs.Prelude.{ℕ, List, [], ◌∷◌, ◌++◌, Bool, false, Option, Some, None, if◌then◌else◌}
use Rattle.std.specs.Ordering.{is_eq}
use Rattle.wf_json.specs.Pointer.{member_step}
use Rattle.wf_match.specs.Told.{Told}
use Rattle.wf_val.specs.Get.{value_of}
use Rattle.wf_val.specs.ValueOrder.{order}
use Rattle.wf_val.specs.ValueTree.{ValueTree, object, MemberTrees, no_members, member_then, Member, pairs}

abbrev pub one : List ℕ → ValueTree → Option ValueTree → List Told
one at' e found = record { pointer = at'; expected = e; found = found } ∷ []

-- a value that isn't looked into
abbrev pub is_equal : ValueTree → Option ValueTree → Bool
is_equal e None = false
is_equal e (Some t) = is_eq (order e t)

abbrev pub unless_equal : List ℕ → ValueTree → Option ValueTree → List Told
unless_equal at' e found = if is_equal e found then [] else one at' e found

-- the differences at a place and below it, in the order of the expectation
abbrev mutual
  pub differences : List ℕ → ValueTree → Option ValueTree → List Told
  differences at' (object es) (Some (object ms)) = in_members at' es (pairs ms)
  differences at' e found = unless_equal at' e found

  pub in_members : List ℕ → MemberTrees → List Member → List Told
  in_members at' no_members ms = []
  in_members at' (member_then k e es) ms = differences (at' ++ member_step k) e (value_of k ms) ++ in_members at' es ms
