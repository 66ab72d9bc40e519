-- What it means that an expectation holds, without any pointer: wherever names lead in it, they lead to the same in the value.
use Rattle.std.specs.Prelude.{◌≡◌, ◌⊎◌, ℕ, List, [], ◌∷◌, ◌++◌, true, ◌&&◌, Option, Some, None, flat_map}
use Rattle.wf_json.specs.Pointer.{member_step}
use Rattle.wf_match.specs.Told.{Told}
use Rattle.wf_val.specs.Get.{get, is_object}
use Rattle.wf_val.specs.ValueTree.{ValueTree}

-- the value to which names lead from object to object, if they lead to one
abbrev pub along : List (List ℕ) → Option ValueTree → Option ValueTree
along names None = None
along [] (Some t) = Some t
along (k ∷ names) (Some t) = along names (get k t)

-- what is there is the same as is expected, or it is an object where one is expected, of which the members are asked
abbrev pub IsMet : ValueTree → Option ValueTree → Type 0
IsMet e None = ⊥
IsMet e (Some t) = (e ≡ t) ⊎ ((is_object e && is_object t) ≡ true)

-- the expectation holds of what is there
abbrev pub Holds : ValueTree → Option ValueTree → Type 0
Holds e found = (names : List (List ℕ)) → (u : ValueTree) → along names (Some e) ≡ Some u → IsMet u (along names found)

-- A difference is one, seen from the place `at`: names lead from there to what is expected and to what is there, which doesn't meet it.
pub record IsOne (at' : List ℕ) (e : ValueTree) (found : Option ValueTree) (d : Told) : Type 0 where
  pub names : List (List ℕ)
  pub spelled : d.pointer ≡ at' ++ flat_map member_step names
  pub asked : along names (Some e) ≡ Some d.expected
  pub there : along names found ≡ d.found
  pub amiss : IsMet d.expected d.found → ⊥
