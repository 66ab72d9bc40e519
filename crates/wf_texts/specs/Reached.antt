-- Following a pointer (RFC 6901, section 4) from a value to a bad text that stands where a template is asked.
use Rattle.std.specs.Prelude.{◌≡◌, ◌⊎◌, ℕ, List, [], ◌∷◌, flat_map, Some, true, false, bytes_eq, Contains}
use Rattle.wf_val.specs.ValueTree.{ValueTree, text, object, MemberTrees, no_members, member_then}
use Rattle.wf_val.specs.Get.{get, item}
use Rattle.wf_kinds.specs.Follow.{Step, to_item, to_member, step_text}
use Rattle.wf_texts.specs.Members.{Way, to, to_all_but, to_each}
use Rattle.wf_texts.specs.Sound.{is_bad}

-- a value is that of a member of the name
abbrev pub IsMember : List ℕ → ValueTree → MemberTrees → Type 0
IsMember name u no_members = ⊥
IsMember name u (member_then k t ms) = ((name ≡ k) × (u ≡ t)) ⊎ IsMember name u ms

-- a step goes from one value to another
abbrev pub Goes : Step → ValueTree → ValueTree → Type 0
Goes (to_item place) t u = item place t ≡ Some u
Goes (to_member name) (object ms) u = IsMember name u ms
Goes (to_member name) t u = ⊥

-- a step that a way down takes
abbrev pub GoesBy : Way → Step → ValueTree → ValueTree → Type 0
GoesBy (to name) (to_member k) t u = (k ≡ name) × (get name t ≡ Some u)
GoesBy (to_all_but name) (to_member k) t u = (bytes_eq k name ≡ false) × Goes (to_member k) t u
GoesBy to_each (to_item place) t u = Goes (to_item place) t u
GoesBy way step t u = ⊥

-- The steps go from one value to another: along the ways down first, and from where these end to any place.
abbrev pub GoAlong : List Way → List Step → ValueTree → ValueTree → Type 0
GoAlong [] [] t u = t ≡ u
GoAlong [] (step ∷ steps) t u = (next : ValueTree) × Goes step t next × GoAlong [] steps next u
GoAlong (way ∷ ways) [] t u = ⊥
GoAlong (way ∷ ways) (step ∷ steps) t u = (next : ValueTree) × GoesBy way step t next × GoAlong ways steps next u

-- along one of these ways the pointer's steps go to a text that is bad
pub record LeadsToBadText (ways : List (List Way)) (t : ValueTree) (pointer : List ℕ) : Type 0 where
  pub way : List Way
  pub listed : Contains ways way
  pub steps : List Step
  pub spelled : pointer ≡ flat_map step_text steps
  pub bytes : List ℕ
  pub reached : GoAlong way steps t (text bytes)
  pub bad : is_bad bytes ≡ true
