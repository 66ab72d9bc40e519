-- Following a pointer through a JSON tree (RFC 6901, section 4), and what is reached.
use Rattle.std.specs.Prelude.{◌≡◌, ◌⊎◌, ℕ, ◌-◌, List, [], ◌∷◌, length, flat_map, Some, true}
use Rattle.serde_json.specs.Data as json
use Rattle.serde_json.specs.Find.{at}
use Rattle.wf_json.specs.Pointer.{item_step, member_step}
use Rattle.wf_json.specs.Read.{has_flaw}
use Rattle.wf_json.specs.declared.fault.Flaw.{Flaw}

-- a step: to the item at a place, from 0, or to a member of a name
pub data Step : Type 0 where
  to_item : ℕ → Step
  to_member : List ℕ → Step

-- how a pointer writes a step
abbrev pub step_text : Step → List ℕ
step_text (to_item place) = item_step place
step_text (to_member name) = member_step name

-- a value is that of a member of the name
abbrev pub IsMember : List ℕ → json.Data → json.Members → Type 0
IsMember name d json.no_members = ⊥
IsMember name d (json.member k e ms) = ((name ≡ k) × (d ≡ e)) ⊎ IsMember name d ms

-- a step goes from one value to another
abbrev pub Goes : Step → json.Data → json.Data → Type 0
Goes (to_item place) from to = at place from ≡ Some to
Goes (to_member name) (json.object ms) to = IsMember name to ms
Goes (to_member name) from to = ⊥

-- the steps go from one value to another
abbrev pub Go : List Step → json.Data → json.Data → Type 0
Go [] from to = from ≡ to
Go (step ∷ steps) from to = (next : json.Data) × Goes step from next × Go steps next to

-- a pointer whose steps go to a value that is refused where it stands
pub record LeadsToFlaw (flaw : Flaw) (room : ℕ) (d : json.Data) (pointer : List ℕ) : Type 0 where
  pub steps : List Step
  pub spelled : pointer ≡ flat_map step_text steps
  pub place : json.Data
  pub reached : Go steps d place
  pub flawed : has_flaw flaw (room - length steps) place ≡ true
