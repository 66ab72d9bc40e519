-- What a further reading finds of a JSON tree.
use Rattle.std.specs.Prelude.{◌≡◌, ℕ, List, [], ◌∷◌, ◌++◌, true, Option, option_map, String, string_bytes}
use Rattle.std.specs.declared.alloc.Global.{Global}
use Rattle.serde_json.specs.Data as json
use Rattle.wf_val.specs.Seen.{tree}
use Rattle.wf_val.specs.ValueTree.{Member}
use Rattle.wf_json.specs.Pointer.{least, lesser, member_step}
use Rattle.wf_json.specs.Read.{flawed_places, value_of}
use Rattle.wf_json.specs.declared.flaws.Aim.{Aim}
use Rattle.wf_json.specs.declared.flaws.Found.{Found}

-- the least pointer of a place in it that has the flaw, and its value where it is kept
pub record IsFound (aim : Aim) (room : ℕ) (d : json.Data) (found : Found) : Type 0 where
  pub value : aim.keep ≡ true → tree found.value ≡ value_of d
  pub pointer : option_map string_bytes found.pointer ≡ least (flawed_places aim.flaw room d)

-- a member from its name and what was found of it
abbrev pub found_member : String Global × Found → Member
found_member e = (string_bytes e.0, tree e.1.value)

-- the least pointer, from the one so far and those of members
abbrev pub pointer_after : Option (List ℕ) → List (String Global × Found) → Option (List ℕ)
pointer_after best [] = best
pointer_after best (e ∷ es) =
    pointer_after (lesser best (option_map (λ p. member_step (string_bytes e.0) ++ p) (option_map string_bytes e.1.pointer))) es
