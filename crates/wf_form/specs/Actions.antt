-- All actions of a definition, with their names.
use Rattle.std.specs.Prelude.{ℕ, List, [], ◌∷◌, ◌++◌, Option, Some, None}
use Rattle.wf_val.specs.ValueTree.{ValueTree, object, MemberTrees, no_members, member_then, Member}
use Rattle.wf_form.specs.Role.{child, holder_of}
use Rattle.wf_form.specs.declared.role.Role.{Role}
use Rattle.wf_form.specs.declared.role.Holder.{Holder}

-- what is found in a member by its role, nothing where it has none
abbrev pub in_part : {X : Type 0} → Option Role → (Role → List X) → List X
in_part None found = []
in_part (Some role) found = found role

-- a value itself, if it stands for an action
abbrev pub own_action : Role → List ℕ → ValueTree → List Member
own_action (Role.Action level) key t = (key, t) ∷ []
own_action role key t = []

abbrev mutual
  pub actions_in : Role → List ℕ → ValueTree → List Member
  actions_in role key (object ms) = own_action role key (object ms) ++ actions_among role (holder_of (object ms)) ms
  actions_in role key t = own_action role key t

  pub actions_among : Role → Holder → MemberTrees → List Member
  actions_among role holder no_members = []
  actions_among role holder (member_then k t ms) =
      in_part (child role holder k) (λ part. actions_in part k t) ++ actions_among role holder ms

-- in the order of the walk: an action stands before those in it
abbrev pub actions_of : ValueTree → List Member
actions_of definition = actions_in Role.Definition [] definition
