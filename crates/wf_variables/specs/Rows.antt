-- WHAT ACTIONS ON VARIABLES GIVE OUT where they Succeeded: their variables in order, each with a value of its type.
use Rattle.std.specs.Prelude.{◌≡◌, ℕ, true, List, [], ◌∷◌, Some, Ok, codes}
use Rattle.wf_val.specs.ValueTree.{ValueTree}
use Rattle.wf_def.specs.ActionTree.{InitialTree}
use Rattle.wf_def.specs.declared.sort.Sort.{Sort}
use Rattle.wf_data.specs.Outcomes.{Outcome}
use Rattle.wf_data.specs.Told.{Told}
use Rattle.wf_data.specs.Made.{MadeTree, one_member}
use Rattle.wf_variables.specs.Initials.{body_of, given_item}
use Rattle.wf_def.specs.Sorts.{has_sort}
use Rattle.wf_variables.specs.Writing.{Change, changed}

-- a variable of this name is given a value of this type
abbrev pub IsItem : List ℕ → Sort → ValueTree → Type 0
IsItem k s t = (v : ValueTree) × (t ≡ given_item k v) × (has_sort s v ≡ true)

-- so is each of these, in their order, and no other
abbrev pub AreItems : List InitialTree → List ValueTree → Type 0
AreItems [] [] = Unit {0}
AreItems (i ∷ is) (t ∷ ts) = IsItem i.name i.sort t × AreItems is ts
AreItems is ts = ⊥

-- the outputs of an action that makes these variables
abbrev pub GivesAll : List InitialTree → ValueTree → Type 0
GivesAll is outputs = (ts : List ValueTree) × AreItems is ts × (outputs ≡ one_member (codes "body") (body_of ts))

-- the outputs of an action that changes one
abbrev pub GivesOne : List ℕ → Sort → ValueTree → Type 0
GivesOne k s outputs = (t : ValueTree) × IsItem k s t × (outputs ≡ one_member (codes "body") t)

-- a change of a variable that has a value of a type gives it one of that type
abbrev pub KeepsType : Change → Type 0
KeepsType change =
    (l : Told) (k : List ℕ) (s : Sort) (u : ValueTree) (o : Outcome) (m : MadeTree) → l.variable k ≡ Some u → has_sort s u ≡ true
    → (changed l change k o).0 ≡ Ok m → GivesOne k s m.outputs
