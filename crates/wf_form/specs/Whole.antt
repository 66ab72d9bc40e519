-- What the rules ask of the whole definition, wherever they look.
use Rattle.std.specs.Prelude.{ℕ, suc, ◌+◌, List, [], ◌∷◌, length, Bool, nat_lt, if◌then◌else◌, bytes_eq, codes, Option, Some}
use Rattle.wf_val.specs.ValueTree.{ValueTree, list, items, Member}
use Rattle.wf_texts.specs.ActionType.{type_of}
use Rattle.wf_texts.specs.Parts.{input}
use Rattle.wf_texts.specs.KindsActionType.{ActionType}
use Rattle.wf_form.specs.Actions.{actions_of}

pub record Whole : Type 0 where
  -- how many actions it has
  pub actions : ℕ
  -- whether it has more variables than the limits allow
  pub has_too_many_variables : Bool
  -- whether more than one action has the name
  pub repeats : List ℕ → Bool

-- how many actions have the name
abbrev pub count_named : List ℕ → List Member → ℕ
count_named name [] = 0
count_named name (a ∷ as') = if bytes_eq name a.0 then suc (count_named name as') else count_named name as'

-- how many variables a list of them makes, whatever its items are; none, if it is no list
abbrev pub variables_in : Option ValueTree → ℕ
variables_in (Some (list ts)) = length (items ts)
variables_in t = 0

-- how many variables an action of a type makes
abbrev pub variables_by : Option ActionType → ValueTree → ℕ
variables_by (Some ActionType.InitializeVariable) t = variables_in (input (codes "variables") t)
variables_by type' t = 0

abbrev pub count_variables : List Member → ℕ
count_variables [] = 0
count_variables (a ∷ as') = variables_by (type_of a.1) a.1 + count_variables as'

abbrev pub whole_among : List Member → Whole
whole_among as' = record {
  actions = length as';
  has_too_many_variables = nat_lt 250 (count_variables as');
  repeats = λ name. nat_lt 1 (count_named name as');
}

abbrev pub whole_of : ValueTree → Whole
whole_of definition = whole_among (actions_of definition)
