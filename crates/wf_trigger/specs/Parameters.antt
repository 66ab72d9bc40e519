-- The values of the parameters that a definition declares, or why one has none that it may have.
use Rattle.std.specs.Prelude.{ℕ, List, [], ◌∷◌, Bool, false, not, if◌then◌else◌, Option, Some, None, is_none, Result, Ok, Err}
use Rattle.std.specs.List.{list_any}
use Rattle.std.specs.Ordering.{is_eq}
use Rattle.wf_def.specs.DefTree.{ParamTree}
use Rattle.wf_def.specs.Sorts.{has_sort}
use Rattle.wf_trigger.specs.declared.fault.TriggerFault.{TriggerFault}
use Rattle.wf_trigger.specs.declared.parameters.Want.{Want}
use Rattle.wf_val.specs.Get.{name_of, value_of}
use Rattle.wf_val.specs.NameOrder.{put_named}
use Rattle.wf_val.specs.ValueOrder.{order}
use Rattle.wf_val.specs.ValueTree.{ValueTree, Member}

abbrev pub first_of : Option ValueTree → Option ValueTree → Option ValueTree
first_of None other = other
first_of (Some v) other = Some v

-- the value that the inputs hand in, else the one that the wrapper round the definition gives, else the default
abbrev pub given_value : List Member → List Member → ParamTree → Option ValueTree
given_value handed given p = first_of (value_of p.name handed) (first_of (value_of p.name given) p.default)

-- no `allowedValues` allow all, and an empty list none
abbrev pub is_barred : Option (List ValueTree) → ValueTree → Bool
is_barred None v = false
is_barred (Some vs) v = not (list_any (λ a. is_eq (order v a)) vs)

-- whether a parameter's value isn't what is asked
abbrev pub fails : Want → ParamTree → Option ValueTree → Bool
fails Want.Value p v = is_none v
fails Want.Type p None = false
fails Want.Type p (Some v) = not (has_sort p.sort v)
fails Want.Allowed p None = false
fails Want.Allowed p (Some v) = is_barred p.allowed v

module _ (handed given : List Member) where
  -- the first that fails, in the order in which they stand
  abbrev pub first_failing : Want → List ParamTree → Option (List ℕ)
  first_failing want [] = None
  first_failing want (p ∷ ps) = if fails want p (given_value handed given p) then Some p.name else first_failing want ps

abbrev pub with_value : ParamTree → Option ValueTree → List Member → List Member
with_value p None values = values
with_value p (Some v) values = put_named name_of (p.name, v) values

module _ (handed given : List Member) where
  abbrev pub values_onto : List Member → List ParamTree → List Member
  values_onto values [] = values
  values_onto values (p ∷ ps) = values_onto (with_value p (given_value handed given p) values) ps

  -- the values, each under its parameter's name
  abbrev pub values_of : List ParamTree → List Member
  values_of ps = values_onto [] ps

-- the fault of the parameter, if one fails
abbrev pub unless : (List ℕ → TriggerFault) → Option (List ℕ) → Result (List Member) TriggerFault → Result (List Member) TriggerFault
unless fault (Some name) rest = Err (fault name)
unless fault None rest = rest

abbrev pub parameters_of : List Member → List Member → List ParamTree → Result (List Member) TriggerFault
parameters_of handed given ps =
    unless TriggerFault.NoParameter (first_failing handed given Want.Value ps)
    (unless TriggerFault.ParameterType (first_failing handed given Want.Type ps)
    (unless TriggerFault.NotAllowed (first_failing handed given Want.Allowed ps)
    (Ok (values_of handed given ps))))
