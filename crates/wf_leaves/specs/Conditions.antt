-- The condition of an If or an Until (Workflow Definition Language, "Conditions"): a text, or an object of one member, which is `and` or
-- `or` of conditions, `not` of one, or the comparison of two values by a function.
use Rattle.std.specs.Prelude.{ℕ, List, [], ◌∷◌, Option, Some, None, if◌then◌else◌, bytes_eq, codes}
use Rattle.wf_val.specs.ValueTree.{ValueTree, text, object, list, ValueTrees, no_values, value_then, MemberTrees, no_members, member_then, Member}
use Rattle.wf_val.specs.Get.{item}
use Rattle.wf_val.specs.declared.function.Fun.{Fun}
use Rattle.wf_template.specs.TemplateTree.{plain}
use Rattle.wf_template.specs.CondTree.{CondTree, holds, all_of, any_of, not_of, compare_by, cond_trees}
use Rattle.wf_kinds.specs.Conditions.{comparison_named}
use Rattle.wf_leaves.specs.Texts.{data_in, template_of}

-- what a value of another form is read as
abbrev pub no_condition : CondTree
no_condition = holds (plain [])

abbrev pub compared : Option Fun → ValueTree → CondTree
compared None t = no_condition
compared (Some function) t = compare_by function (data_in (item 0 t)) (data_in (item 1 t))

-- by the name of the one member: its value as conditions, as one condition, or as two values
abbrev pub condition_named : List ℕ → List CondTree → CondTree → ValueTree → CondTree
condition_named k several one t =
    if bytes_eq k (codes "and") then all_of (cond_trees several) else
    (if bytes_eq k (codes "or") then any_of (cond_trees several) else
    (if bytes_eq k (codes "not") then not_of one else compared (comparison_named k) t))

-- the one member of an object that has just one
abbrev pub only : List Member → Option Member
only (m ∷ []) = Some m
only ms = None

abbrev mutual
  pub condition_of : ValueTree → CondTree
  condition_of (text s) = holds (template_of s)
  condition_of (object ms) = condition_by ms
  condition_of t = no_condition

  pub condition_by : MemberTrees → CondTree
  condition_by (member_then k t no_members) = condition_named k (conditions_in t) (condition_of t) t
  condition_by ms = no_condition

  pub conditions_in : ValueTree → List CondTree
  conditions_in (list ts) = conditions_of ts
  conditions_in t = []

  pub conditions_of : ValueTrees → List CondTree
  conditions_of no_values = []
  conditions_of (value_then t ts) = condition_of t ∷ conditions_of ts

abbrev pub condition_at : Option ValueTree → CondTree
condition_at None = no_condition
condition_at (Some t) = condition_of t
