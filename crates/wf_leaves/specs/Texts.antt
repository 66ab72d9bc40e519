-- The texts of a definition that are templates, and values whose texts are (Workflow Definition Language, "Expressions"). Where a rule
-- would have refused a value, it is read as something all the same, which is never asked for.
use Rattle.std.specs.Prelude.{ℕ, List, [], ◌∷◌, Option, Some, None, unwrap_or}
use Rattle.wf_val.specs.ValueTree.{ValueTree, null, boolean, number, text, object, list, ValueTrees, no_values, value_then, MemberTrees, no_members, member_then}
use Rattle.wf_template.specs.TemplateTree.{TemplateTree, plain}
use Rattle.wf_template.specs.DataTree as datum
use Rattle.wf_expr.specs.Text.{template_in}

-- the template that a text spells
unfoldable pub template_of : List ℕ → TemplateTree
template_of s = unwrap_or (template_in s) (plain [])

-- a value with a template for each text; the names of members are no templates
abbrev mutual
  pub data_of : ValueTree → datum.DataTree
  data_of null = datum.null
  data_of (boolean b) = datum.boolean b
  data_of (number n) = datum.number n
  data_of (text s) = datum.text (template_of s)
  data_of (list ts) = datum.list (datum.data_trees (items_of ts))
  data_of (object ms) = datum.object (datum.data_members (members_of ms))

  pub items_of : ValueTrees → List datum.DataTree
  items_of no_values = []
  items_of (value_then t ts) = data_of t ∷ items_of ts

  pub members_of : MemberTrees → List datum.DataMember
  members_of no_members = []
  members_of (member_then k t ms) = (k, data_of t) ∷ members_of ms

-- the same of a member that may be absent
abbrev pub data_in : Option ValueTree → datum.DataTree
data_in None = datum.null
data_in (Some t) = data_of t

-- the text that a member is
abbrev pub text_in : Option ValueTree → List ℕ
text_in (Some (text s)) = s
text_in t = []

-- and the template that it spells
abbrev pub template_at : Option ValueTree → TemplateTree
template_at value = template_of (text_in value)
