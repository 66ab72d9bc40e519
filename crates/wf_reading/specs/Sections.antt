-- The sections of a definition beside its actions (Workflow Definition Language, "Workflow definition schema").
use Rattle.std.specs.Prelude.{ℕ, ◌||◌, List, [], ◌∷◌, map, Option, Some, None, if◌then◌else◌, codes}
use Rattle.std.specs.Str.{str_eq_ignore_ascii_case}
use Rattle.wf_val.specs.ValueTree.{ValueTree, text, list, items, Member}
use Rattle.wf_val.specs.Get.{get, name_of}
use Rattle.wf_val.specs.NameOrder.{put_named}
use Rattle.wf_template.specs.TemplateTree.{TemplateTree}
use Rattle.wf_def.specs.DefTree.{ParamTree, TriggerTree, OutputTree}
use Rattle.wf_def.specs.declared.sort.Sort.{Sort}
use Rattle.wf_leaves.specs.Texts.{data_in, template_at, template_of, text_in}

-- the type of a parameter
abbrev pub parameter_sort : List ℕ → Sort
parameter_sort s =
    if str_eq_ignore_ascii_case s (codes "int") then Sort.Int else
    (if str_eq_ignore_ascii_case s (codes "string") || str_eq_ignore_ascii_case s (codes "securestring") then Sort.Text else
    (if str_eq_ignore_ascii_case s (codes "bool") then Sort.Bool else
    (if str_eq_ignore_ascii_case s (codes "array") then Sort.List else Sort.Obj)))

abbrev pub values_in : Option ValueTree → Option (List ValueTree)
values_in (Some (list ts)) = Some (items ts)
values_in t = None

abbrev pub parameter_of : Member → ParamTree
parameter_of m = record {
  name = m.0;
  sort = parameter_sort (text_in (get (codes "type") m.1));
  default = get (codes "defaultValue") m.1;
  allowed = values_in (get (codes "allowedValues") m.1);
}

-- the template that a member spells, where it is a text
abbrev pub template_if : Option ValueTree → Option TemplateTree
template_if (Some (text s)) = Some (template_of s)
template_if t = None

-- a condition of a trigger is an object, and its `expression` is the template
abbrev pub condition_template : ValueTree → TemplateTree
condition_template t = template_at (get (codes "expression") t)

abbrev pub templates_in : Option ValueTree → List TemplateTree
templates_in (Some (list ts)) = map condition_template (items ts)
templates_in t = []

abbrev pub trigger_of : Member → TriggerTree
trigger_of m = record {
  name = m.0;
  split = template_if (get (codes "splitOn") m.1);
  conditions = templates_in (get (codes "conditions") m.1);
}

abbrev pub output_of : Member → OutputTree
output_of m = record { name = m.0; value = data_in (get (codes "value") m.1) }

-- the values that a wrapper gives to parameters: its member `parameters` holds objects with a `value`, and what has another form gives none
abbrev pub given_by : List ℕ → Option ValueTree → List Member → List Member
given_by k None done = done
given_by k (Some t) done = put_named name_of (k, t) done

abbrev pub given_in : List Member → List Member → List Member
given_in [] done = done
given_in (m ∷ ms) done = given_in ms (given_by m.0 (get (codes "value") m.1) done)
