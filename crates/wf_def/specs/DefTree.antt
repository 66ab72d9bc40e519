-- A whole definition as contracts see it (Workflow Definition Language, "Workflow definition schema").
use Rattle.std.specs.Prelude.{ℕ, List, Option}
use Rattle.wf_val.specs.ValueTree.{ValueTree, Member}
use Rattle.wf_template.specs.TemplateTree.{TemplateTree}
use Rattle.wf_template.specs.DataTree.{DataTree}
use Rattle.wf_def.specs.ActionTree.{ActionTrees}
use Rattle.wf_def.specs.declared.sort.Sort.{Sort}

-- a declared parameter
pub record ParamTree : Type 0 where
  pub name : List ℕ
  pub sort : Sort
  pub default : Option ValueTree
  pub allowed : Option (List ValueTree)

-- a trigger
pub record TriggerTree : Type 0 where
  pub name : List ℕ
  pub split : Option TemplateTree
  pub conditions : List TemplateTree

-- a member of the section `outputs`
pub record OutputTree : Type 0 where
  pub name : List ℕ
  pub value : DataTree

-- a definition: the SHA-256 of its compact text, its declared parameters, the values that a wrapper round it gives them, its triggers,
-- its top graph, and its outputs
pub record DefTree : Type 0 where
  pub digest : List ℕ
  pub parameters : List ParamTree
  pub given : List Member
  pub triggers : List TriggerTree
  pub top : ActionTrees
  pub outputs : List OutputTree
