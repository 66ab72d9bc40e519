-- A graph of actions as contracts see it: trees over plain lists and numbers (Workflow Definition Language, "Actions").
use Rattle.std.specs.Prelude.{ℕ, Bool, List, [], ◌∷◌, Option}
use Rattle.wf_val.specs.ValueTree.{ValueTree}
use Rattle.wf_template.specs.TemplateTree.{TemplateTree}
use Rattle.wf_template.specs.DataTree.{DataTree, DataMember}
use Rattle.wf_template.specs.CondTree.{CondTree}
use Rattle.wf_schema.specs.Reading.{SchemaTree}
use Rattle.wf_retry.specs.declared.policy.Policy.{Policy}
use Rattle.wf_def.specs.declared.after.After.{After}
use Rattle.wf_def.specs.declared.sort.Sort.{Sort}

-- a variable that is initialised
pub record InitialTree : Type 0 where
  pub name : List ℕ
  pub sort : Sort
  pub value : Option DataTree

mutual
  -- an action: its name, number, pointer, entries of `runAfter`, what it does, and its tracked properties
  pub data ActionTree : Type 0 where
    action : (name : List ℕ) (number : ℕ) (pointer : List ℕ) (after : List After) (kind : KindTree) (tracked : List DataMember) → ActionTree

  pub data KindTree : Type 0 where
    compose : (inputs : DataTree) → KindTree
    connector : (inputs : DataTree) (policy : Policy) → KindTree
    wait : (inputs : DataTree) → KindTree
    response : (inputs : DataTree) → KindTree
    terminate : (inputs : DataTree) → KindTree
    select : (from item : DataTree) → KindTree
    query : (from : DataTree) (filter : TemplateTree) → KindTree
    join : (from with' : DataTree) → KindTree
    parse_json : (content : DataTree) (schema : Option SchemaTree) → KindTree
    initialize : (variables : List InitialTree) → KindTree
    set_to : (name : List ℕ) (value : DataTree) → KindTree
    increment : (name : List ℕ) (value : Option DataTree) → KindTree
    decrement : (name : List ℕ) (value : Option DataTree) → KindTree
    append_array : (name : List ℕ) (value : DataTree) → KindTree
    append_string : (name : List ℕ) (value : DataTree) → KindTree
    scope : (graph : ActionTrees) → KindTree
    branch : (test : CondTree) (yes' no' : ActionTrees) → KindTree
    switch : (on : TemplateTree) (cases : CaseTrees) → KindTree
    switch_else : (on : TemplateTree) (cases : CaseTrees) (default : ActionTrees) → KindTree
    foreach : (items : DataTree) (repetitions : ℕ) (graph : ActionTrees) → KindTree
    until : (test : CondTree) (count : ℕ) (fails : Bool) (graph : ActionTrees) → KindTree

  -- the actions of one graph
  pub data ActionTrees : Type 0 where
    no_actions : ActionTrees
    action_then : ActionTree → ActionTrees → ActionTrees

  pub data CaseTrees : Type 0 where
    no_cases : CaseTrees
    case_then : (name : List ℕ) (value : ValueTree) (graph : ActionTrees) → CaseTrees → CaseTrees

-- a case: its name, its value, its graph
abbrev pub CaseTree : Type 0
CaseTree = List ℕ × (ValueTree × ActionTrees)

-- actions and cases in a row, from a list
abbrev pub action_trees : List ActionTree → ActionTrees
action_trees [] = no_actions
action_trees (a ∷ as') = action_then a (action_trees as')

abbrev pub case_trees : List CaseTree → CaseTrees
case_trees [] = no_cases
case_trees (c ∷ cs) = case_then c.0 c.1.0 c.1.1 (case_trees cs)

-- and the actions of a graph as a list
abbrev pub actions_in : ActionTrees → List ActionTree
actions_in no_actions = []
actions_in (action_then a as') = a ∷ actions_in as'

abbrev pub action_name : ActionTree → List ℕ
action_name (action name number pointer after kind tracked) = name

abbrev pub action_number : ActionTree → ℕ
action_number (action name number pointer after kind tracked) = number

abbrev pub action_pointer : ActionTree → List ℕ
action_pointer (action name number pointer after kind tracked) = pointer

abbrev pub action_after : ActionTree → List After
action_after (action name number pointer after kind tracked) = after

abbrev pub action_kind : ActionTree → KindTree
action_kind (action name number pointer after kind tracked) = kind
