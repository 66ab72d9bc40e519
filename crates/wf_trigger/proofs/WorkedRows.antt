-- The definitions at worked triggers, parameters and inputs.
use Rattle.std.proofs.Common.{◌≡◌, ℕ, List, [], ◌∷◌, length, map, true, false, Some, None, Option, Ok, Err, Result, pos, refl, bytes_eq}
use Rattle.std.specs.Fmt.{digits}
use Rattle.std.specs.List.{filter}
use Rattle.std.specs.Prelude.{codes, if◌then◌else◌}
use Rattle.wf_answers.specs.Inputs.{InputsTree}
use Rattle.wf_def.specs.DefTree.{ParamTree, TriggerTree}
use Rattle.wf_def.specs.declared.sort.Sort.{Sort}
use Rattle.wf_template.specs.ExprTree.{ExprTree, literal, call, expr_trees}
use Rattle.wf_template.specs.TemplateTree.{TemplateTree, plain, whole}
use Rattle.wf_trigger.specs.Choosing.{chosen}
use Rattle.wf_def.specs.Sorts.{has_sort}
use Rattle.wf_trigger.specs.Parameters.{parameters_of}
use Rattle.wf_trigger.specs.Runs.{runs_of, started, value_in}
use Rattle.wf_trigger.specs.Splitting.{items_in}
use Rattle.wf_trigger.specs.Starts.{StartTree}
use Rattle.wf_trigger.specs.declared.fault.TriggerFault.{TriggerFault}
use Rattle.wf_val.specs.Arguments.{Answer, wrong_type}
use Rattle.wf_val.specs.ValueTree.{ValueTree, ValueTrees, null, boolean, number, text, list, object, trees, items, members, Member}
use Rattle.wf_val.specs.declared.fault.EvalFault.{EvalFault}
use Rattle.wf_val.specs.declared.function.Fun.{Fun}

abbrev of : List Member → ValueTree
of ms = object (members ms)

abbrev n : ℕ → ValueTree
n k = number (pos k)

abbrev two : List ValueTree
two = n 7 ∷ n 8 ∷ []

-- what templates come to in these rows, by their texts
abbrev value : TemplateTree → Answer
value (plain s) =
    if bytes_eq s (codes "true") then Ok (boolean true)
    else (if bytes_eq s (codes "false") then Ok (boolean false)
    else (if bytes_eq s (codes "fault") then Err (EvalFault.Range Fun.Div)
    else (if bytes_eq s (codes "two") then Ok (list (trees two))
    else (if bytes_eq s (codes "none") then Ok (list (trees []))
    else Ok (text s)))))
value t = Ok null

abbrev trigger : Option TemplateTree → List TemplateTree → TriggerTree
trigger split conditions = record { name = codes "t"; split = split; conditions = conditions }

abbrev named : List ℕ → TriggerTree
named name = record { name = name; split = None; conditions = [] }

-- inputs with these outputs, which name this trigger and hand in these parameters
abbrev inputs : ValueTree → Option (List ℕ) → List Member → InputsTree
inputs outputs name parameters = record {
  run = codes "r1";
  seed = codes "s";
  moment = 0;
  trigger = name;
  outputs = outputs;
  parameters = parameters;
  answers = [];
}

abbrev starts : Option TemplateTree → List TemplateTree → ValueTree → Result (List StartTree) TriggerFault
starts split conditions outputs = started value (Some (trigger split conditions)) (inputs outputs None []) []

-- a start of the trigger with these outputs
abbrev start : List ℕ → List ℕ → ValueTree → StartTree
start run seed outputs = record {
  run = run;
  seed = seed;
  trigger = of ((codes "name", text (codes "t")) ∷ (codes "outputs", outputs) ∷ []);
  parameters = [];
}

-- ---- the trigger

abbrev both : List TriggerTree
both = named (codes "A") ∷ named (codes "B") ∷ []

chosen-named : chosen (Some (codes "B")) both ≡ Ok (Some (named (codes "B")))
chosen-named = refl

chosen-not_there : chosen (Some (codes "b")) both ≡ Err TriggerFault.NoTrigger
chosen-not_there = refl

chosen-named_of_none : chosen (Some (codes "A")) [] ≡ Err TriggerFault.NoTrigger
chosen-named_of_none = refl

chosen-of_two : chosen None both ≡ Err TriggerFault.NoTrigger
chosen-of_two = refl

chosen-only : chosen None (named (codes "A") ∷ []) ≡ Ok (Some (named (codes "A")))
chosen-only = refl

chosen-none : chosen None [] ≡ Ok None
chosen-none = refl

-- ---- the parameters

abbrev param : List ℕ → Sort → Option ValueTree → Option (List ValueTree) → ParamTree
param name sort default allowed = record { name = name; sort = sort; default = default; allowed = allowed }

abbrev p : Option ValueTree → Option (List ValueTree) → ParamTree
p default allowed = param (codes "p") Sort.Int default allowed

abbrev is_p : ℕ → List Member
is_p k = (codes "p", n k) ∷ []

parameters-handed : parameters_of (is_p 1) (is_p 2) (p (Some (n 3)) None ∷ []) ≡ Ok (is_p 1)
parameters-handed = refl

parameters-of_wrapper : parameters_of [] (is_p 2) (p (Some (n 3)) None ∷ []) ≡ Ok (is_p 2)
parameters-of_wrapper = refl

parameters-default : parameters_of [] [] (p (Some (n 3)) None ∷ []) ≡ Ok (is_p 3)
parameters-default = refl

-- null is a value that is handed in: the default doesn't stand for it
parameters-null : parameters_of ((codes "p", null) ∷ []) [] (p (Some (n 3)) None ∷ []) ≡ Err (TriggerFault.ParameterType (codes "p"))
parameters-null = refl

-- so it is where the wrapper gives it, and as a default
parameters-null_of_wrapper : parameters_of [] ((codes "p", null) ∷ []) (p (Some (n 3)) None ∷ [])
    ≡ Err (TriggerFault.ParameterType (codes "p"))
parameters-null_of_wrapper = refl

parameters-null_default : parameters_of [] [] (p (Some null) None ∷ []) ≡ Err (TriggerFault.ParameterType (codes "p"))
parameters-null_default = refl

parameters-missing : parameters_of [] [] (p None None ∷ []) ≡ Err (TriggerFault.NoParameter (codes "p"))
parameters-missing = refl

parameters-further : parameters_of ((codes "x", n 1) ∷ []) ((codes "y", n 1) ∷ []) [] ≡ Ok []
parameters-further = refl

parameters-type : parameters_of ((codes "p", text []) ∷ []) [] (p None None ∷ []) ≡ Err (TriggerFault.ParameterType (codes "p"))
parameters-type = refl

parameters-true_is_no_number : parameters_of ((codes "p", boolean true) ∷ []) [] (p None None ∷ [])
    ≡ Err (TriggerFault.ParameterType (codes "p"))
parameters-true_is_no_number = refl

-- one of each type
abbrev five : List Member
five =
    (codes "a", boolean true) ∷ (codes "b", n 1) ∷ (codes "c", text []) ∷ (codes "d", list (trees [])) ∷ (codes "e", of []) ∷ []

parameters-types : parameters_of five [] (param (codes "a") Sort.Bool None None ∷ param (codes "b") Sort.Int None None
    ∷ param (codes "c") Sort.Text None None ∷ param (codes "d") Sort.List None None ∷ param (codes "e") Sort.Obj None None ∷ []) ≡ Ok five
parameters-types = refl

parameters-allowed : parameters_of (is_p 2) [] (p None (Some (n 1 ∷ n 2 ∷ [])) ∷ []) ≡ Ok (is_p 2)
parameters-allowed = refl

parameters-barred : parameters_of (is_p 3) [] (p None (Some (n 1 ∷ n 2 ∷ [])) ∷ []) ≡ Err (TriggerFault.NotAllowed (codes "p"))
parameters-barred = refl

parameters-none_allowed : parameters_of (is_p 3) [] (p None (Some []) ∷ []) ≡ Err (TriggerFault.NotAllowed (codes "p"))
parameters-none_allowed = refl

parameters-default_is_barred : parameters_of [] [] (p (Some (n 3)) (Some (n 1 ∷ [])) ∷ []) ≡ Err (TriggerFault.NotAllowed (codes "p"))
parameters-default_is_barred = refl

-- all that are missing come before any of another type, and these before any that isn't allowed; of each the least
abbrev q : ParamTree
q = param (codes "q") Sort.Int None (Some (n 1 ∷ []))

abbrev r : ParamTree
r = param (codes "r") Sort.Int None None

parameters-missing_before_type : parameters_of ((codes "p", text []) ∷ []) [] (p None None ∷ q ∷ r ∷ [])
    ≡ Err (TriggerFault.NoParameter (codes "q"))
parameters-missing_before_type = refl

parameters-type_before_barred :
    parameters_of ((codes "q", n 2) ∷ (codes "r", text []) ∷ []) [] (q ∷ r ∷ []) ≡ Err (TriggerFault.ParameterType (codes "r"))
parameters-type_before_barred = refl

-- ---- the split

split-none : starts None [] (n 5) ≡ Ok (start (codes "r1") (codes "s") (n 5) ∷ [])
split-none = refl

split-two : starts (Some (plain (codes "two"))) [] (of ((codes "body", n 5) ∷ (codes "headers", n 6) ∷ [])) ≡ Ok (
    start (codes "r1-0") (codes "s-0") (of ((codes "body", n 7) ∷ (codes "headers", n 6) ∷ []))
    ∷ start (codes "r1-1") (codes "s-1") (of ((codes "body", n 8) ∷ (codes "headers", n 6) ∷ [])) ∷ [])
unfolding digits
split-two = refl

split-no_body : starts (Some (plain (codes "two"))) [] (of []) ≡ Ok (
    start (codes "r1-0") (codes "s-0") (of ((codes "body", n 7) ∷ []))
    ∷ start (codes "r1-1") (codes "s-1") (of ((codes "body", n 8) ∷ [])) ∷ [])
unfolding digits
split-no_body = refl

split-no_object : starts (Some (plain (codes "two"))) [] (n 5) ≡ Ok (
    start (codes "r1-0") (codes "s-0") (of ((codes "body", n 7) ∷ []))
    ∷ start (codes "r1-1") (codes "s-1") (of ((codes "body", n 8) ∷ [])) ∷ [])
unfolding digits
split-no_object = refl

split-nothing : starts (Some (plain (codes "none"))) [] (n 5) ≡ Ok []
split-nothing = refl

split-fault : starts (Some (plain (codes "fault"))) [] (n 5) ≡ Err (TriggerFault.Split (EvalFault.Range Fun.Div))
split-fault = refl

-- what is split comes before the conditions
split-no_list : starts (Some (plain (codes "x"))) (plain (codes "false") ∷ plain (codes "fault") ∷ []) (n 5) ≡ Err TriggerFault.SplitNotList
split-no_list = refl

-- ---- the conditions

conditions-all_hold : starts None (plain (codes "true") ∷ plain (codes "true") ∷ []) (n 5) ≡ Ok (start (codes "r1") (codes "s") (n 5) ∷ [])
conditions-all_hold = refl

-- a false one ends it: a fault behind it isn't reached, and one before it is
conditions-false : starts None (plain (codes "true") ∷ plain (codes "false") ∷ plain (codes "fault") ∷ []) (n 5) ≡ Ok []
conditions-false = refl

conditions-fault : starts None (plain (codes "true") ∷ plain (codes "fault") ∷ plain (codes "false") ∷ []) (n 5)
    ≡ Err (TriggerFault.Condition (EvalFault.Range Fun.Div))
conditions-fault = refl

conditions-no_truth_value : starts None (plain (codes "x") ∷ []) (n 5) ≡ Err (TriggerFault.Condition (wrong_type Fun.Condition 0))
conditions-no_truth_value = refl

conditions-of_a_split : starts (Some (plain (codes "two"))) (plain (codes "false") ∷ []) (n 5) ≡ Ok []
conditions-of_a_split = refl

-- ---- all, in their order

runs-untriggered : runs_of [] [] [] (inputs (n 5) None []) ≡ Ok (record {
  run = codes "r1";
  seed = codes "s";
  trigger = of ((codes "name", null) ∷ (codes "outputs", n 5) ∷ []);
  parameters = [];
} ∷ [])
runs-untriggered = refl

runs-trigger_before_parameters : runs_of (p None None ∷ []) [] both (inputs (n 5) None []) ≡ Err TriggerFault.NoTrigger
runs-trigger_before_parameters = refl

runs-parameters_before_split : runs_of (p None None ∷ []) [] (trigger (Some (plain (codes "x"))) [] ∷ []) (inputs (n 5) None [])
    ≡ Err (TriggerFault.NoParameter (codes "p"))
runs-parameters_before_split = refl

-- ---- what a template of a trigger comes to

abbrev called : List ℕ → List ExprTree → Answer
called name args =
    value_in (Some (named (codes "t"))) (inputs (of ((codes "body", list (trees two))
    ∷ [])) None []) (is_p 3) (whole (call name (expr_trees args)))

value-body : called (codes "triggerBody") [] ≡ Ok (list (trees two))
value-body = refl

value-parameter : called (codes "parameters") (literal (text (codes "p")) ∷ []) ≡ Ok (n 3)
value-parameter = refl

value-divided : called (codes "div") (literal (n 1) ∷ literal (n 0) ∷ []) ≡ Err (EvalFault.Range Fun.Div)
value-divided = refl

value-unequal : called (codes "equals") (literal (n 1) ∷ literal (n 2) ∷ []) ≡ Ok (boolean false)
value-unequal = refl

value-no_variable : called (codes "variables") (literal (text (codes "v")) ∷ []) ≡ Err (EvalFault.NoValue (codes "v"))
value-no_variable = refl

-- the run's name is that of the inputs, before any split
value-run_name : called (codes "workflow") [] ≡ Ok (of ((codes "name", text (codes "workflow")) ∷
    (codes "run", of ((codes "name", text (codes "r1")) ∷ [])) ∷ []))
value-run_name = refl

-- ---- each type has values of one kind alone

abbrev one_of_each_kind : List ValueTree
one_of_each_kind = null ∷ boolean false ∷ n 1 ∷ text (codes "true") ∷ list (trees (n 1 ∷ [])) ∷ of ((codes "a", n 1) ∷ []) ∷ []

of_type : map (λ sort. filter (has_sort sort) one_of_each_kind) (Sort.Bool ∷ Sort.Int ∷ Sort.Text ∷ Sort.List ∷ Sort.Obj ∷ []) ≡
    (boolean false ∷ []) ∷ (n 1 ∷ []) ∷ (text (codes "true") ∷ []) ∷ (list (trees (n 1 ∷ [])) ∷ []) ∷ (of ((codes "a", n 1) ∷ []) ∷ []) ∷ []
of_type = refl

-- ---- a split has at most 100,000 items

split-most : (ts : ValueTrees) → length (items ts) ≡ 100000 → items_in (list ts) ≡ Ok (items ts)
split-most ts is = rw is refl

split-one_too_many : (ts : ValueTrees) → length (items ts) ≡ 100001 → items_in (list ts) ≡ Err (TriggerFault.SplitTooLong 100001)
split-one_too_many ts is = rw is refl
