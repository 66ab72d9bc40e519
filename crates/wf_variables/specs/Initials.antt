-- INITIALIZE VARIABLE: one variable, or several at once.
use Rattle.std.specs.Prelude.{ℕ, List, [], ◌∷◌, ◌++◌, Option, Some, None, Result, Ok, codes}
use Rattle.wf_val.specs.ValueTree.{ValueTree, text, list, object, trees, members}
use Rattle.wf_val.specs.declared.fault.EvalFault.{EvalFault}
use Rattle.wf_template.specs.DataTree.{DataTree}
use Rattle.wf_def.specs.ActionTree.{InitialTree}
use Rattle.wf_def.specs.declared.sort.Sort.{Sort}
use Rattle.wf_data.specs.Outcomes.{Outcome, turned}
use Rattle.wf_data.specs.Told.{Told}
use Rattle.wf_data.specs.TreeValue.{tree_value}
use Rattle.wf_data.specs.Made.{MadeTree, Making, fitting, followed, goes_on, one_member}
use Rattle.wf_variables.specs.Sorts.{empty_of, of_sort, sort_name}

-- the value with which a variable begins: it has to be of the type that the variable is made with
abbrev pub initial_by : Told → Sort → Option DataTree → ℕ → Outcome
initial_by l s None n = (Ok (empty_of s), n)
initial_by l s (Some t) n = turned (of_sort s) (tree_value l t n)

abbrev pub initial_value : Told → InitialTree → ℕ → Outcome
initial_value l i n = initial_by l i.sort i.value n

-- what is kept of a variable, and what is given out of it
abbrev pub kept_item : InitialTree → ValueTree → ValueTree
kept_item i v = object (members ((codes "name", text i.name) ∷ (codes "type", text (sort_name i.sort)) ∷ (codes "value", v) ∷ []))

abbrev pub given_item : List ℕ → ValueTree → ValueTree
given_item name v = object (members ((codes "name", text name) ∷ (codes "value", v) ∷ []))

-- the items that are kept of the variables so far, and those that are given out
pub record ItemsTree : Type 0 where
  pub kept : List ValueTree
  pub given : List ValueTree

abbrev pub pushed : InitialTree → ValueTree → ItemsTree → ItemsTree
pushed i v done = record { kept = done.kept ++ kept_item i v ∷ []; given = done.given ++ given_item i.name v ∷ [] }

-- all variables, behind those that are there: the value of each is judged before the next is evaluated, and none sees the others
abbrev pub initials_after : Told → List InitialTree → ItemsTree → ℕ → Result ItemsTree EvalFault × ℕ
initials_after l [] done n = (Ok done, n)
initials_after l (i ∷ is) done n = goes_on (initial_value l i n) (λ v m. initials_after l is (pushed i v done) m)

-- one is given out by itself, several as their list
abbrev pub body_of : List ValueTree → ValueTree
body_of (t ∷ []) = t
body_of ts = list (trees ts)

-- what is kept
abbrev pub made_of_items : ItemsTree → Result MadeTree EvalFault
made_of_items i = fitting (one_member (codes "variables") (list (trees i.kept))) (one_member (codes "body") (body_of i.given))

abbrev pub made_initialize : Told → List InitialTree → Making
made_initialize l is n = followed (initials_after l is (record { kept = []; given = [] }) n) made_of_items
