-- THE KINDS THAT GO OVER A LIST: Select, Query and Join.
use Rattle.std.specs.Prelude.{ℕ, Bool, List, [], ◌∷◌, ◌++◌, Result, Ok, Err, codes, map, if◌then◌else◌}
use Rattle.wf_val.specs.Arguments.{Answer, given, wrong_type}
use Rattle.wf_val.specs.ValueTree.{ValueTree, boolean, text, list, object, trees, items, members}
use Rattle.wf_val.specs.declared.fault.EvalFault.{EvalFault}
use Rattle.wf_val.specs.declared.function.Fun.{Fun}
use Rattle.wf_eval.specs.Rows.{strict_row}
use Rattle.wf_template.specs.DataTree.{DataTree}
use Rattle.wf_template.specs.TemplateTree.{TemplateTree}
use Rattle.wf_eval.specs.Outcomes.{Run, all_after}
use Rattle.wf_eval.specs.Told.{Told, over}
use Rattle.wf_eval.specs.TemplateValue.{template_value}
use Rattle.wf_eval.specs.TreeValue.{tree_value}
use Rattle.wf_data.specs.Made.{MadeTree, Making, fitting, followed, goes_on, one_member}

-- the items of the list that is gone over
abbrev pub items_from : ValueTree → Result (List ValueTree) EvalFault
items_from (list ts) = Ok (items ts)
items_from t = Err (wrong_type Fun.From 0)

-- the list that was gone over, and what was made of it
abbrev pub made_of_list : ValueTree → List ValueTree → Result MadeTree EvalFault
made_of_list v us = fitting (one_member (codes "from") v) (one_member (codes "body") (list (trees us)))

-- ---- Select

-- the values of a tree, each in a look that has one of the items above those that it had, in the order of items
abbrev pub over_each : Told → DataTree → List ValueTree → List Run
over_each l item ts = map (λ t. tree_value (over t l) item) ts

abbrev pub selected : (List ValueTree → List Run) → ValueTree → List ValueTree → Making
selected each v ts n = followed (all_after (each ts) [] n) (made_of_list v)

abbrev pub made_select : Told → DataTree → DataTree → Making
made_select l from item n =
    goes_on (tree_value l from n) (λ v m. goes_on (items_from v, m) (λ ts k. selected (over_each l item) v ts k))

-- ---- Query

-- a value of `where` has to be a Boolean
abbrev pub query_truth : ValueTree → Result Bool EvalFault
query_truth (boolean b) = Ok b
query_truth t = Err (wrong_type Fun.Query 0)

-- whether an item is kept, or why that isn't known
abbrev pub Judge : Type 0
Judge = ValueTree → ℕ → Result Bool EvalFault × ℕ

-- `where` is evaluated in a look that has the item above those that it had
abbrev pub keeps : Told → TemplateTree → Judge
keeps l filter t n = followed (template_value (over t l) filter n) query_truth

abbrev pub with_kept : Bool → ValueTree → List ValueTree → List ValueTree
with_kept keep t done = if keep then done ++ t ∷ [] else done

-- the items that are kept, behind those that are there: each is judged before the next is looked at
abbrev pub kept_after : Judge → List ValueTree → List ValueTree → ℕ → Result (List ValueTree) EvalFault × ℕ
kept_after judge [] done n = (Ok done, n)
kept_after judge (t ∷ ts) done n = goes_on (judge t n) (λ keep m. kept_after judge ts (with_kept keep t done) m)

abbrev pub queried : Judge → ValueTree → List ValueTree → Making
queried judge v ts n = followed (kept_after judge ts [] n) (made_of_list v)

abbrev pub made_query : Told → DataTree → TemplateTree → Making
made_query l from filter n =
    goes_on (tree_value l from n) (λ v m. goes_on (items_from v, m) (λ ts k. queried (keeps l filter) v ts k))

-- ---- Join

abbrev pub join_inputs : ValueTree → ValueTree → ValueTree
join_inputs v w = object (members ((codes "from", v) ∷ (codes "joinWith", w) ∷ []))

-- the text, as the function `join` gives it; where it doesn't fit, that is the fault, and what is kept isn't measured
abbrev pub join_of : ValueTree → ValueTree → Answer
join_of v w = strict_row Fun.Join (v ∷ w ∷ [])

abbrev pub joined : ValueTree → ValueTree → Result MadeTree EvalFault
joined v (text s) =
    given (join_of v (text s)) (λ t. fitting (join_inputs v (text s)) (one_member (codes "body") t))
joined v w = Err (wrong_type Fun.JoinWith 0)

abbrev pub made_join : Told → DataTree → DataTree → Making
made_join l from with' n =
    goes_on (tree_value l from n) (λ v m. goes_on (items_from v, m) (λ ts k. followed (tree_value l with' k) (joined v)))
