-- Worked definitions. Scope, If and Switch, and what expressions see of what is inside.
use Rattle.std.proofs.Common.{◌≡◌, [], ◌∷◌, refl}
use Rattle.std.specs.Prelude.{true, false, codes}
use Rattle.wf_val.specs.Arguments.{wrong_type}
use Rattle.wf_val.specs.ValueTree.{null, boolean}
use Rattle.wf_val.specs.declared.fault.EvalFault.{EvalFault}
use Rattle.wf_val.specs.declared.function.Fun.{Fun}
use Rattle.wf_template.specs.ExprTree.{index}
use Rattle.wf_template.specs.TemplateTree.{plain, whole}
use Rattle.wf_template.specs.CondTree.{holds, all_of, not_of, compare_by, cond_trees}
use Rattle.wf_refs.specs.ActionTree.{compose, scope, branch, switch, switch_else, foreach, action_trees, case_trees}
use Rattle.wf_refs.specs.DefTree.{DefTree}
use Rattle.wf_environment.specs.Status.TheVariants.{Failed}
use Rattle.wf_environment.specs.RunStatus.{RunStatus}
use Rattle.wf_meant.specs.Record.{meaning}
use Rattle.wf_meant.proofs.Terms.{act, after, apply, answered, ask, ended, failure_of, fell, fields, many, nat, num, of, of_actions, ran}
use Rattle.wf_meant.proofs.Terms.{record_is, rows_in, say, success_of, txt, unrun, value, values, words}

-- A Scope whose Compose fails, and what catches it by the Scope's result.
abbrev caught : DefTree
caught = of_actions (
    act "H" 0 (failure_of 1) (compose (of (index (index (ask "result" (say "S")) (num 0) false) (say "status") false)))
    ∷ act "S" 1 [] (scope (action_trees (act "T" 2 [] (compose (of (apply "div" (num 1 ∷ num 0 ∷ [])))) ∷ [])))
    ∷ [])

caught-means : meaning caught (answered []) ≡
    record_is RunStatus.Succeeded null null (fields []) (
    ran "H" [] (words "Failed") (words "Failed")
    ∷ ended "S" [] Failed (codes "ActionFailed") null null
    ∷ fell "T" [] (EvalFault.Range Fun.Div)
    ∷ [])
unfolding meaning
caught-means = refl

-- Nothing catches it, and what waits for its success is Skipped: a Scope that Succeeded would let it run.
abbrev missed : DefTree
missed = of_actions (
    act "H" 0 (success_of 1) (compose (nat 1))
    ∷ act "S" 1 [] (scope (action_trees (act "T" 2 [] (compose (of (apply "div" (num 1 ∷ num 0 ∷ [])))) ∷ [])))
    ∷ [])

missed-means : meaning missed (answered []) ≡
    record_is RunStatus.Failed null null (fields []) (
    unrun "H" [] ∷ ended "S" [] Failed (codes "ActionFailed") null null ∷ fell "T" [] (EvalFault.Range Fun.Div) ∷ [])
unfolding meaning
missed-means = refl

-- In a Scope a Failed action is judged through two Skipped ones, of which the last is waited for by none.
abbrev handed-on : DefTree
handed-on = of_actions (
    act "S" 3 [] (scope (action_trees (
    act "A" 0 [] (compose (of (apply "div" (num 1 ∷ num 0 ∷ []))))
    ∷ act "B" 1 (success_of 0) (compose (nat 1))
    ∷ act "C" 2 (success_of 1) (compose (nat 2))
    ∷ [])))
    ∷ [])

handed-on-means : rows_in handed-on [] ≡
    fell "A" [] (EvalFault.Range Fun.Div) ∷ unrun "B" [] ∷ unrun "C" [] ∷ ended "S" [] Failed (codes "ActionFailed") null null ∷ []
handed-on-means = refl

-- And where the one that is Skipped waits for the failure of one that Succeeded, the Scope Succeeded.
abbrev handed-back : DefTree
handed-back = of_actions (
    act "S" 3 [] (scope (action_trees (
    act "A" 0 [] (compose (nat 1))
    ∷ act "B" 1 (failure_of 0) (compose (nat 2))
    ∷ act "C" 2 (after 1 true true false false ∷ []) (compose (nat 3))
    ∷ [])))
    ∷ [])

handed-back-means : rows_in handed-back [] ≡
    ran "A" [] (value 1) (value 1) ∷ unrun "B" [] ∷ unrun "C" [] ∷ ran "S" [] null null ∷ []
handed-back-means = refl

-- A Scope without actions.
abbrev empty : DefTree
empty = of_actions (act "S" 0 [] (scope (action_trees [])) ∷ [])

empty-means : rows_in empty [] ≡
    ran "S" [] null null ∷ []
empty-means = refl

-- An If, one of whose branches is taken: its inputs are the truth value.
abbrev chooses : DefTree
chooses = of_actions (
    act "C" 0 [] (branch
    (all_of (cond_trees (compare_by Fun.Greater (nat 2) (nat 1) ∷ not_of (compare_by Fun.Equals (txt "a") (txt "b")) ∷ [])))
    (action_trees (act "Y" 2 [] (compose (nat 1)) ∷ []))
    (action_trees (act "N" 1 [] (compose (nat 2)) ∷ [])))
    ∷ [])

chooses-means : rows_in chooses [] ≡
    ran "C" [] (boolean true) null ∷ unrun "N" [] ∷ ran "Y" [] (value 1) (value 1) ∷ []
chooses-means = refl

-- The other branch, which Failed.
abbrev chooses-other : DefTree
chooses-other = of_actions (
    act "C" 0 [] (branch
    (compare_by Fun.Greater (nat 1) (nat 2))
    (action_trees (act "Y" 2 [] (compose (nat 1)) ∷ []))
    (action_trees (act "N" 1 [] (compose (of (apply "div" (num 1 ∷ num 0 ∷ [])))) ∷ [])))
    ∷ [])

chooses-other-means : rows_in chooses-other [] ≡
    ended "C" [] Failed (codes "ActionFailed") (boolean false) null ∷ fell "N" [] (EvalFault.Range Fun.Div) ∷ unrun "Y" [] ∷ []
chooses-other-means = refl

-- An If whose condition has no value takes no branch.
abbrev unanswerable : DefTree
unanswerable = of_actions (
    act "C" 0 [] (branch
    (compare_by Fun.Equals (of (ask "int" (say "x"))) (nat 1))
    (action_trees (act "Y" 2 [] (compose (nat 1)) ∷ []))
    (action_trees (act "N" 1 [] (compose (nat 2)) ∷ [])))
    ∷ [])

unanswerable-means : rows_in unanswerable [] ≡
    fell "C" [] (EvalFault.BadText Fun.Int) ∷ unrun "N" [] ∷ unrun "Y" [] ∷ []
unanswerable-means = refl

-- And one whose condition is no truth value neither.
abbrev no-condition : DefTree
no-condition = of_actions (
    act "C" 0 [] (branch
    (all_of (cond_trees (holds (whole (num 1)) ∷ [])))
    (action_trees (act "Y" 1 [] (compose (nat 1)) ∷ [])) (action_trees []))
    ∷ [])

no-condition-means : rows_in no-condition [] ≡
    fell "C" [] (wrong_type Fun.Condition 0) ∷ unrun "Y" [] ∷ []
no-condition-means = refl

-- The result of an If has the views of both branches, by name; that of the branch not taken is Skipped.
abbrev result-of-both : DefTree
result-of-both = of_actions (
    act "C" 0 [] (branch
    (compare_by Fun.Greater (nat 2) (nat 1))
    (action_trees (act "Y" 3 [] (compose (nat 1)) ∷ []))
    (action_trees (act "N" 1 [] (compose (nat 2)) ∷ [])))
    ∷ act "R" 2 (success_of 0) (compose (of (apply "createArray" (
    index (index (ask "result" (say "C")) (num 0) false) (say "name") false
    ∷ index (index (ask "result" (say "C")) (num 0) false) (say "status") false
    ∷ index (index (ask "result" (say "C")) (num 1) false) (say "name") false
    ∷ index (index (ask "result" (say "C")) (num 1) false) (say "status") false
    ∷ []))))
    ∷ [])

result-of-both-means : rows_in result-of-both [] ≡
    ran "C" [] (boolean true) null
    ∷ unrun "N" []
    ∷ ran "R" [] (values (words "N" ∷ words "Skipped" ∷ words "Y" ∷ words "Succeeded" ∷ [])) (values (
    words "N" ∷ words "Skipped" ∷ words "Y" ∷ words "Succeeded" ∷ []))
    ∷ ran "Y" [] (value 1) (value 1)
    ∷ []
result-of-both-means = refl

-- A Switch takes the case that is the same value as its expression.
abbrev switched-by-text : DefTree
switched-by-text = of_actions (
    act "W" 3 [] (switch (plain (codes "2")) (case_trees (
    (codes "Low", (words "a", action_trees (act "A" 0 [] (compose (nat 1)) ∷ [])))
    ∷ (codes "Mid", (value 2, action_trees (act "B" 1 [] (compose (nat 2)) ∷ [])))
    ∷ (codes "Nil", (words "2", action_trees (act "D" 2 [] (compose (nat 3)) ∷ [])))
    ∷ [])))
    ∷ [])

switched-by-text-means : rows_in switched-by-text [] ≡
    unrun "A" [] ∷ unrun "B" [] ∷ ran "D" [] (value 3) (value 3) ∷ ran "W" [] (words "2") null ∷ []
switched-by-text-means = refl

-- A number and a text with its digits are two values.
abbrev switched-by-number : DefTree
switched-by-number = of_actions (
    act "W" 3 [] (switch (whole (apply "sub" (num 3 ∷ num 1 ∷ []))) (case_trees (
    (codes "Low", (words "a", action_trees (act "A" 0 [] (compose (nat 1)) ∷ [])))
    ∷ (codes "Mid", (value 2, action_trees (act "B" 1 [] (compose (nat 2)) ∷ [])))
    ∷ (codes "Nil", (words "2", action_trees (act "D" 2 [] (compose (nat 3)) ∷ [])))
    ∷ [])))
    ∷ [])

switched-by-number-means : rows_in switched-by-number [] ≡
    unrun "A" [] ∷ ran "B" [] (value 2) (value 2) ∷ unrun "D" [] ∷ ran "W" [] (value 2) null ∷ []
switched-by-number-means = refl

-- Where no case is the same value and there is no default, it takes none and Succeeded.
abbrev switched-by-none : DefTree
switched-by-none = of_actions (
    act "W" 3 [] (switch (plain (codes "A")) (case_trees (
    (codes "Low", (words "a", action_trees (act "A" 0 [] (compose (nat 1)) ∷ [])))
    ∷ (codes "Mid", (value 2, action_trees (act "B" 1 [] (compose (nat 2)) ∷ [])))
    ∷ (codes "Nil", (words "2", action_trees (act "D" 2 [] (compose (nat 3)) ∷ [])))
    ∷ [])))
    ∷ [])

switched-by-none-means : rows_in switched-by-none [] ≡
    unrun "A" [] ∷ unrun "B" [] ∷ unrun "D" [] ∷ ran "W" [] (words "A") null ∷ []
switched-by-none-means = refl

-- Else the default, whose status is its own.
abbrev switched-by-default : DefTree
switched-by-default = of_actions (
    act "W" 2 [] (switch_else (plain (codes "A"))
    (case_trees ((codes "Low", (words "a", action_trees (act "A" 0 [] (compose (nat 1)) ∷ []))) ∷ []))
    (action_trees (act "E" 1 [] (compose (of (apply "div" (num 1 ∷ num 0 ∷ [])))) ∷ [])))
    ∷ [])

switched-by-default-means : rows_in switched-by-default [] ≡
    unrun "A" [] ∷ fell "E" [] (EvalFault.Range Fun.Div) ∷ ended "W" [] Failed (codes "ActionFailed") (words "A") null ∷ []
switched-by-default-means = refl

-- The default is left where a case is taken.
abbrev default-left : DefTree
default-left = of_actions (
    act "W" 2 [] (switch_else (plain (codes "a"))
    (case_trees ((codes "Low", (words "a", action_trees (act "A" 0 [] (compose (nat 1)) ∷ []))) ∷ []))
    (action_trees (act "E" 1 [] (compose (nat 2)) ∷ [])))
    ∷ [])

default-left-means : rows_in default-left [] ≡
    ran "A" [] (value 1) (value 1) ∷ unrun "E" [] ∷ ran "W" [] (words "a") null ∷ []
default-left-means = refl

-- A list is no value for a Switch.
abbrev switched-by-list : DefTree
switched-by-list = of_actions (
    act "W" 1 [] (switch (whole (apply "range" (num 1 ∷ num 1 ∷ []))) (case_trees (
    (codes "Low", (words "a", action_trees (act "A" 0 [] (compose (nat 1)) ∷ []))) ∷ [])))
    ∷ [])

switched-by-list-means : rows_in switched-by-list [] ≡
    unrun "A" [] ∷ fell "W" [] (wrong_type Fun.Switch 0) ∷ []
switched-by-list-means = refl

-- Nor is a truth value.
abbrev switched-by-truth : DefTree
switched-by-truth = of_actions (
    act "W" 1 [] (switch (whole (apply "equals" (num 1 ∷ num 1 ∷ []))) (case_trees (
    (codes "Low", (words "a", action_trees (act "A" 0 [] (compose (nat 1)) ∷ []))) ∷ [])))
    ∷ [])

switched-by-truth-means : rows_in switched-by-truth [] ≡
    unrun "A" [] ∷ fell "W" [] (wrong_type Fun.Switch 0) ∷ []
switched-by-truth-means = refl

-- All inside a Skipped Scope is Skipped, but a loop there has no iterations.
abbrev skipped-inside : DefTree
skipped-inside = of_actions (
    act "F" 2 [] (compose (of (apply "div" (num 1 ∷ num 0 ∷ []))))
    ∷ act "S" 5 (success_of 2) (scope (action_trees (
    act "L" 3 [] (foreach (many (nat 1 ∷ [])) 20 (action_trees (act "C" 0 [] (compose (nat 1)) ∷ [])))
    ∷ act "M" 4 [] (scope (action_trees (act "D" 1 [] (compose (nat 2)) ∷ [])))
    ∷ [])))
    ∷ [])

skipped-inside-means : rows_in skipped-inside [] ≡
    unrun "D" [] ∷ fell "F" [] (EvalFault.Range Fun.Div) ∷ unrun "L" [] ∷ unrun "M" [] ∷ unrun "S" [] ∷ []
skipped-inside-means = refl

-- An action runs where each that it waits for ended in a listed status, and one mismatch is enough to skip it.
abbrev gate : DefTree
gate = of_actions (
    act "A" 0 [] (compose (nat 1))
    ∷ act "B" 1 [] (compose (of (apply "div" (num 1 ∷ num 0 ∷ []))))
    ∷ act "C" 2 (after 0 true false false false ∷ after 1 false true false false ∷ []) (compose (nat 2))
    ∷ act "D" 3 (after 0 true false false false ∷ after 1 true false false false ∷ []) (compose (nat 3))
    ∷ act "E" 4 (after 3 false false true false ∷ []) (compose (nat 4))
    ∷ act "F" 5 (after 0 false false false false ∷ []) (compose (nat 5))
    ∷ [])

gate-means : rows_in gate [] ≡
    ran "A" [] (value 1) (value 1)
    ∷ fell "B" [] (EvalFault.Range Fun.Div)
    ∷ ran "C" [] (value 2) (value 2)
    ∷ unrun "D" []
    ∷ ran "E" [] (value 4) (value 4)
    ∷ unrun "F" []
    ∷ []
gate-means = refl

-- A member that is missing, asked for with and without `?`, of an action that was Skipped.
abbrev members : DefTree
members = of_actions (
    act "A" 0 (failure_of 3) (compose (nat 2))
    ∷ act "B" 1 (after 0 false false true false ∷ []) (compose (of (index (ask "body" (say "A")) (say "x") true)))
    ∷ act "C" 2 (after 0 false false true false ∷ []) (compose (of (index (ask "body" (say "A")) (say "x") false)))
    ∷ act "F" 3 [] (compose (nat 1))
    ∷ [])

members-means : rows_in members [] ≡
    unrun "A" [] ∷ ran "B" [] null null ∷ fell "C" [] (EvalFault.NoMember (codes "x")) ∷ ran "F" [] (value 1) (value 1) ∷ []
members-means = refl
