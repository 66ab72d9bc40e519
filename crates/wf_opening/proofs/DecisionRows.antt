-- Worked decisions: what containers find as they open, each fault with its function and place, and each edge.
use Rattle.std.proofs.Common.{◌≡◌, refl, ap, ℕ, List, [], ◌∷◌, length, true, false, Ok, if◌then◌else◌}
use Rattle.std.specs.Fmt.{digits}
use Rattle.std.specs.Prelude.{pos, codes, nat_le}
use Rattle.wf_val.proofs.ValueTreeLemmas.{items-trees}
use Rattle.wf_val.specs.ValueTree.{ValueTree, null, number, text, list, object, trees, members}
use Rattle.wf_val.specs.declared.fault.EvalFault.{EvalFault}
use Rattle.wf_val.specs.declared.function.Fun.{Fun}
use Rattle.wf_template.specs.ExprTree.{ExprTree, literal}
use Rattle.wf_template.specs.TemplateTree.{part, plain, whole, parts}
use Rattle.wf_template.specs.DataTree as inputs
use Rattle.wf_template.specs.CondTree.{CondTree, holds, all_of, not_of, compare_by, cond_trees}
use Rattle.wf_def.specs.ActionTree.{branch, switch, switch_else, foreach, scope, until, compose, no_actions, case_trees, CaseTree}
use Rattle.wf_eval.proofs.WorkedLook.{nowhere, somewhere}
use Rattle.wf_eval.proofs.WorkedExpressions.{int, word, truth, untruth, nothing, by_zero, rest_by_zero, of}
use Rattle.wf_opening.specs.Decisions as decision
use Rattle.wf_opening.specs.Decisions.{DecisionTree, decided, held, chosen, each, each_as, held_as, too_many, faulty, items_of, taken}

abbrev that : ExprTree → inputs.DataTree
that e = inputs.text (whole e)

abbrev n : ℕ → ValueTree
n k = number (pos k)

-- ---- an If

abbrev if_ : CondTree → DecisionTree
if_ c = decided somewhere (branch c no_actions no_actions)

if-true : if_ (holds (whole truth)) ≡ held true
if-true = refl

if-false : if_ (holds (whole untruth)) ≡ held false
if-false = refl

if-look : if_ (holds (whole (of (codes "parameters") (word (codes "p") ∷ [])))) ≡ held true
if-look = refl

if-not : if_ (not_of (compare_by Fun.Equals (that (int 1)) (inputs.number (pos 1)))) ≡ held false
if-not = refl

-- a text is no Boolean, and neither are null and a number
if-text : if_ (holds (plain (codes "true"))) ≡ faulty (EvalFault.WrongType Fun.Condition 1)
if-text = refl

if-null : if_ (holds (whole nothing)) ≡ faulty (EvalFault.WrongType Fun.Condition 1)
if-null = refl

if-number : if_ (holds (whole (int 1))) ≡ faulty (EvalFault.WrongType Fun.Condition 1)
if-number = refl

if-fault : if_ (compare_by Fun.Equals (that (of (codes "int") (word (codes "x") ∷ []))) (inputs.number (pos 1)))
    ≡ faulty (EvalFault.BadText Fun.Int)
if-fault = refl

-- the first fault is told; what comes after what decides isn't looked at
if-first_fault : if_ (compare_by Fun.Equals (that rest_by_zero) (that by_zero)) ≡ faulty (EvalFault.Range Fun.Mod)
if-first_fault = refl

if-decided : if_ (all_of (cond_trees (holds (whole untruth) ∷ holds (whole by_zero) ∷ []))) ≡ held false
if-decided = refl

if-no_value : decided nowhere (branch (holds (whole (of (codes "parameters") (word (codes "p") ∷ [])))) no_actions no_actions)
    ≡ faulty (EvalFault.NoValue (codes "p"))
if-no_value = refl

-- a condition comes to a Boolean or to a fault; any other value would be of the wrong type
if-other : held_as (Ok null) ≡ faulty (EvalFault.WrongType Fun.Condition 1)
if-other = refl

-- ---- a Switch: two cases, in the order of their names

abbrev cases : List CaseTree
cases = (codes "a", (text (codes "x"), no_actions)) ∷ (codes "b", (n 1, no_actions)) ∷ []

abbrev on : ExprTree → DecisionTree
on e = decided somewhere (switch (whole e) (case_trees cases))

abbrev on_else : ExprTree → DecisionTree
on_else e = decided somewhere (switch_else (whole e) (case_trees cases) no_actions)

switch-first : on (word (codes "x")) ≡ chosen (text (codes "x")) 1
switch-first = refl

switch-second : on (int 1) ≡ chosen (n 1) 2
switch-second = refl

switch-look : on (of (codes "variables") (word (codes "v") ∷ [])) ≡ chosen (text (codes "x")) 1
switch-look = refl

-- a text isn't a number, letter case counts, and a case isn't meant by its name: the branch behind all cases
switch-none : on (word (codes "1")) ≡ chosen (text (codes "1")) 3
switch-none = refl

switch-case : on (word (codes "X")) ≡ chosen (text (codes "X")) 3
switch-case = refl

switch-name : on (word (codes "a")) ≡ chosen (text (codes "a")) 3
switch-name = refl

switch-other_number : on (int 2) ≡ chosen (n 2) 3
switch-other_number = refl

-- it is the same branch where a default stands there
else-second : on_else (int 1) ≡ chosen (n 1) 2
else-second = refl

else-none : on_else (word (codes "y")) ≡ chosen (text (codes "y")) 3
else-none = refl

switch-no_cases : decided somewhere (switch (plain (codes "x")) (case_trees [])) ≡ chosen (text (codes "x")) 1
switch-no_cases = refl

-- of two cases of one value it is the first
switch-twice : decided somewhere (switch (whole (int 1)) (case_trees (
    (codes "a", (n 1, no_actions)) ∷ (codes "b", (n 1, no_actions)) ∷ []))) ≡ chosen (n 1) 1
switch-twice = refl

-- a text in parts is a text
switch-parts : decided somewhere (switch (parts (part (int 1) ∷ [])) (case_trees cases)) ≡ chosen (text (codes "1")) 3
unfolding digits
switch-parts = refl

switch-list : on (of (codes "range") (int 1 ∷ int 1 ∷ [])) ≡ faulty (EvalFault.WrongType Fun.Switch 1)
switch-list = refl

switch-truth : on truth ≡ faulty (EvalFault.WrongType Fun.Switch 1)
switch-truth = refl

switch-null : on_else nothing ≡ faulty (EvalFault.WrongType Fun.Switch 1)
switch-null = refl

switch-fault : on by_zero ≡ faulty (EvalFault.Range Fun.Div)
switch-fault = refl

else-fault : on_else by_zero ≡ faulty (EvalFault.Range Fun.Div)
else-fault = refl

-- ---- a Foreach

abbrev over_items : inputs.DataTree → DecisionTree
over_items t = decided somewhere (foreach t 20 no_actions)

foreach-two : over_items (that (literal (list (trees (n 1 ∷ null ∷ []))))) ≡ each (n 1 ∷ null ∷ [])
foreach-two = refl

foreach-none : over_items (that (literal (list (trees [])))) ≡ each []
foreach-none = refl

foreach-written : over_items (inputs.list (inputs.data_trees (that (of (codes "add") (int 1 ∷ int 1 ∷ [])) ∷ inputs.null ∷ [])))
    ≡ each (n 2 ∷ null ∷ [])
foreach-written = refl

foreach-null : over_items (that nothing) ≡ faulty (EvalFault.WrongType Fun.Foreach 1)
foreach-null = refl

foreach-text : over_items (that (word (codes "[]"))) ≡ faulty (EvalFault.WrongType Fun.Foreach 1)
foreach-text = refl

foreach-number : over_items (that (int 3)) ≡ faulty (EvalFault.WrongType Fun.Foreach 1)
foreach-number = refl

foreach-object : over_items (that (literal (object (members ((codes "a", n 1) ∷ []))))) ≡ faulty (EvalFault.WrongType Fun.Foreach 1)
foreach-object = refl

foreach-fault : over_items (that by_zero) ≡ faulty (EvalFault.Range Fun.Div)
foreach-fault = refl

foreach-first_fault : over_items (inputs.list (inputs.data_trees (that rest_by_zero ∷ that by_zero ∷ [])))
    ≡ faulty (EvalFault.Range Fun.Mod)
foreach-first_fault = refl

-- every list of 100,000 items is taken, and one of an item more isn't
foreach-at_the_limit : (ts : List ValueTree) → length ts ≡ 100000 → each_as (Ok (list (trees ts))) ≡ each ts
foreach-at_the_limit ts so_many = rw items-trees (ap (λ k. if nat_le k 100000 then each ts else too_many) so_many)

foreach-past_the_limit : (ts : List ValueTree) → length ts ≡ 100001 → each_as (Ok (list (trees ts))) ≡ too_many
foreach-past_the_limit ts so_many = rw items-trees (ap (λ k. if nat_le k 100000 then each ts else too_many) so_many)

-- ---- what decides nothing

scope-nothing : decided somewhere (scope no_actions) ≡ decision.nothing
scope-nothing = refl

-- an Until's expression isn't looked at as it opens
until-nothing : decided somewhere (until (holds (whole by_zero)) 60 false no_actions) ≡ decision.nothing
until-nothing = refl

compose-nothing : decided somewhere (compose (that by_zero)) ≡ decision.nothing
compose-nothing = refl

-- ---- which branch and how many iterations are meant

taken-branches : taken (held true) ∷ taken (held false) ∷ taken (chosen (n 7) 1) ∷ taken (chosen (n 7) 26) ∷ [] ≡ 1 ∷ 2 ∷ 1 ∷ 26 ∷ []
taken-branches = refl

taken-none : taken decision.nothing ∷ taken (each (null ∷ [])) ∷ taken too_many ∷ taken (faulty (EvalFault.Range Fun.Div)) ∷ []
    ≡ 0 ∷ 0 ∷ 0 ∷ 0 ∷ []
taken-none = refl

items-many : items_of (each []) ∷ items_of (each (null ∷ null ∷ [])) ∷ [] ≡ 0 ∷ 2 ∷ []
items-many = refl

items-none : items_of decision.nothing ∷ items_of (held true) ∷ items_of (chosen (n 7) 3) ∷ items_of too_many
    ∷ items_of (faulty (EvalFault.Range Fun.Div)) ∷ [] ≡ 0 ∷ 0 ∷ 0 ∷ 0 ∷ 0 ∷ []
items-none = refl
