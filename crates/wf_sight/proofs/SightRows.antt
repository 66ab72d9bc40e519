-- What is seen, at worked values.
use Rattle.std.proofs.Common.{◌≡◌, ℕ, List, [], ◌∷◌, cond, Option, Some, None, nat_eq, refl}
use Rattle.std.specs.Prelude.{false, codes}
use Rattle.wf_val.specs.ValueTree.{ValueTree, null, object, no_members}
use Rattle.wf_layers.specs.Address.{Address, Table, address, is_own}
use Rattle.wf_template.specs.CondTree.{holds}
use Rattle.wf_template.specs.TemplateTree.{whole}
use Rattle.wf_def.specs.ActionTree.{compose, foreach, initialize, set_to, until, action_trees}
use Rattle.wf_def.specs.DefTree.{DefTree}
use Rattle.wf_def.specs.declared.sort.Sort.{Sort}
use Rattle.wf_record.specs.Record.{Row}
use Rattle.wf_views.specs.Decisions.{DecisionTree, each, faulty, nothing}
use Rattle.wf_val.specs.Arguments.{wrong_type}
use Rattle.wf_val.specs.declared.function.Fun.{Fun}
use Rattle.wf_views.specs.Done as done
use Rattle.wf_views.specs.Look.{index_in}
use Rattle.wf_views.specs.Rows.{row_of, view_of}
use Rattle.wf_views.proofs.Terms.{act, fields, initial, many, nat, num, of_actions, value, values, words}
use Rattle.wf_views.specs.Loops.{beyond, common}
use Rattle.wf_views.specs.Views.{result_from, view_from}
use Rattle.wf_sight.specs.Sight.{Opens, items_open}
use Rattle.wf_views.specs.Variables.{variable_number, written}
use Rattle.wf_sight.specs.Variables.{variable_in}

-- loops by their lists: the second is round both, the third isn't
common-two : common (3 ∷ 4 ∷ 7 ∷ []) (3 ∷ 4 ∷ 6 ∷ []) ≡ 2
common-two = refl

common-later : common (3 ∷ 4 ∷ []) (5 ∷ 4 ∷ []) ≡ 0
common-later = refl

beyond-two : beyond (3 ∷ 4 ∷ 7 ∷ []) (3 ∷ 4 ∷ 6 ∷ []) ≡ 7 ∷ []
beyond-two = refl

-- A, a Foreach L of C and of a Foreach M of D, and an Until U of S
abbrev nested : DefTree
nested = of_actions (
    act "A" 0 [] (compose (nat 1))
    ∷ act "L" 3 [] (foreach (many []) 20 (action_trees (
    act "C" 1 [] (compose (nat 1)) ∷ act "M" 4 [] (foreach (many []) 20 (action_trees (act "D" 2 [] (compose (nat 1)) ∷ []))) ∷ [])))
    ∷ act "U" 6 [] (until (holds (whole (num 1))) 5 false (action_trees (act "S" 5 [] (compose (nat 1)) ∷ [])))
    ∷ [])

abbrev ran : ValueTree → ValueTree → Row
ran i o = row_of (done.succeeded (record { inputs = i; outputs = o })) (object no_members) []

abbrev unrun : Row
unrun = row_of done.skipped (object no_members) []

abbrev rows_at : List (Address × Row) → Table Row
rows_at [] x = None
rows_at (r ∷ rs) x = cond (is_own r.0.name r.0.at x) (Some r.1) (rows_at rs x)

abbrev known : Table Row
known = rows_at (
    (address 0 [], ran (value 1) (value 1))
    ∷ (address 1 (0 ∷ []), unrun)
    ∷ (address 1 (1 ∷ []), ran (value 3) (value 3))
    ∷ (address 2 (1 ∷ 0 ∷ []), ran (value 4) (value 4))
    ∷ (address 3 [], ran (values (value 7 ∷ value 8 ∷ [])) null)
    ∷ (address 4 (0 ∷ []), ran (values []) null)
    ∷ (address 4 (1 ∷ []), ran (values (value 5 ∷ value 6 ∷ [])) null)
    ∷ (address 5 (0 ∷ []), ran (value 10) (value 10))
    ∷ (address 5 (1 ∷ []), ran (value 11) (value 11))
    ∷ (address 6 [], ran null (fields ((codes "iterations", value 2) ∷ [])))
    ∷ [])

-- at the same level, by no such name, and where there is no row
same-level : view_from nested [] [] known (codes "A") ≡ Some (view_of (codes "A") (ran (value 1) (value 1)))
same-level = refl

no-name : view_from nested [] [] known (codes "B") ≡ None
no-name = refl

no-row : view_from nested [] [] (rows_at []) (codes "A") ≡ None
no-row = refl

-- out of a Foreach: each iteration; of one that had none, none
each-iteration : view_from nested [] [] known (codes "C")
    ≡ Some (values (view_of (codes "C") unrun ∷ view_of (codes "C") (ran (value 3) (value 3)) ∷ []))
each-iteration = refl

no-iteration : view_from nested [] [] (rows_at []) (codes "C") ≡ Some (values [])
no-iteration = refl

-- out of an Until: the last iteration; of one that had none, null
last-iteration : view_from nested [] [] known (codes "S") ≡ Some (view_of (codes "S") (ran (value 11) (value 11)))
last-iteration = refl

no-last : view_from nested [] [] (rows_at []) (codes "S") ≡ Some null
no-last = refl

-- out of two loops, nothing; out of the inner one alone each of its iterations, where null stands for a row that isn't there
two-left : view_from nested [] [] known (codes "D") ≡ None
two-left = refl

one-left : view_from nested (3 ∷ []) (1 ∷ []) known (codes "D")
    ≡ Some (values (view_of (codes "D") (ran (value 4) (value 4)) ∷ null ∷ []))
one-left = refl

-- from inside, the instance of the iterations round both
inside : view_from nested (3 ∷ 4 ∷ []) (1 ∷ 0 ∷ []) known (codes "C") ≡ Some (view_of (codes "C") (ran (value 3) (value 3)))
inside = refl

inside-two : view_from nested (3 ∷ 4 ∷ []) (1 ∷ 0 ∷ []) known (codes "D") ≡ Some (view_of (codes "D") (ran (value 4) (value 4)))
inside-two = refl

from-another : view_from nested (6 ∷ []) (0 ∷ []) known (codes "A") ≡ Some (view_of (codes "A") (ran (value 1) (value 1)))
from-another = refl

-- the result of a Foreach: by iteration and then by name, Skipped rows too; of an inner one, which leaves two loops, nothing
result-of-rounds : result_from nested [] [] known (codes "L") ≡ Some (values (
    view_of (codes "C") unrun ∷ view_of (codes "M") (ran (values []) null)
    ∷ view_of (codes "C") (ran (value 3) (value 3)) ∷ view_of (codes "M") (ran (values (value 5 ∷ value 6 ∷ [])) null)
    ∷ []))
result-of-rounds = refl

result-of-two : result_from nested [] [] known (codes "M") ≡ None
result-of-two = refl

result-inside : result_from nested (3 ∷ []) (1 ∷ []) known (codes "M")
    ≡ Some (values (view_of (codes "D") (ran (value 4) (value 4)) ∷ null ∷ []))
result-inside = refl

result-of-last : result_from nested [] [] known (codes "U") ≡ Some (values (view_of (codes "S") (ran (value 11) (value 11)) ∷ []))
result-of-last = refl

result-of-leaf : result_from nested [] [] known (codes "A") ≡ None
result-of-leaf = refl

-- ---- items and indexes

abbrev opens_at : List (Address × DecisionTree) → Opens
opens_at [] x = None
opens_at (o ∷ os) x = cond (is_own o.0.name o.0.at x) (Some (record { decision = o.1; next = 2; test = None })) (opens_at os x)

abbrev opens : Opens
opens = opens_at (
    (address 3 [], each (value 7 ∷ value 8 ∷ []))
    ∷ (address 4 (0 ∷ []), each (value 4 ∷ []))
    ∷ (address 4 (1 ∷ []), each (value 5 ∷ value 6 ∷ []))
    ∷ (address 6 [], nothing)
    ∷ [])

two-items : items_open nested opens (3 ∷ 4 ∷ []) (1 ∷ 0 ∷ []) [] ≡ (codes "L", value 8) ∷ (codes "M", value 5) ∷ []
two-items = refl

-- an Until has none, nor has an index past the list, nor a loop that isn't open
no-items : items_open nested opens (6 ∷ []) (0 ∷ []) [] ≡ []
no-items = refl

past-the-end : items_open nested opens (3 ∷ 4 ∷ []) (0 ∷ 1 ∷ []) [] ≡ (codes "L", value 7) ∷ []
past-the-end = refl

not-open : items_open nested (opens_at []) (3 ∷ []) (0 ∷ []) [] ≡ []
not-open = refl

faulty-list : items_open nested (opens_at ((address 3 [], faulty (wrong_type Fun.Foreach 0)) ∷ [])) (3 ∷ []) (0 ∷ []) [] ≡ []
faulty-list = refl

outer-index : index_in nested (3 ∷ 4 ∷ []) (1 ∷ 0 ∷ []) (codes "L") ≡ Some 1
outer-index = refl

inner-index : index_in nested (3 ∷ 4 ∷ []) (1 ∷ 0 ∷ []) (codes "M") ≡ Some 0
inner-index = refl

no-index : index_in nested (3 ∷ 4 ∷ []) (1 ∷ 0 ∷ []) (codes "U") ≡ None
no-index = refl

-- ---- variables: numbered as they are written first

abbrev stored : DefTree
stored = of_actions (
    act "I" 0 [] (initialize (initial "y" Sort.Int None ∷ initial "x" Sort.Int None ∷ []))
    ∷ act "S" 1 [] (set_to (codes "x") (nat 2)) ∷ [])

first-variable : variable_number stored (codes "y") ≡ Some 0
first-variable = refl

second-variable : variable_number stored (codes "x") ≡ Some 1
second-variable = refl

no-variable : variable_number stored (codes "z") ≡ None
no-variable = refl

written-both : written stored 0 ≡ 0 ∷ 1 ∷ []
written-both = refl

written-again : written stored 1 ≡ 1 ∷ []
written-again = refl

abbrev is_given : ValueTree → ValueTree
is_given v = fields ((codes "body", fields ((codes "name", words "x") ∷ (codes "value", v) ∷ [])) ∷ [])

abbrev writer_of : ℕ → Option Address → ℕ → Option Address
writer_of v a w = cond (nat_eq v w) a None

last-writer : variable_in stored (rows_at ((address 1 [], ran (value 2) (is_given (value 2))) ∷ [])) (writer_of 1 (Some (address 1 [])))
    (codes "x") ≡ Some (value 2)
last-writer = refl

no-writer : variable_in stored (rows_at []) (writer_of 1 None) (codes "x") ≡ None
no-writer = refl

skipped-writer : variable_in stored (rows_at ((address 1 [], unrun) ∷ [])) (writer_of 1 (Some (address 1 []))) (codes "x") ≡ None
skipped-writer = refl
