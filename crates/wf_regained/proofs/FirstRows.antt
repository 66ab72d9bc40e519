-- What resubmissions begin with, at worked records.
use Rattle.std.proofs.Common.{◌≡◌, ℕ, true, false, List, [], ◌∷◌, Some, None, refl}
use Rattle.std.specs.Prelude.{codes}
use Rattle.wf_val.specs.Arguments.{wrong_type}
use Rattle.wf_val.specs.ValueTree.{boolean, null}
use Rattle.wf_val.specs.declared.function.Fun.{Fun}
use Rattle.wf_val.specs.declared.val.Val.{Val}
use Rattle.wf_template.specs.CondTree.{compare_by}
use Rattle.wf_template.specs.TemplateTree.{whole}
use Rattle.wf_layers.specs.Address.{address}
use Rattle.wf_asks.specs.declared.known.RowAt.{RowAt}
use Rattle.wf_def.specs.ActionTree.{ActionTree, action_trees, append_array, branch, case_trees, foreach, initialize, scope, set_to}
use Rattle.wf_def.specs.ActionTree.{switch}
use Rattle.wf_def.specs.DefTree.{DefTree}
use Rattle.wf_def.specs.declared.sort.Sort.{Sort}
use Rattle.wf_opening.specs.Decisions.{chosen, faulty, held, nothing}
use Rattle.wf_record.specs.Record.{RecordTree, RowTree}
use Rattle.wf_record.specs.declared.row.Row as rows
use Rattle.wf_record.specs.declared.status.RunStatus.{RunStatus}
use Rattle.wf_record.specs.declared.status.Status.{Status}
use Rattle.wf_turns.proofs.Terms.{act, alone, fields, initial, many, nat, of, of_actions, ran, record_is, success_of, unrun, value}
use Rattle.wf_turns.proofs.Terms.{values, words}
use Rattle.wf_regained.specs.First.{first_state}
use Rattle.wf_regained.specs.Kept.{with_all_kept}
use Rattle.wf_regained.specs.Last.{comes_after, is_later, last_from}
use Rattle.wf_regained.specs.Reopened.{recalled_by, reopened_with}

-- V is given a value by A; in the If after it by J, which ran, or K; and in each iteration of the loop after that by P.
abbrev writers : DefTree
writers = of_actions (
    act "A" 0 [] (initialize (initial "v" Sort.List None ∷ []))
    ∷ act "I" 1 (success_of 0) (branch (compare_by Fun.Equals (nat 1) (nat 1))
    (action_trees (act "J" 2 [] (set_to (codes "v") (many [])) ∷ []))
    (action_trees (act "K" 3 [] (set_to (codes "v") (many [])) ∷ [])))
    ∷ act "L" 4 (success_of 1) (foreach (many (nat 7 ∷ nat 8 ∷ [])) 1 (action_trees (
    act "P" 5 [] (append_array (codes "v") (of (alone "item"))) ∷ [])))
    ∷ [])

abbrev a : RowTree
a = ran "A" [] (value 1) (value 2)

abbrev i : RowTree
i = ran "I" [] (boolean true) null

abbrev j : RowTree
j = ran "J" [] (value 3) (value 4)

abbrev k : RowTree
k = unrun "K" []

abbrev l : RowTree
l = ran "L" [] (values (value 7 ∷ value 8 ∷ [])) null

abbrev p : RowTree
p = ran "P" (0 ∷ []) (value 5) (value 6)

abbrev q : RowTree
q = ran "P" (1 ∷ []) (value 9) (value 10)

abbrev old : RecordTree
old = record_is RunStatus.Succeeded null null (fields []) (a ∷ i ∷ j ∷ k ∷ l ∷ p ∷ q ∷ [])

-- ---- from J: what is before it and beside it is kept, the If is closed again, and the loop is redone with all inside it

before-is_kept : (first_state writers old (2 ∷ [])).rows (address 0 []) ≡ Some a.row
before-is_kept = refl

beside-is_kept : (first_state writers old (2 ∷ [])).rows (address 3 []) ≡ Some k.row
beside-is_kept = refl

itself-is_not : (first_state writers old (2 ∷ [])).rows (address 2 []) ≡ None
itself-is_not = refl

round-has_no_row : (first_state writers old (2 ∷ [])).rows (address 1 []) ≡ None
round-has_no_row = refl

behind-is_not : (first_state writers old (2 ∷ [])).rows (address 4 []) ≡ None
behind-is_not = refl

inside_behind-is_not : (first_state writers old (2 ∷ [])).rows (address 5 (1 ∷ [])) ≡ None
inside_behind-is_not = refl

round-is_open : (first_state writers old (2 ∷ [])).opens (address 1 []) ≡ Some (reopened_with (held true))
round-is_open = refl

open-nowhere_else : (first_state writers old (2 ∷ [])).opens (address 1 (0 ∷ [])) ≡ None
open-nowhere_else = refl

before-is_not_open : (first_state writers old (2 ∷ [])).opens (address 0 []) ≡ None
before-is_not_open = refl

redone-is_not_open : (first_state writers old (2 ∷ [])).opens (address 4 []) ≡ None
redone-is_not_open = refl

-- ---- from the loop: nothing is closed again

all_before-is_kept : (first_state writers old (4 ∷ [])).rows (address 1 []) ≡ Some i.row
all_before-is_kept = refl

none-is_open : (first_state writers old (4 ∷ [])).opens (address 1 []) ≡ None
none-is_open = refl

loop-is_redone : (first_state writers old (4 ∷ [])).rows (address 5 (0 ∷ [])) ≡ None
loop-is_redone = refl

-- ---- from A: all is redone

all-is_redone : (first_state writers old (0 ∷ [])).rows (address 3 []) ≡ None
all-is_redone = refl

-- ---- rows one after the other: each at its action and its indexes, where those of the action are kept

abbrev all_rows : List RowTree
all_rows = a ∷ j ∷ p ∷ q ∷ ran "Z" [] (value 1) (value 1) ∷ []

iteration-is_there : with_all_kept writers (λ n. true) (λ x. None) all_rows (address 5 (1 ∷ [])) ≡ Some q.row
iteration-is_there = refl

other_iteration-is_not : with_all_kept writers (λ n. true) (λ x. None) all_rows (address 5 (2 ∷ [])) ≡ None
other_iteration-is_not = refl

unkept-is_not : with_all_kept writers (λ n. false) (λ x. None) all_rows (address 0 []) ≡ None
unkept-is_not = refl

-- a name that no action has stands nowhere
nobodys-is_nowhere : with_all_kept writers (λ n. true) (λ x. None) all_rows (address 6 []) ≡ None
nobodys-is_nowhere = refl

-- ---- what rows say that containers decided

abbrev choice : ActionTree
choice = act "W" 0 [] (switch (whole (alone "item")) (case_trees (
    (codes "One", (words "r1", action_trees [])) ∷ (codes "Two", (value 2, action_trees [])) ∷ [])))

abbrev branching : ActionTree
branching = act "I" 0 [] (branch (compare_by Fun.Equals (nat 1) (nat 1)) (action_trees []) (action_trees []))

abbrev looping : ActionTree
looping = act "L" 0 [] (foreach (many []) 1 (action_trees []))

abbrev holding : ActionTree
holding = act "S" 0 [] (scope (action_trees []))

first_case-is_said : recalled_by (ran "W" [] (words "r1") null ∷ []) choice ≡ chosen (words "r1") 1
first_case-is_said = refl

second_case-is_said : recalled_by (ran "W" [] (value 2) null ∷ []) choice ≡ chosen (value 2) 2
second_case-is_said = refl

behind_cases-is_said : recalled_by (ran "W" [] (words "r3") null ∷ []) choice ≡ chosen (words "r3") 3
behind_cases-is_said = refl

no_choice-is_a_fault : recalled_by (ran "W" [] null null ∷ []) choice ≡ faulty (wrong_type Fun.Switch 0)
no_choice-is_a_fault = refl

no_branch-is_said : recalled_by (ran "I" [] (boolean false) null ∷ []) branching ≡ held false
no_branch-is_said = refl

no_truth-is_a_fault : recalled_by (ran "I" [] (value 1) null ∷ []) branching ≡ faulty (wrong_type Fun.Condition 0)
no_truth-is_a_fault = refl

scope-says_nothing : recalled_by (ran "S" [] (boolean true) null ∷ []) holding ≡ nothing
scope-says_nothing = refl

loop-says_nothing : recalled_by (ran "L" [] (values []) null ∷ []) looping ≡ nothing
loop-says_nothing = refl

no_row-says_nothing : recalled_by [] branching ≡ nothing
no_row-says_nothing = refl

iteration-says_nothing : recalled_by (ran "I" (0 ∷ []) (boolean true) null ∷ []) branching ≡ nothing
iteration-says_nothing = refl

-- ---- which of two instances is later, by the loops round each

order-decides_outside : is_later [] [] [] [] true ≡ true
order-decides_outside = refl

order-decides_in_one_iteration : is_later (4 ∷ []) (4 ∷ []) (1 ∷ []) (1 ∷ []) false ≡ false
order-decides_in_one_iteration = refl

order-decides_in_other_loops : is_later (4 ∷ []) (7 ∷ []) (5 ∷ []) (0 ∷ []) true ≡ true
order-decides_in_other_loops = refl

-- whatever the order of the actions is
later_iteration-is_later : is_later (4 ∷ []) (4 ∷ []) (0 ∷ []) (1 ∷ []) false ≡ true
later_iteration-is_later = refl

earlier_iteration-is_not : is_later (4 ∷ []) (4 ∷ []) (1 ∷ []) (0 ∷ []) true ≡ false
earlier_iteration-is_not = refl

-- iterations go by numbers: 10 is later than 9
tenth-is_later : is_later (4 ∷ []) (4 ∷ []) (9 ∷ []) (10 ∷ []) false ≡ true
tenth-is_later = refl

outer_loop-decides : is_later (4 ∷ 6 ∷ []) (4 ∷ 6 ∷ []) (1 ∷ 0 ∷ []) (0 ∷ 9 ∷ []) true ≡ false
outer_loop-decides = refl

inner_loop-decides_then : is_later (4 ∷ 6 ∷ []) (4 ∷ 6 ∷ []) (1 ∷ 0 ∷ []) (1 ∷ 9 ∷ []) false ≡ true
inner_loop-decides_then = refl

-- a loop that is round one of them alone decides nothing
own_loop-decides_nothing : is_later (4 ∷ []) (4 ∷ 6 ∷ []) (1 ∷ []) (1 ∷ 9 ∷ []) false ≡ false
own_loop-decides_nothing = refl

-- in the definition
loop-is_after : comes_after writers (address 2 []) (address 5 (0 ∷ [])) ≡ true
loop-is_after = refl

before-is_not_after : comes_after writers (address 5 (0 ∷ [])) (address 2 []) ≡ false
before-is_not_after = refl

none-is_after_itself : comes_after writers (address 5 (1 ∷ [])) (address 5 (1 ∷ [])) ≡ false
none-is_after_itself = refl

-- ---- the last writer, in whatever order rows come

abbrev ended_at : ℕ → List ℕ → Status → RowAt rows.Row
ended_at n at status = record {
  instance = record { action = n; at = at };
  row = record {
    address = record { name = []; at = [] };
    status = status;
    code = [];
    inputs = Val.Null;
    outputs = Val.Null;
    error = Val.Null;
    tracked = Val.Null;
    attempts = [];
  };
}

abbrev wrote : ℕ → List ℕ → RowAt rows.Row
wrote n at = ended_at n at Status.Succeeded

last-outside : last_from writers 0 None (wrote 0 [] ∷ wrote 2 [] ∷ []) ≡ Some (address 2 [])
last-outside = refl

last-outside-turned : last_from writers 0 None (wrote 2 [] ∷ wrote 0 [] ∷ []) ≡ Some (address 2 [])
last-outside-turned = refl

last-in_a_loop : last_from writers 0 None (wrote 0 [] ∷ wrote 5 (0 ∷ []) ∷ wrote 5 (1 ∷ []) ∷ []) ≡ Some (address 5 (1 ∷ []))
last-in_a_loop = refl

last-in_a_loop-turned : last_from writers 0 None (wrote 5 (1 ∷ []) ∷ wrote 5 (0 ∷ []) ∷ wrote 0 [] ∷ []) ≡ Some (address 5 (1 ∷ []))
last-in_a_loop-turned = refl

-- what didn't Succeed wrote nothing
failed-wrote_nothing : last_from writers 0 None (wrote 0 [] ∷ ended_at 2 [] Status.Failed ∷ []) ≡ Some (address 0 [])
failed-wrote_nothing = refl

skipped-wrote_nothing : last_from writers 0 None (ended_at 2 [] Status.Skipped ∷ []) ≡ None
skipped-wrote_nothing = refl

-- nor did who writes no variable, or stands at no instance
loop-wrote_nothing : last_from writers 0 None (wrote 4 [] ∷ wrote 5 [] ∷ []) ≡ None
loop-wrote_nothing = refl

other_variable-is_unwritten : last_from writers 1 None (wrote 0 [] ∷ []) ≡ None
other_variable-is_unwritten = refl
