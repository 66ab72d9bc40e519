-- Worked rows: the steps and the ends of a graph, its status, and places of branches. 0 waits for 2 and 1, 1 for 2, and none waits for 0
-- or 3.
use Rattle.std.proofs.Common.{◌≡◌, ℕ, true, false, List, [], ◌∷◌, Some, cond, nat_eq, refl}
use Rattle.wf_val.specs.ValueTree.{null}
use Rattle.wf_layers.specs.Address.{Table}
use Rattle.wf_def.specs.ActionTree.{ActionTree, action, initialize}
use Rattle.wf_def.specs.declared.after.After.{After}
use Rattle.wf_def.specs.declared.after.Statuses.{Statuses}
use Rattle.wf_record.specs.Record.{Row}
use Rattle.wf_record.specs.declared.status.Status.{Status}
use Rattle.wf_record.specs.declared.status.Status.TheVariants.{Succeeded, Failed, Skipped}
use Rattle.wf_closing.specs.Inside.{case_place}
use Rattle.wf_closing.specs.Judged.{status_by}
use Rattle.wf_closing.specs.Steps.{judged_of}

abbrev statuses : Statuses
statuses = record { succeeded = true; failed = false; skipped = false; timed_out = false }

abbrev after : List ℕ → List After
after [] = []
after (n ∷ ns) = record { name = []; number = n; statuses = statuses } ∷ after ns

abbrev one : ℕ → List ℕ → ActionTree
one n ns = action [] n [] (after ns) (initialize []) []

abbrev graph : List ActionTree
graph = one 0 (2 ∷ 1 ∷ []) ∷ one 1 (2 ∷ []) ∷ one 2 [] ∷ one 3 [] ∷ []

-- each behind those that it waits for, the first that may come first
steps : (judged_of graph).steps ≡ record { number = 2; after = [] } ∷ record { number = 1; after = 2 ∷ [] }
    ∷ record { number = 0; after = 2 ∷ 1 ∷ [] } ∷ record { number = 3; after = [] } ∷ []
steps = refl

ends : (judged_of graph).ends ≡ 0 ∷ 3 ∷ []
ends = refl

-- actions that wait for each other in a circle become no steps
no_steps : (judged_of (one 0 (1 ∷ []) ∷ one 1 (0 ∷ []) ∷ [])).steps ≡ []
no_steps = refl

abbrev row : Status → Row
row s = record { status = s; code = []; inputs = null; outputs = null; error = null; tracked = null; attempts = [] }

abbrev rows : Status → Status → Status → Status → Table Row
rows a b c d x =
    cond (nat_eq x.name 0) (Some (row a)) (cond (nat_eq x.name 1) (Some (row b)) (cond (nat_eq x.name 2) (Some (row c)) (Some (row d))))

abbrev ended : Status → Status → Status → Status → Status
ended a b c d = status_by [] (rows a b c d) (judged_of graph)

all_succeeded : ended Succeeded Succeeded Succeeded Succeeded ≡ Succeeded
all_succeeded = refl

an_end_failed : ended Failed Succeeded Succeeded Succeeded ≡ Failed
an_end_failed = refl

-- what failed before an end that ran doesn't count
caught : ended Succeeded Failed Failed Succeeded ≡ Succeeded
caught = refl

-- a Skipped one hands the judgement on, also twice
handed_on : ended Skipped Failed Succeeded Succeeded ≡ Failed
handed_on = refl

handed_on_twice : ended Skipped Skipped Failed Succeeded ≡ Failed
handed_on_twice = refl

skipped_after_success : ended Skipped Skipped Succeeded Succeeded ≡ Succeeded
skipped_after_success = refl

other_end_failed : ended Succeeded Succeeded Succeeded Failed ≡ Failed
other_end_failed = refl

no_actions : status_by [] (rows Failed Failed Failed Failed) (judged_of []) ≡ Succeeded
no_actions = refl

-- cases are counted from 1; any other number means what is behind them
first_case : case_place 3 1 ≡ 0
first_case = refl

last_case : case_place 3 3 ≡ 2
last_case = refl

behind : case_place 3 4 ≡ 3
behind = refl

no_case : case_place 3 0 ≡ 3
no_case = refl
