-- Worked rows of the counts of a state that has rows and open containers from the start, and of what may happen first.
use Rattle.std.proofs.Common.{◌≡◌, ℕ, Bool, true, false, cond, List, [], ◌∷◌, Option, Some, None, refl}
use Rattle.wf_layers.specs.Definition.{Need, Succeeded, Failed}
use Rattle.wf_layers.specs.Address.{Address, Table, address, is_own}
use Rattle.wf_layers.specs.Machine as machine
use Rattle.wf_layers.specs.Machine.{Opening}
use Rattle.wf_layers.specs.Source.{Source}
use Rattle.wf_enter.specs.OpenAt.{OpenAt}
use Rattle.wf_enter.specs.Plan.{EntryTree, PlanTree, ShapeTree, choice, leaf}
use Rattle.wf_resting.specs.Resting.{counts_at, lacking_of, lacks_at, resting_at, standing, waits_at}

abbrev after : ℕ → List Need
after n = record { name = n; listed = Succeeded ∷ [] } ∷ []

abbrev entry : List Need → ShapeTree → Option EntryTree
entry needs shape = Some (record { after = needs; shape = shape; block = [] })

-- 1 waits for 0, and is a choice of a branch with 2, and 3 behind it, and of one with 4; 5 waits for 0 and 1
abbrev plan : PlanTree
plan = record {
  top = 0 ∷ 1 ∷ 5 ∷ [];
  entries = entry [] leaf
      ∷ entry (after 0)
      (choice (record { own = 2 ∷ 3 ∷ []; all = 2 ∷ 3 ∷ [] } ∷ record { own = 4 ∷ []; all = 4 ∷ [] } ∷ []))
      ∷ entry [] leaf ∷ entry (after 2) leaf ∷ entry [] leaf
      ∷ entry (record { name = 0; listed = Succeeded ∷ [] } ∷ record { name = 1; listed = Succeeded ∷ [] } ∷ []) leaf ∷ [];
  followers = [];
  holders = [];
}

abbrev taken : ℕ → ℕ
taken c = c

abbrev same : ℕ → ℕ
same c = c

-- the choice is open
abbrev open_with : ℕ → List (OpenAt ℕ ℕ)
open_with c = record { instance = record { action = 1; at = [] }; decision = c; next = 0; test = None; unfinished = 0 } ∷ []

abbrev opened_with : ℕ → Table (Opening ℕ ℕ)
opened_with c x = cond (is_own 1 [] x) (Some (record { decision = c; next = 0; test = None })) None

abbrev shut : Table (Opening ℕ ℕ)
shut x = None

-- 0 and 2 have rows
abbrev kept : Table ℕ
kept x = cond (is_own 0 [] x) (Some 7) (cond (is_own 2 [] x) (Some 8) None)

-- ---- who stands in an open graph

at_first_its_own : standing {Verdict = ℕ} plan same taken [] ≡ 0 ∷ 1 ∷ 5 ∷ []
at_first_its_own = refl

and_those_of_the_branch_that_is_taken : standing plan same taken (open_with 1) ≡ 0 ∷ 1 ∷ 5 ∷ 2 ∷ 3 ∷ []
and_those_of_the_branch_that_is_taken = refl

or_of_the_other_one : standing plan same taken (open_with 2) ≡ 0 ∷ 1 ∷ 5 ∷ 4 ∷ []
or_of_the_other_one = refl

where_none_is_taken : standing plan same taken (open_with 3) ≡ 0 ∷ 1 ∷ 5 ∷ []
where_none_is_taken = refl

-- ---- what is waited for, and what is lacking

one_of_two_has_its_row : waits_at plan kept (address 5 []) ≡ 1
one_of_two_has_its_row = refl

all_have : waits_at plan kept (address 1 []) ≡ 0
all_have = refl

not_at_other_indexes : waits_at plan kept (address 1 (0 ∷ [])) ≡ 1
not_at_other_indexes = refl

who_names_none : waits_at plan kept (address 0 []) ≡ 0
who_names_none = refl

who_isnt_of_the_plan : waits_at plan kept (address 9 []) ≡ 0
who_isnt_of_the_plan = refl

one_without_a_row : lacking_of kept [] (2 ∷ 3 ∷ []) ≡ 1
one_without_a_row = refl

each_without_a_row_there : lacking_of kept (4 ∷ []) (2 ∷ 3 ∷ []) ≡ 2
each_without_a_row_there = refl

the_branch_lacks_one : lacks_at plan taken kept (opened_with 1) (address 1 []) ≡ 1
the_branch_lacks_one = refl

the_other_one_too : lacks_at plan taken kept (opened_with 2) (address 1 []) ≡ 1
the_other_one_too = refl

no_branch_lacks_none : lacks_at plan taken kept (opened_with 0) (address 1 []) ≡ 0
no_branch_lacks_none = refl

what_isnt_open_lacks_none : lacks_at plan taken kept shut (address 1 []) ≡ 0
what_isnt_open_lacks_none = refl

counted_at : counts_at (waits_at plan kept) [] (1 ∷ 5 ∷ [])
    ≡ record { instance = record { action = 1; at = [] }; count = 0 } ∷ record { instance = record { action = 5; at = [] }; count = 1 } ∷ []
counted_at = refl

-- ---- what may happen first

-- where a row ended as it is said
abbrev answers : (ok : Bool) → Source ℕ ℕ ℕ ℕ
answers ok = record {
  status = λ r. cond ok Succeeded Failed;
  skipped = 0;
  start = λ x t. 0;
  tries = λ x p. 0;
  finish = λ x p t. 0;
  decide = λ x t. 0;
  taken = taken;
  items = λ c. 0;
  test = λ x j t. 0;
  ends = λ v. true;
  close = λ x c n v t. 0;
  halts = λ x t. false;
  pinned = λ n. false;
  old = λ x. None;
  reclosed = λ n. false;
}

abbrev none : Table ℕ
none x = None

abbrev some_at_one : Table ℕ
some_at_one x = cond (is_own 1 [] x) (Some 1) None

abbrev some_at_five : Table ℕ
some_at_five x = cond (is_own 5 [] x) (Some 1) None

abbrev left : Address → ℕ
left x = 0

nothing_to_one_that_has_its_row : resting_at (answers true) plan kept (opened_with 1) none none left (address 0 []) ≡ None
nothing_to_one_that_has_its_row = refl

an_open_one_waits_for_what_it_lacks : resting_at (answers true) plan kept (opened_with 1) none some_at_one left (address 1 []) ≡ None
an_open_one_waits_for_what_it_lacks = refl

and_closes_where_it_lacks_nothing : resting_at (answers true) plan kept (opened_with 1) none none left (address 1 [])
    ≡ Some (machine.Close 1 [])
and_closes_where_it_lacks_nothing = refl

what_isnt_open_opens : resting_at (answers true) plan kept shut none none left (address 1 []) ≡ Some (machine.Open 1 [])
what_isnt_open_opens = refl

who_waits_has_none : resting_at (answers true) plan kept (opened_with 1) some_at_five none left (address 5 []) ≡ None
who_waits_has_none = refl

who_waits_for_a_kept_row_starts : resting_at (answers true) plan kept (opened_with 1) none none left (address 3 [])
    ≡ Some (machine.Start 3 [])
who_waits_for_a_kept_row_starts = refl

or_is_skipped : resting_at (answers false) plan kept (opened_with 1) none none left (address 3 []) ≡ Some (machine.Skip 3 [])
or_is_skipped = refl
