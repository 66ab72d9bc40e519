-- Worked rows of the definitions, on the example.
use Rattle.std.proofs.Common.{◌≡◌, ℕ, Bool, true, false, List, [], ◌∷◌, Option, Some, None, refl}
use Rattle.std.specs.Cmp.Lexicographic.{slice_cmp}
use Rattle.std.specs.Ordering.{nat_cmp}
use Rattle.std.specs.declared.cmp.Ordering.{Ordering}
use Rattle.std.specs.declared.cmp.Ordering.TheVariants.{Less, Equal}
use Rattle.wf_layers.specs.Definition.{InTurn, Need, Succeeded, Failed, Leaf, Scope, Choice, Foreach, Until, no_branch, branch, Graph, done, add}
use Rattle.wf_layers.specs.Address.{Address, address}
use Rattle.wf_layers.specs.Machine.{State, fresh, Event, Start, End, Skip, Open, Begin, Test, Close}
use Rattle.wf_layers.specs.Bound.{left}
use Rattle.wf_layers.specs.Enabled.{events}
use Rattle.wf_layers.specs.Changes.{may_change}
use Rattle.wf_layers.specs.Waiting.{waiting, lacking, times}
use Rattle.wf_layers.specs.Redo.{redone, closed_again}
use Rattle.wf_layers.specs.Instances.{loop_count}
use Rattle.wf_layers.specs.Record.{key}
use Rattle.wf_layers.proofs.Example.{row, before, graph, depths, a, f}
use Rattle.wf_layers.proofs.ExampleResubmission.{chosen}
use Rattle.wf_layers.proofs.ExampleRun.{after_all, at_the_end}

abbrev St : Type 0
St = State ℕ ℕ ℕ Bool

-- WHICH EVENTS ARE ENABLED

abbrev at : St → ℕ → List ℕ → Option Event
at s n i = events a s graph [] (address n i)

first_starts : at fresh 0 [] ≡ Some (Start 0 [])
unfolding row before
first_starts = refl

-- what waits, and what is in no open graph, has none
second_waits : at fresh 1 [] ≡ None
unfolding row before
second_waits = refl

inner_not_yet : at fresh 2 [] ≡ None
unfolding row before
inner_not_yet = refl

-- 0 has ended: the If opens, and what waits for its failure is skipped
abbrev zero_ended : St
zero_ended = after_all graph a fresh (Start 0 [] ∷ End 0 [] ∷ [])

if_opens : at zero_ended 1 [] ≡ Some (Open 1 [])
unfolding row before
if_opens = refl

failure_skipped : at zero_ended 8 [] ≡ Some (Skip 8 [])
unfolding row before
failure_skipped = refl

until_waits : at zero_ended 4 [] ≡ None
unfolding row before
until_waits = refl

-- the branch that is taken, and the other
abbrev if_open : St
if_open = after_all graph a zero_ended (Open 1 [] ∷ [])

taken_starts : at if_open 2 [] ≡ Some (Start 2 [])
unfolding row before
taken_starts = refl

other_over : at if_open 3 [] ≡ None
unfolding row before
other_over = refl

not_closed_yet : at if_open 1 [] ≡ None
unfolding row before
not_closed_yet = refl

-- two iterations go side by side, and no third until one has ended
abbrev two_begun : St
two_begun =
    after_all graph a if_open
    (Start 2 [] ∷ End 2 [] ∷ Close 1 [] ∷ Open 4 [] ∷ Begin 4 [] ∷ Start 5 (0 ∷ []) ∷ End 5 (0 ∷ []) ∷ Test 4 [] ∷ Begin 4 [] ∷ Start 5
    (1 ∷ []) ∷ End 5 (1 ∷ []) ∷ Test 4 [] ∷ Close 4 []
    ∷ Open 6 [] ∷ Begin 6 [] ∷ Begin 6 [] ∷ [])

no_third : at two_begun 6 [] ≡ None
unfolding row before
no_third = refl

first_side : at two_begun 7 (0 ∷ []) ≡ Some (Start 7 (0 ∷ []))
unfolding row before
first_side = refl

second_side : at two_begun 7 (1 ∷ []) ≡ Some (Start 7 (1 ∷ []))
unfolding row before
second_side = refl

then_third : at (after_all graph a two_begun (Start 7 (1 ∷ []) ∷ End 7 (1 ∷ []) ∷ [])) 6 [] ≡ Some (Begin 6 [])
unfolding row before
then_third = refl

none_at_the_end : at at_the_end 10 [] ≡ None
unfolding row before
none_at_the_end = refl

-- HOW MANY ARE LEFT

all_left : left a f fresh graph [] ≡ 33
unfolding row before
all_left = refl

some_left : left a f two_begun graph [] ≡ 14
unfolding row before
some_left = refl

-- WHERE AN EVENT MAY CHANGE WHAT IS ENABLED

abbrev changes : St → Event → ℕ → List ℕ → Bool
changes s e n i = may_change graph s e (address n i)

end_own : changes fresh (End 0 []) 0 [] ≡ true
end_own = refl

end_waiting : changes fresh (End 0 []) 1 [] ≡ true
end_waiting = refl

end_waiting_too : changes fresh (End 0 []) 8 [] ≡ true
end_waiting_too = refl

end_not_further : changes fresh (End 0 []) 4 [] ≡ false
end_not_further = refl

end_not_inside : changes fresh (End 0 []) 2 [] ≡ false
end_not_inside = refl

end_not_elsewhere : changes fresh (End 0 []) 1 (0 ∷ []) ≡ false
end_not_elsewhere = refl

-- at the container round it, in a loop and in none
end_round_if : changes fresh (End 2 []) 1 [] ≡ true
end_round_if = refl

end_round_until : changes fresh (End 5 (1 ∷ [])) 4 [] ≡ true
end_round_until = refl

end_not_beside : changes fresh (End 7 (1 ∷ [])) 7 (0 ∷ []) ≡ false
end_not_beside = refl

-- an attempt, a start and a test change nothing else
start_alone : changes fresh (Start 0 []) 1 [] ≡ false
start_alone = refl

test_alone : changes fresh (Test 4 []) 5 (0 ∷ []) ≡ false
test_alone = refl

open_enters : changes fresh (Open 1 []) 2 [] ≡ true
open_enters = refl

open_not_after : changes fresh (Open 1 []) 4 [] ≡ false
open_not_after = refl

-- the iteration that begins, and no other
begin_enters : changes two_begun (Begin 6 []) 7 (2 ∷ []) ≡ true
unfolding row before
begin_enters = refl

begin_no_other : changes two_begun (Begin 6 []) 7 (1 ∷ []) ≡ false
unfolding row before
begin_no_other = refl

-- HOW MUCH IS WAITED FOR

abbrev two_needs : List Need
two_needs = record { name = 0; listed = Succeeded ∷ [] } ∷ record { name = 1; listed = Failed ∷ [] } ∷ []

none_there : waiting two_needs [] f ≡ 0
unfolding row before
none_there = refl

both_missing : waiting {A = ℕ} two_needs [] (λ x. None) ≡ 2
both_missing = refl

named_once : times two_needs 1 ≡ 1
named_once = refl

not_named : times two_needs 2 ≡ 0
not_named = refl

all_lack : lacking {A = ℕ} graph [] (λ x. None) ≡ 7
all_lack = refl

none_lacks : lacking graph [] f ≡ 0
unfolding row before
none_lacks = refl

-- WHAT A SET REDOES

if_not_redone : redone graph depths chosen 1 ≡ false
if_not_redone = refl

chosen_redone : redone graph depths chosen 2 ≡ true
chosen_redone = refl

other_branch_kept : redone graph depths chosen 3 ≡ false
other_branch_kept = refl

inside_redone : redone graph depths chosen 5 ≡ true
inside_redone = refl

far_redone : redone graph depths chosen 10 ≡ true
far_redone = refl

apart_kept : redone graph depths chosen 8 ≡ false
apart_kept = refl

if_closed_again : closed_again graph depths chosen 1 ≡ true
if_closed_again = refl

no_other_again : closed_again graph depths chosen 4 ≡ false
no_other_again = refl

-- HOW MANY INDEXES AN ADDRESS HAS

loop_itself : loop_count graph 6 ≡ 0
loop_itself = refl

in_a_branch : loop_count graph 3 ≡ 0
in_a_branch = refl

in_an_until : loop_count graph 5 ≡ 1
in_an_until = refl

in_a_foreach : loop_count graph 7 ≡ 1
in_a_foreach = refl

-- a Foreach in a Scope in an Until, and behind them an If with a Foreach in its second branch
abbrev nested : Graph
nested =
    add 0 [] (Until 3 (add 1 [] (Scope (add 2 [] (Foreach InTurn (add 3 [] Leaf done)) done)) done))
    (add 4 [] (Choice (branch (add 5 [] Leaf done) (branch (add 6 [] (Foreach InTurn (add 7 [] Leaf done)) done) no_branch))) done)

scope_in_a_loop : loop_count nested 1 ≡ 1
scope_in_a_loop = refl

in_two_loops : loop_count nested 3 ≡ 2
in_two_loops = refl

in_a_first_branch : loop_count nested 5 ≡ 0
in_a_first_branch = refl

in_a_loop_of_a_branch : loop_count nested 7 ≡ 1
in_a_loop_of_a_branch = refl

nowhere : loop_count nested 8 ≡ 0
nowhere = refl

-- IN WHICH ORDER ROWS GO

abbrev order : Address → Address → Ordering
order x y = slice_cmp nat_cmp (key x) (key y)

by_name : order (address 2 (10 ∷ [])) (address 10 []) ≡ Less
by_name = refl

outer_first : order (address 5 []) (address 5 (0 ∷ [])) ≡ Less
outer_first = refl

by_index : order (address 5 (2 ∷ [])) (address 5 (10 ∷ [])) ≡ Less
by_index = refl

by_inner_index : order (address 5 (1 ∷ 9 ∷ [])) (address 5 (2 ∷ 0 ∷ [])) ≡ Less
by_inner_index = refl

itself : order (address 5 (1 ∷ [])) (address 5 (1 ∷ [])) ≡ Equal
itself = refl
