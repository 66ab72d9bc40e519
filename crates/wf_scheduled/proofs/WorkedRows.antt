-- Worked rows of what events tell by themselves, each by computing.
use Rattle.std.proofs.Common.{◌≡◌, List, [], ◌∷◌, refl}
use Rattle.wf_layers.specs.Machine.{Event, Start, Try, End, Skip, Open, Begin, Test, Close}
use Rattle.wf_scheduled.specs.Counts.{begins_in, number_of, peak, running_from, tries_in}

-- a Foreach, 1, with a leaf, 0, in it: its first two iterations go side by side, and then the third
abbrev side_by_side : List Event
side_by_side =
    Open 1 [] ∷ Begin 1 [] ∷ Begin 1 [] ∷ Start 0 (0 ∷ []) ∷ Start 0 (1 ∷ []) ∷ End 0 (0 ∷ []) ∷ End 0 (1 ∷ []) ∷ Begin 1 []
    ∷ Start 0 (2 ∷ []) ∷ End 0 (2 ∷ []) ∷ Close 1 [] ∷ []

-- the same, one iteration after the other
abbrev in_turn : List Event
in_turn =
    Open 1 [] ∷ Begin 1 [] ∷ Start 0 (0 ∷ []) ∷ End 0 (0 ∷ []) ∷ Begin 1 [] ∷ Start 0 (1 ∷ []) ∷ End 0 (1 ∷ []) ∷ Begin 1 []
    ∷ Start 0 (2 ∷ []) ∷ End 0 (2 ∷ []) ∷ Close 1 [] ∷ []

-- two connectors, of which one makes two attempts, in each iteration of an Until, 2, that is tested twice; what is skipped and what is open
-- doesn't run
abbrev attempts : List Event
attempts =
    Skip 3 [] ∷ Open 2 [] ∷ Begin 2 [] ∷ Start 0 (0 ∷ []) ∷ Start 1 (0 ∷ []) ∷ Try 0 (0 ∷ []) ∷ Try 1 (0 ∷ []) ∷ Try 0 (0 ∷ [])
    ∷ End 0 (0 ∷ []) ∷ End 1 (0 ∷ []) ∷ Test 2 [] ∷ Begin 2 [] ∷ Start 0 (1 ∷ []) ∷ []

-- ---- the peak

no_event : peak [] ≡ 0
no_event = refl

passed_over : peak (Skip 0 [] ∷ Open 1 [] ∷ Close 1 [] ∷ []) ≡ 0
passed_over = refl

one_leaf : peak (Start 0 [] ∷ End 0 [] ∷ Start 1 [] ∷ End 1 [] ∷ []) ≡ 1
one_leaf = refl

two_leaves : peak (Start 0 [] ∷ Start 1 [] ∷ End 0 [] ∷ End 1 [] ∷ []) ≡ 2
two_leaves = refl

two_iterations : peak side_by_side ≡ 2
two_iterations = refl

one_iteration : peak in_turn ≡ 1
one_iteration = refl

both_connectors : peak attempts ≡ 2
both_connectors = refl

still_running : running_from 0 attempts ≡ 1
still_running = refl

none_at_the_end : running_from 0 side_by_side ≡ 0
none_at_the_end = refl

-- ---- numbers

second_begin : number_of (Open 1 [] ∷ Begin 1 [] ∷ []) (Begin 1 []) ≡ 1
second_begin = refl

first_begin : number_of (Open 1 [] ∷ Begin 2 [] ∷ Begin 1 (0 ∷ []) ∷ []) (Begin 1 []) ≡ 0
first_begin = refl

begun_all : begins_in side_by_side 1 [] ≡ 3
begun_all = refl

first_try : number_of (Start 0 [] ∷ Try 1 [] ∷ []) (Try 0 []) ≡ 1
first_try = refl

third_try : number_of attempts (Try 0 (0 ∷ [])) ≡ 3
third_try = refl

-- an attempt in another iteration is another's
other_try : number_of attempts (Try 0 (1 ∷ [])) ≡ 1
other_try = refl

tried_once : tries_in attempts 1 (0 ∷ []) ≡ 1
tried_once = refl

first_test : number_of (Open 2 [] ∷ Begin 2 [] ∷ []) (Test 2 []) ≡ 0
first_test = refl

second_test : number_of attempts (Test 2 []) ≡ 1
second_test = refl

no_number : number_of attempts (End 0 (1 ∷ [])) ≡ 0
no_number = refl
