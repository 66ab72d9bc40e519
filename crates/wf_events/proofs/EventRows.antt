-- Worked rows of what may happen next, of last writers, and of what is looked at anew.
use Rattle.std.proofs.Common.{◌≡◌, ℕ, true, false, [], ◌∷◌, Option, Some, None, refl}
use Rattle.wf_layers.specs.Address.{Address, address}
use Rattle.wf_layers.specs.Machine as machine
use Rattle.wf_tables.specs.Plan.{BranchTree, leaf, until}
use Rattle.wf_events.specs.Events.{begin_kind, close_kind, count_of, count_or_zero, foreach_kind, is_branch}
use Rattle.wf_events.specs.Looked.{instances_at, look_each}
use Rattle.wf_events.specs.Written.{put_each, writers_of}
use Rattle.wf_tables.specs.declared.entries.EventKind.TheVariants.{Start, Open, Begin, Close}

-- a branch with one action
abbrev one_branch : BranchTree
one_branch = record { own = 1 ∷ []; all = 1 ∷ [] }

branch_zero : is_branch (one_branch ∷ []) 0 ≡ false
branch_zero = refl

branch_one : is_branch (one_branch ∷ []) 1 ≡ true
branch_one = refl

branch_past : is_branch (one_branch ∷ []) 2 ≡ false
branch_past = refl

a_leaf_starts : begin_kind leaf ≡ Start
a_leaf_starts = refl

a_loop_opens : begin_kind (until 3 []) ≡ Open
a_loop_opens = refl

closes : close_kind None ≡ Some Close
closes = refl

doesnt_close : close_kind (Some 1) ≡ None
doesnt_close = refl

begins_another : foreach_kind 2 1 4 5 ≡ Some Begin
begins_another = refl

enough_side_by_side : foreach_kind 2 2 4 5 ≡ None
enough_side_by_side = refl

all_begun : foreach_kind 2 1 5 5 ≡ None
all_begun = refl

all_finished : foreach_kind 2 0 5 5 ≡ Some Close
all_finished = refl

of_no_items : foreach_kind 1 0 0 0 ≡ Some Close
of_no_items = refl

at_these : instances_at (0 ∷ []) (4 ∷ 5 ∷ []) ≡ record { action = 4; at = 0 ∷ [] } ∷ record { action = 5; at = 0 ∷ [] } ∷ []
at_these = refl

abbrev none_written : ℕ → Option Address
none_written v = None

last_writer : put_each (writers_of (record { action = 4; at = [] }) (7 ∷ [])) none_written 7 ≡ Some (address 4 [])
last_writer = refl

other_variable : put_each (writers_of (record { action = 4; at = [] }) (7 ∷ [])) none_written 6 ≡ None
other_variable = refl

-- the limit of an Until, by its shape
limit_of_an_until : count_of (until 3 (1 ∷ [])) ≡ 3
limit_of_an_until = refl

limit_of_a_leaf : count_of leaf ≡ 0
limit_of_a_leaf = refl

limit_of_none : count_or_zero None ≡ 0
limit_of_none = refl

-- what is looked at takes what the look gives, and no other changes
abbrev skips : Address → Option machine.Event
skips x = Some (machine.Skip x.name x.at)

looked_at : look_each skips (instances_at (2 ∷ []) (4 ∷ 5 ∷ [])) (λ x. None) (address 4 (2 ∷ [])) ≡ Some (machine.Skip 4 (2 ∷ []))
looked_at = refl

not_looked_at : look_each skips (instances_at (2 ∷ []) (4 ∷ 5 ∷ [])) (λ x. None) (address 4 (1 ∷ [])) ≡ None
not_looked_at = refl
