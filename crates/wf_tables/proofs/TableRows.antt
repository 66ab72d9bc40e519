-- Worked rows of the tables that the lists of a state are.
use Rattle.std.proofs.Common.{◌≡◌, ℕ, Bool, true, false, List, [], ◌∷◌, Some, None, refl}
use Rattle.wf_plan.specs.Address.{address}
use Rattle.wf_plan.specs.Machine as machine
use Rattle.wf_plan.specs.Instance.{Instance}
use Rattle.wf_plan.specs.Known.{is_among}
use Rattle.wf_plan.specs.OpenAt.{OpenAt}
use Rattle.wf_plan.specs.RowAt.{RowAt}
use Rattle.wf_plan.specs.Once.{AreDistinct}
use Rattle.wf_plan.specs.Plan as plan
use Rattle.wf_plan.specs.Plan.{PlanTree}
use Rattle.wf_tables.specs.Blocks.{block_at, put_rows, skipped_at}
use Rattle.wf_tables.specs.Counts.{entered_counts, or_zero, set_all}
use Rattle.wf_tables.specs.Tables.{count_in, event_tree, events_in, left_in, state_of}
use Rattle.wf_tables.specs.declared.entries.CountAt.{CountAt}
use Rattle.wf_tables.specs.declared.entries.EventAt.{EventAt}
use Rattle.wf_tables.specs.declared.entries.EventKind.TheVariants.{Start, Close, Begin}
use Rattle.wf_tables.specs.declared.entries.LeafAt.{LeafAt}

abbrev at : ℕ → List ℕ → Instance
at n i = record { action = n; at = i }

-- 0 has ended; 1 is open with two begun iterations, in the first of which 2 runs and made an attempt; 3 waits for both
abbrev rows : List (RowAt ℕ)
rows = record { instance = at 0 []; row = 7 } ∷ []

abbrev running : List (LeafAt ℕ)
running = record { instance = at 2 (0 ∷ []); begun = 5; tries = 1 } ∷ []

abbrev opens : List (OpenAt ℕ Bool)
opens = record { instance = at 1 []; decision = 3; next = 2; test = Some true; unfinished = 1 } ∷ []

abbrev waits : List CountAt
waits = record { instance = at 3 []; count = 1 } ∷ []

abbrev ready : List EventAt
ready = record { instance = at 1 []; kind = Begin } ∷ record { instance = at 4 []; kind = Start } ∷ []

abbrev s : machine.State ℕ ℕ ℕ Bool
s = state_of (λ r. r) (λ b. b) (λ d. d) (λ v. v) rows running opens

ended : s.rows (address 0 []) ≡ Some 7
ended = refl

not_ended : s.rows (address 1 []) ≡ None
not_ended = refl

runs : s.running (address 2 (0 ∷ [])) ≡ Some (record { begun = 5; tries = 1 })
runs = refl

runs_in_no_other : s.running (address 2 (1 ∷ [])) ≡ None
runs_in_no_other = refl

is_open : s.opens (address 1 []) ≡ Some (record { decision = 3; next = 2; test = Some true })
is_open = refl

not_open : s.opens (address 2 (0 ∷ [])) ≡ None
not_open = refl

one_unfinished : left_in opens (address 1 []) ≡ 1
one_unfinished = refl

none_unfinished : left_in opens (address 5 []) ≡ 0
none_unfinished = refl

waits_for_one : count_in waits (address 3 []) ≡ Some 1
waits_for_one = refl

-- a count of 0 isn't kept
waits_for_none : or_zero (count_in waits (address 4 [])) ≡ 0
waits_for_none = refl

begins : events_in ready (address 1 []) ≡ Some (machine.Begin 1 [])
begins = refl

starts : events_in ready (address 4 []) ≡ Some (machine.Start 4 [])
starts = refl

no_event : events_in ready (address 2 (0 ∷ [])) ≡ None
no_event = refl

closes : event_tree (record { instance = at 6 (2 ∷ 1 ∷ []); kind = Close }) ≡ machine.Close 6 (2 ∷ 1 ∷ [])
closes = refl

last_is_among : is_among 5 (2 ∷ 5 ∷ []) ≡ true
last_is_among = refl

none_is_among : is_among 4 (2 ∷ 5 ∷ []) ≡ false
none_is_among = refl

each_once : AreDistinct (2 ∷ 5 ∷ [])
each_once = (refl, (refl, tt))

-- ---- a graph that is entered: 2 waits for nothing, and 5 for 2 and 3

abbrev entered_plan : PlanTree
entered_plan = record {
  top = [];
  entries = None ∷ None ∷ Some (record { after = []; shape = plan.leaf; block = 2 ∷ [] }) ∷ None ∷ None
      ∷ Some (record {
        after = record { name = 2; listed = [] } ∷ record { name = 3; listed = [] } ∷ [];
        shape = plan.leaf;
        block = 5 ∷ [];
      }) ∷ [];
  followers = [];
  holders = [];
}

entered : entered_counts entered_plan (0 ∷ []) (2 ∷ 5 ∷ [])
    ≡ record { instance = at 2 (0 ∷ []); count = 0 } ∷ record { instance = at 5 (0 ∷ []); count = 2 } ∷ []
entered = refl

-- 0 isn't kept, also where there was a count
one_waits : set_all (entered_counts entered_plan (0 ∷ []) (2 ∷ 5 ∷ [])) (λ x. Some 9) (address 5 (0 ∷ [])) ≡ Some 2
one_waits = refl

other_waits_for_none : set_all (entered_counts entered_plan (0 ∷ []) (2 ∷ 5 ∷ [])) (λ x. Some 9) (address 2 (0 ∷ [])) ≡ None
other_waits_for_none = refl

elsewhere_as_before : set_all (entered_counts entered_plan (0 ∷ []) (2 ∷ 5 ∷ [])) (λ x. Some 9) (address 5 (1 ∷ [])) ≡ Some 9
elsewhere_as_before = refl

-- the last of several counts stays
last_stays : set_all (record { instance = at 2 []; count = 1 } ∷ record { instance = at 2 []; count = 3 } ∷ []) (λ x. None) (address 2 [])
    ≡ Some 3
last_stays = refl

-- ---- rows that are put together

block : skipped_at {Row = ℕ} 8 (1 ∷ []) (2 ∷ 5 ∷ []) ≡ (at 2 (1 ∷ []), 8) ∷ (at 5 (1 ∷ []), 8) ∷ []
block = refl

in_the_block : block_at {Row = ℕ} 8 (1 ∷ []) (2 ∷ 5 ∷ []) (address 5 (1 ∷ [])) ≡ Some 8
in_the_block = refl

at_other_indexes : block_at {Row = ℕ} 8 (1 ∷ []) (2 ∷ 5 ∷ []) (address 5 (0 ∷ [])) ≡ None
at_other_indexes = refl

of_another_action : block_at {Row = ℕ} 8 (1 ∷ []) (2 ∷ 5 ∷ []) (address 3 (1 ∷ [])) ≡ None
of_another_action = refl

in_order : put_rows {Row = ℕ} (record { instance = at 5 []; row = 8 } ∷ record { instance = at 2 []; row = 9 } ∷ [])
    (record { instance = at 3 []; row = 7 } ∷ [])
    ≡ record { instance = at 2 []; row = 9 } ∷ record { instance = at 3 []; row = 7 } ∷ record { instance = at 5 []; row = 8 } ∷ []
in_order = refl
