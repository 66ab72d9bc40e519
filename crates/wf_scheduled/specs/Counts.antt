-- WHAT THE EVENTS OF A RUN TELL BY THEMSELVES, without its states: which attempt a Try makes, which iteration a Begin begins and a Test
-- tests, and how many leaves run behind each of them.
use Rattle.std.specs.Prelude.{◌≡◌, ℕ, suc, ◌-◌, Bool, true, false, cond, List, [], ◌∷◌, None, Some, max}
use Rattle.wf_lists.specs.KeyOrder.{IsInKeyOrder}
use Rattle.wf_layers.specs.Address.{Address, address, is_own}
use Rattle.wf_layers.specs.Listed.{Among}
use Rattle.wf_layers.specs.Machine.{Running, Opening, State, Event, Start, Try, End, Skip, Open, Begin, Test, Close, has_ended}
use Rattle.wf_scheduled.specs.Turns.{address_cmp}

-- ---- attempts and iterations

abbrev pub is_try : ℕ → List ℕ → Event → Bool
is_try n i (Try q j) = is_own q j (address n i)
is_try n i (Start q j) = false
is_try n i (End q j) = false
is_try n i (Skip q j) = false
is_try n i (Open q j) = false
is_try n i (Begin q j) = false
is_try n i (Test q j) = false
is_try n i (Close q j) = false

abbrev pub is_begin : ℕ → List ℕ → Event → Bool
is_begin n i (Begin q j) = is_own q j (address n i)
is_begin n i (Start q j) = false
is_begin n i (Try q j) = false
is_begin n i (End q j) = false
is_begin n i (Skip q j) = false
is_begin n i (Open q j) = false
is_begin n i (Test q j) = false
is_begin n i (Close q j) = false

-- how many of the events are such
abbrev pub how_many : (Event → Bool) → List Event → ℕ
how_many such [] = 0
how_many such (e ∷ es) = cond (such e) (suc (how_many such es)) (how_many such es)

-- how many attempts a leaf has made, and how many iterations of a loop have begun
abbrev pub tries_in : List Event → ℕ → List ℕ → ℕ
tries_in es n i = how_many (is_try n i) es

abbrev pub begins_in : List Event → ℕ → List ℕ → ℕ
begins_in es n i = how_many (is_begin n i) es

-- THE NUMBER of an event behind others: of a Try that of its attempt, from 1; of a Begin the index of its iteration, from 0; of a Test that
-- of the last iteration that has begun. Other events have none: 0.
abbrev pub number_of : List Event → Event → ℕ
number_of before (Try n i) = suc (tries_in before n i)
number_of before (Begin n i) = begins_in before n i
number_of before (Test n i) = begins_in before n i - 1
number_of before (Start n i) = 0
number_of before (End n i) = 0
number_of before (Skip n i) = 0
number_of before (Open n i) = 0
number_of before (Close n i) = 0

-- The first state of a run, also of one that goes on from an old record: nothing is running, and no iteration has begun.
pub record HasNotBegun {Row Begun Decision Verdict : Type 0} (s : State Row Begun Decision Verdict) : Type 0 where
  pub running : (x : Address) → s.running x ≡ None
  pub opens : (x : Address) (w : Opening Decision Verdict) → s.opens x ≡ Some w → w.next ≡ 0

-- What a state has of attempts and iterations, where these events led to it.
pub record AreNumbered {Row Begun Decision Verdict : Type 0} (es : List Event) (s : State Row Begun Decision Verdict) : Type 0 where
  pub tries : (n : ℕ) (i : List ℕ) (w : Running Begun) → s.running (address n i) ≡ Some w → w.tries ≡ tries_in es n i
  pub begun : (n : ℕ) (i : List ℕ) (w : Opening Decision Verdict) → s.opens (address n i) ≡ Some w → w.next ≡ begins_in es n i

-- ---- how many leaves are running

-- A Start makes one more, and an End one less.
abbrev pub running_behind : ℕ → Event → ℕ
running_behind k (Start n i) = suc k
running_behind k (End n i) = k - 1
running_behind k (Try n i) = k
running_behind k (Skip n i) = k
running_behind k (Open n i) = k
running_behind k (Begin n i) = k
running_behind k (Test n i) = k
running_behind k (Close n i) = k

-- behind all events, where k are running before the first
abbrev pub running_from : ℕ → List Event → ℕ
running_from k [] = k
running_from k (e ∷ es) = running_from (running_behind k e) es

abbrev pub most_from : ℕ → List Event → ℕ
most_from k [] = 0
most_from k (e ∷ es) = max (running_behind k e) (most_from (running_behind k e) es)

-- THE PEAK: the greatest number of leaves that are running behind an event, 0 where there is none.
abbrev pub peak : List Event → ℕ
peak es = most_from 0 es

-- The list has the addresses of the running leaves, each once.
pub record AreRunning {Row Begun Decision Verdict : Type 0} (s : State Row Begun Decision Verdict) (places : List Address) : Type 0 where
  pub in_order : IsInKeyOrder address_cmp (λ x. x) places
  pub each : (x : Address) → Among places x → has_ended (s.running x) ≡ true
  pub all : (x : Address) → has_ended (s.running x) ≡ true → Among places x
