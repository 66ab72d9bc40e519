-- Which event is enabled at an address, if any.
use Rattle.std.specs.Prelude.{ℕ, zero, suc, Bool, true, ◌||◌, cond, List, [], ◌∷◌, ◌++◌, Option, Some, None, nat_eq, nat_lt}
use Rattle.wf_layers.specs.Definition.{Need, Pace, InTurn, AtMost, Kind, Leaf, Scope, Choice, Foreach, Until, Branches, no_branch, branch, Graph, done, add, is_one, less_one, branch_at}
use Rattle.wf_layers.specs.Address.{address, Table, is_own, is_in, is_within}
use Rattle.wf_layers.specs.Source.{Source, gate}
use Rattle.wf_layers.specs.Meaning.{only, sides}
use Rattle.wf_layers.specs.Machine.{Running, Opening, State, Event, Start, Try, End, Skip, Open, Begin, Test, Close, has_ended, is_ended, all_ended, unfinished}

-- How many iterations may be unfinished side by side.
abbrev pub most_of : Pace → ℕ
most_of InTurn = 1
most_of (AtMost most) = most

module _ {Row Begun Decision Verdict : Type 0} (m : Source Row Begun Decision Verdict) (s : State Row Begun Decision Verdict) where
  -- a running leaf has an attempt to make, or is through
  abbrev pub of_running : ℕ → List ℕ → Running Begun → Event
  of_running n i w = cond (nat_lt w.tries (m.tries (address n i) w.begun)) (Try n i) (End n i)

  abbrev pub branch_ended : Option Graph → List ℕ → Bool
  branch_ended None i = true
  branch_ended (Some b) i = is_ended b i s.rows

  -- an Until: its last begun iteration, if any, isn't tested yet
  abbrev pub of_begun : Graph → ℕ → ℕ → List ℕ → ℕ → Option Event
  of_begun g most n i zero = cond (nat_lt 0 most) (Some (Begin n i)) None
  of_begun g most n i (suc j) = cond (is_ended g (i ++ j ∷ []) s.rows) (Some (Test n i)) None

  -- or was tested
  abbrev pub of_tested : ℕ → ℕ → List ℕ → ℕ → Verdict → Option Event
  of_tested most n i next v = cond (m.ends v || nat_eq next most) (Some (Close n i)) (cond (nat_lt next most) (Some (Begin n i)) None)

  abbrev pub of_test : Graph → ℕ → ℕ → List ℕ → ℕ → Option Verdict → Option Event
  of_test g most n i next None = of_begun g most n i next
  of_test g most n i next (Some v) = of_tested most n i next v

  -- an open container
  abbrev pub of_open : Kind → ℕ → List ℕ → Opening Decision Verdict → Option Event
  of_open Leaf n i w = None
  of_open (Scope g) n i w = cond (is_ended g i s.rows) (Some (Close n i)) None
  of_open (Choice bs) n i w = cond (branch_ended (branch_at bs (m.taken w.decision)) i) (Some (Close n i)) None
  of_open (Foreach pace g) n i w =
      cond (nat_lt w.next (m.items w.decision))
      (cond (nat_lt (unfinished g i s.rows w.next) (most_of pace)) (Some (Begin n i)) None)
      (cond (nat_eq (unfinished g i s.rows w.next) 0) (Some (Close n i)) None)
  of_open (Until most g) n i w = of_test g most n i w.next w.test

  abbrev pub begins : Kind → ℕ → List ℕ → Event
  begins Leaf n i = Start n i
  begins (Scope g) n i = Open n i
  begins (Choice bs) n i = Open n i
  begins (Foreach pace g) n i = Open n i
  begins (Until most g) n i = Open n i

  -- what is neither finished nor running nor open is decided once all that it waits for has ended
  abbrev pub of_idle : List Need → Kind → ℕ → List ℕ → Option Event
  of_idle after kind n i = cond (all_ended after i s.rows) (Some (cond (gate m after n i s.rows) (begins kind n i) (Skip n i))) None

  abbrev pub of_opening : List Need → Kind → ℕ → List ℕ → Option (Opening Decision Verdict) → Option Event
  of_opening after kind n i None = of_idle after kind n i
  of_opening after kind n i (Some w) = of_open kind n i w

  abbrev pub of_busy : List Need → Kind → ℕ → List ℕ → Option (Running Begun) → Option Event
  of_busy after kind n i None = of_opening after kind n i (s.opens (address n i))
  of_busy after kind n i (Some w) = Some (of_running n i w)

  -- the event of an action of an open graph
  abbrev pub own_event : List Need → Kind → ℕ → List ℕ → Option Event
  own_event after kind n i = cond (has_ended (s.rows (address n i))) None (of_busy after kind n i (s.running (address n i)))

  abbrev mutual
    -- the events inside an action, whose opening this is
    pub event_in : Kind → List ℕ → Option (Opening Decision Verdict) → Table Event
    event_in Leaf i o x = None
    event_in kind i None x = None
    event_in (Scope g) i (Some w) x = only (is_within g i x) (events g i x)
    event_in (Choice bs) i (Some w) x = event_any bs (m.taken w.decision) i x
    event_in (Foreach pace g) i (Some w) x = sides w.next i (λ j t. events g (i ++ j ∷ [])) (λ y. None) x
    event_in (Until most g) i (Some w) x = sides w.next i (λ j t. events g (i ++ j ∷ [])) (λ y. None) x

    pub event_any : Branches → ℕ → List ℕ → Table Event
    event_any no_branch c i x = None
    event_any (branch b rest) c i x = cond (is_within b i x) (only (is_one c) (events b i x)) (event_any rest (less_one c) i x)

    -- THE ENABLED EVENTS of an open graph, by address
    pub events : Graph → List ℕ → Table Event
    events done i x = None
    events (add n after kind rest) i x =
        cond (is_in n kind i x) (cond (is_own n i x) (own_event after kind n i) (event_in kind i (s.opens (address n i)) x))
        (events rest i x)
