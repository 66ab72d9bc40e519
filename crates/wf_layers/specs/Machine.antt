-- The event machine over a definition: a state, its enabled events, and what each does.
use Rattle.std.specs.Prelude.{◌≡◌, ℕ, zero, suc, ◌<◌, Bool, true, false, ◌&&◌, cond, List, [], ◌∷◌, ◌++◌, Option, Some, None, ◌⊎◌}
use Rattle.wf_layers.specs.Definition.{Need, Pace, InTurn, AtMost, Kind, Leaf, Scope, Choice, Foreach, Until, Branches, no_branch, branch, Graph, done, add, is_one, less_one, branch_at}
use Rattle.wf_layers.specs.Address.{Address, address, Table, is_own, is_within}
use Rattle.wf_layers.specs.Source.{Source, gate}
use Rattle.wf_layers.specs.Meaning.{only, skip, skip_all}

-- A running leaf: what its Start gave, and how many attempts it has made.
pub record Running (Begun : Type 0) : Type 0 where
  pub begun : Begun
  pub tries : ℕ

-- An open container: its decision, the index of its next iteration, and an Until's test of the last one.
pub record Opening (Decision Verdict : Type 0) : Type 0 where
  pub decision : Decision
  pub next : ℕ
  pub test : Option Verdict

pub record State (Row Begun Decision Verdict : Type 0) : Type 0 where
  pub rows : Table Row
  pub running : Table (Running Begun)
  pub opens : Table (Opening Decision Verdict)

-- The state of a run that begins.
abbrev pub fresh : {Row Begun Decision Verdict : Type 0} → State Row Begun Decision Verdict
fresh = record { rows = λ x. None; running = λ x. None; opens = λ x. None }

-- The action stands in the graph.
pub data In : Graph → ℕ → List Need → Kind → Type 0 where
  here : {n : ℕ} {after : List Need} {kind : Kind} {rest : Graph} → In (add n after kind rest) n after kind
  there : {n m : ℕ} {after before : List Need} {kind other : Kind} {rest : Graph} → In rest n after kind
      → In (add m before other rest) n after kind

-- The graph is open at these indexes: it is the whole definition, that of an open Scope, the taken branch of an open Choice, or that of a
-- begun iteration.
pub data IsOpen {Decision Verdict : Type 0} (taken : Decision → ℕ) (d : Graph) (o : Table (Opening Decision Verdict)) : Graph → List ℕ
    → Type 0 where
  top : IsOpen taken d o d []
  scope : {g h : Graph} {i : List ℕ} {n : ℕ} {after : List Need} {w : Opening Decision Verdict} → IsOpen taken d o g i
      → In g n after (Scope h) → o (address n i) ≡ Some w → IsOpen taken d o h i
  chosen : {g b : Graph} {i : List ℕ} {n : ℕ} {after : List Need} {bs : Branches} {w : Opening Decision Verdict} → IsOpen taken d o g i
      → In g n after (Choice bs) → o (address n i) ≡ Some w → branch_at bs (taken w.decision) ≡ Some b → IsOpen taken d o b i
  turn : {g h : Graph} {i : List ℕ} {n : ℕ} {after : List Need} {pace : Pace} {w : Opening Decision Verdict} (j : ℕ) → IsOpen taken d o g i
      → In g n after (Foreach pace h) → o (address n i) ≡ Some w → j < w.next → IsOpen taken d o h (i ++ j ∷ [])
  round : {g h : Graph} {i : List ℕ} {n most : ℕ} {after : List Need} {w : Opening Decision Verdict} (j : ℕ) → IsOpen taken d o g i
      → In g n after (Until most h) → o (address n i) ≡ Some w → j < w.next → IsOpen taken d o h (i ++ j ∷ [])

abbrev pub has_ended : {A : Type 0} → Option A → Bool
has_ended None = false
has_ended (Some r) = true

-- Each of the graph's actions has a row.
abbrev pub is_ended : {A : Type 0} → Graph → List ℕ → Table A → Bool
is_ended done i t = true
is_ended (add n after kind rest) i t = has_ended (t (address n i)) && is_ended rest i t

-- All that an action waits for have rows.
abbrev pub all_ended : {A : Type 0} → List Need → List ℕ → Table A → Bool
all_ended [] i t = true
all_ended (n ∷ ns) i t = has_ended (t (address n.name i)) && all_ended ns i t

-- How many of the first c iterations have an action without a row.
abbrev pub unfinished : {A : Type 0} → Graph → List ℕ → Table A → ℕ → ℕ
unfinished g i t zero = 0
unfinished g i t (suc j) = cond (is_ended g (i ++ j ∷ []) t) (unfinished g i t j) (suc (unfinished g i t j))

abbrev pub or_else : {A : Type 0} → Option A → Option A → Option A
or_else None q = q
or_else (Some r) q = Some r

-- A table with new entries, with one entry, without one, and with one replaced.
abbrev pub place : {A : Type 0} → Table A → Table A → Table A
place new t y = or_else (new y) (t y)

abbrev pub one : {A : Type 0} → ℕ → List ℕ → A → Table A
one n i r y = only (is_own n i y) (Some r)

abbrev pub without : {A : Type 0} → ℕ → List ℕ → Table A → Table A
without n i t y = cond (is_own n i y) None (t y)

abbrev pub opened : {A : Type 0} → ℕ → List ℕ → Option A → Table A → Table A
opened n i w o y = cond (is_own n i y) w (o y)

-- The eight kinds of event, each at an address.
pub data Event : Type 0 where
  Start : (n : ℕ) (i : List ℕ) → Event
  Try : (n : ℕ) (i : List ℕ) → Event
  End : (n : ℕ) (i : List ℕ) → Event
  Skip : (n : ℕ) (i : List ℕ) → Event
  Open : (n : ℕ) (i : List ℕ) → Event
  Begin : (n : ℕ) (i : List ℕ) → Event
  Test : (n : ℕ) (i : List ℕ) → Event
  Close : (n : ℕ) (i : List ℕ) → Event

-- Where it is.
abbrev pub place_of : Event → Address
place_of (Start n i) = address n i
place_of (Try n i) = address n i
place_of (End n i) = address n i
place_of (Skip n i) = address n i
place_of (Open n i) = address n i
place_of (Begin n i) = address n i
place_of (Test n i) = address n i
place_of (Close n i) = address n i

abbrev pub IsContainer : Kind → Type 0
IsContainer Leaf = ⊥
IsContainer (Scope g) = Unit {0}
IsContainer (Choice bs) = Unit {0}
IsContainer (Foreach pace g) = Unit {0}
IsContainer (Until most g) = Unit {0}

-- The address lies in a branch that isn't taken.
abbrev pub in_others : Branches → ℕ → List ℕ → Address → Bool
in_others no_branch c i y = false
in_others (branch b rest) c i y = cond (is_within b i y) (cond (is_one c) false true) (in_others rest (less_one c) i y)

module _ {Row Begun Decision Verdict : Type 0} (m : Source Row Begun Decision Verdict) where
  -- The Skipped rows of the branches that aren't taken.
  abbrev pub skip_others : Branches → ℕ → List ℕ → Table Row
  skip_others no_branch c i y = None
  skip_others (branch b rest) c i y = cond (is_within b i y) (cond (is_one c) None (skip_all m b i y)) (skip_others rest (less_one c) i y)

  abbrev pub passed_over : Kind → ℕ → List ℕ → Table Row
  passed_over (Choice bs) c i y = skip_others bs c i y
  passed_over Leaf c i y = None
  passed_over (Scope g) c i y = None
  passed_over (Foreach pace g) c i y = None
  passed_over (Until most g) c i y = None

  -- Another iteration may begin.
  abbrev pub MayBegin : Kind → List ℕ → Opening Decision Verdict → Table Row → Type 0
  MayBegin Leaf i w t = ⊥
  MayBegin (Scope g) i w t = ⊥
  MayBegin (Choice bs) i w t = ⊥
  MayBegin (Foreach InTurn g) i w t = (w.next < m.items w.decision) × ((j : ℕ) → j < w.next → is_ended g (i ++ j ∷ []) t ≡ true)
  MayBegin (Foreach (AtMost most) g) i w t = (w.next < m.items w.decision) × (unfinished g i t w.next < most)
  MayBegin (Until most g) i w t = (w.next < most) × ((w.next ≡ 0) ⊎ ((v : Verdict) × (w.test ≡ Some v) × (m.ends v ≡ false)))

  -- The last begun iteration may be tested: it is that of index j.
  abbrev pub MayTest : Kind → List ℕ → Opening Decision Verdict → Table Row → ℕ → Type 0
  MayTest Leaf i w t j = ⊥
  MayTest (Scope g) i w t j = ⊥
  MayTest (Choice bs) i w t j = ⊥
  MayTest (Foreach pace g) i w t j = ⊥
  MayTest (Until most g) i w t j = (w.next ≡ suc j) × (w.test ≡ None) × (is_ended g (i ++ j ∷ []) t ≡ true)

  -- The container may close.
  abbrev pub MayClose : Kind → List ℕ → Opening Decision Verdict → Table Row → Type 0
  MayClose Leaf i w t = ⊥
  MayClose (Scope g) i w t = is_ended g i t ≡ true
  MayClose (Choice bs) i w t = (b : Graph) → branch_at bs (m.taken w.decision) ≡ Some b → is_ended b i t ≡ true
  MayClose (Foreach pace g) i w t = (w.next ≡ m.items w.decision) × ((j : ℕ) → j < w.next → is_ended g (i ++ j ∷ []) t ≡ true)
  MayClose (Until most g) i w t = (v : Verdict) × (w.test ≡ Some v) × ((m.ends v ≡ true) ⊎ (w.next ≡ most))

  -- The row with which it does.
  abbrev pub closing : Kind → Address → Opening Decision Verdict → Table Row → Row
  closing (Until most g) x w t = m.close x w.decision w.next w.test t
  closing Leaf x w t = m.close x w.decision 0 None t
  closing (Scope g) x w t = m.close x w.decision 0 None t
  closing (Choice bs) x w t = m.close x w.decision 0 None t
  closing (Foreach pace g) x w t = m.close x w.decision 0 None t

module _ {Row Begun Decision Verdict : Type 0} (d : Graph) (m : Source Row Begun Decision Verdict) where
  -- The action stands in an open graph.
  pub record IsThere (s : State Row Begun Decision Verdict) (n : ℕ) (i : List ℕ) (after : List Need) (kind : Kind) : Type 0 where
    pub graph : Graph
    pub is_open : IsOpen m.taken d s.opens graph i
    pub is_in : In graph n after kind

  -- It is decided now whether it runs: it has no row, is neither running nor open, and all that it waits for have ended.
  pub record IsDecided (s : State Row Begun Decision Verdict) (n : ℕ) (i : List ℕ) (after : List Need) (kind : Kind) : Type 0 where
    pub is_there : IsThere s n i after kind
    pub no_row : s.rows (address n i) ≡ None
    pub not_running : s.running (address n i) ≡ None
    pub not_open : s.opens (address n i) ≡ None
    pub ended : all_ended after i s.rows ≡ true

  -- THE MACHINE: in the state s the event is enabled, and leads to s'.
  abbrev pub Step : State Row Begun Decision Verdict → Event → State Row Begun Decision Verdict → Type 0
  Step s (Start n i) s' =
      (after : List Need) × IsDecided s n i after Leaf × (gate m after n i s.rows ≡ true)
      × (s' ≡ record {
        rows = s.rows;
        running = place (one n i (record { begun = m.start (address n i) s.rows; tries = 0 })) s.running;
        opens = s.opens;
      })
  Step s (Try n i) s' =
      (w : Running Begun) × (s.running (address n i) ≡ Some w) × (w.tries < m.tries (address n i) w.begun)
      × (s' ≡ record {
        rows = s.rows;
        running = place (one n i (record { begun = w.begun; tries = suc w.tries })) s.running;
        opens =
            s.opens;
      })
  Step s (End n i) s' =
      (w : Running Begun) × (s.running (address n i) ≡ Some w) × (w.tries ≡ m.tries (address n i) w.begun)
      × (s' ≡ record {
        rows = place (one n i (m.finish (address n i) w.begun s.rows)) s.rows;
        running = without n i s.running;
        opens =
            s.opens;
      })
  Step s (Skip n i) s' =
      (after : List Need) × (kind : Kind) × IsDecided s n i after kind × (gate m after n i s.rows ≡ false)
      × (s' ≡ record { rows = place (skip m n kind i) s.rows; running = s.running; opens = s.opens })
  Step s (Open n i) s' =
      (after : List Need) × (kind : Kind) × IsContainer kind × IsDecided s n i after kind × (gate m after n i s.rows ≡ true)
      × (s' ≡ record {
        rows = place (passed_over m kind (m.taken (m.decide (address n i) s.rows)) i) s.rows;
        running = s.running;
        opens = opened n i (Some (record { decision = m.decide (address n i) s.rows; next = 0; test = None })) s.opens;
      })
  Step s (Begin n i) s' =
      (after : List Need) × (kind : Kind) × (w : Opening Decision Verdict) × IsThere s n i after kind × (s.opens (address n i) ≡ Some w)
      × MayBegin m kind i w s.rows
      × (s' ≡ record {
        rows = s.rows;
        running = s.running;
        opens =
            opened n i (Some (record { decision = w.decision; next = suc w.next; test = None })) s.opens;
      })
  Step s (Test n i) s' =
      (after : List Need) × (kind : Kind) × (w : Opening Decision Verdict) × (j : ℕ) × IsThere s n i after kind
      × (s.opens (address n i) ≡ Some w) × MayTest m kind i w s.rows j
      × (s' ≡ record {
        rows = s.rows;
        running = s.running;
        opens =
            opened n i (Some (record { decision = w.decision; next = w.next; test = Some (m.test (address n i) j s.rows) })) s.opens;
      })
  Step s (Close n i) s' =
      (after : List Need) × (kind : Kind) × (w : Opening Decision Verdict) × IsThere s n i after kind × (s.opens (address n i) ≡ Some w)
      × MayClose m kind i w s.rows
      × (s' ≡ record {
        rows = place (one n i (closing m kind (address n i) w s.rows)) s.rows;
        running = s.running;
        opens =
            opened n i None s.opens;
      })

  -- The list of events, each enabled in its turn, leads from s to s'.
  abbrev pub Run : State Row Begun Decision Verdict → List Event → State Row Begun Decision Verdict → Type 0
  Run s [] s' = s' ≡ s
  Run s (e ∷ es) s' = (mid : State Row Begun Decision Verdict) × Step s e mid × Run mid es s'

  -- No event is enabled.
  abbrev pub IsOver : State Row Begun Decision Verdict → Type 0
  IsOver s = (e : Event) (s' : State Row Begun Decision Verdict) → Step s e s' → ⊥
