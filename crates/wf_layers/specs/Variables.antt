-- Variables: which accesses exclude one another, and which of them are finished as a point reads.
use Rattle.std.specs.Prelude.{suc, ◌<◌, ◌≡◌, ℕ, ◌++◌, ◌∷◌, [], List, true, false, Option, Some, None, ◌⊎◌}
use Rattle.wf_layers.specs.Definition.{Skipped, Need, Kind, Leaf, Scope, Choice, Foreach, Until, Branches, no_branch, branch, Graph, done, add, kind_of}
use Rattle.wf_layers.specs.Address.{Address, address, Table, is_in, is_within, is_among, SeenIn}
use Rattle.wf_layers.specs.Source.{Source}
use Rattle.wf_layers.specs.Machine.{Running, Opening, IsThere, MayTest, State, IsDecided, Event, Start, Try, End, Skip, Open, Begin, Test, Close, Step, or_else}

-- The instances x and y stand in different branches of one If or Switch, in one iteration of each loop round both.
abbrev mutual
  pub exclusive_in : Kind → List ℕ → Address → Address → Type 0
  exclusive_in Leaf i x y = ⊥
  exclusive_in (Scope g) i x y = (is_within g i x ≡ true) × (is_within g i y ≡ true) × exclusive g i x y
  exclusive_in (Choice bs) i x y = exclusive_any bs i x y
  exclusive_in (Foreach pace g) i x y =
      (j : ℕ) × (is_within g (i ++ j ∷ []) x ≡ true) × (is_within g (i ++ j ∷ []) y ≡ true) × exclusive g (i ++ j ∷ []) x y
  exclusive_in (Until most g) i x y =
      (j : ℕ) × (is_within g (i ++ j ∷ []) x ≡ true) × (is_within g (i ++ j ∷ []) y ≡ true) × exclusive g (i ++ j ∷ []) x y

  pub exclusive_any : Branches → List ℕ → Address → Address → Type 0
  exclusive_any no_branch i x y = ⊥
  exclusive_any (branch b rest) i x y =
      (((is_within b i x ≡ true) × (is_among rest i y ≡ true)) ⊎ ((is_among rest i x ≡ true) × (is_within b i y ≡ true)))
      ⊎ (((is_within b i x ≡ true) × (is_within b i y ≡ true) × exclusive b i x y) ⊎ exclusive_any rest i x y)

  pub exclusive : Graph → List ℕ → Address → Address → Type 0
  exclusive done i x y = ⊥
  exclusive (add n after kind rest) i x y =
      ((is_in n kind i x ≡ true) × (is_in n kind i y ≡ true) × exclusive_in kind i x y)
      ⊎ ((is_in n kind i x ≡ false) × exclusive rest i x y)

-- Two accesses are in one order, or exclude one another.
abbrev pub IsOrdered : Graph → Address → Address → Type 0
IsOrdered d x y = (SeenIn d x y ⊎ SeenIn d y x) ⊎ ((is_within d [] y ≡ true) × exclusive d [] x y)

-- A row of what didn't run: the row of what is skipped, or a kept one that says so.
abbrev pub IsIdle : {Row Begun Decision Verdict : Type 0} → Source Row Begun Decision Verdict → Row → Type 0
IsIdle m r = (r ≡ m.skipped) ⊎ (m.status r ≡ Skipped)

-- An access y is in the action n at the indexes i, is ordered with it, or excludes it.
abbrev pub HasOrder : Graph → ℕ → Kind → List ℕ → Address → Type 0
HasOrder d n kind i y = (is_in n kind i y ≡ true) ⊎ IsOrdered d (address n i) y

-- As an action is decided, a finished access that ran, and that is in it, ordered with it or exclusive, is one that it sees. So a store
-- that each finished writer overwrites has seen no other writers than the action sees, and none inside it.
abbrev pub SeesFinished : {Row Begun Decision Verdict : Type 0} → Graph → Source Row Begun Decision Verdict
    → State Row Begun Decision Verdict → Type 0
SeesFinished {Row} d m s =
    (n : ℕ) (i : List ℕ) (after : List Need) (kind : Kind) → IsDecided d m s n i after kind
    → (y : Address) (r : Row) → s.rows y ≡ Some r → (IsIdle m r → ⊥) → HasOrder d n kind i y → SeenIn d (address n i) y

-- And all that it sees are there as the meaning has them.
abbrev pub SeenAreThere : {Row Begun Decision Verdict : Type 0} → Graph → Source Row Begun Decision Verdict → Table Row
    → State Row Begun Decision Verdict → Type 0
SeenAreThere d m f s =
    (n : ℕ) (i : List ℕ) (after : List Need) (kind : Kind) → IsDecided d m s n i after kind → (y : Address) → SeenIn d (address n i) y
    → s.rows y ≡ f y

-- What an Until's test after the iteration j sees: what the Until sees, and its iterations up to j.
abbrev pub SeenByTest : Graph → ℕ → List ℕ → Graph → ℕ → Address → Type 0
SeenByTest d n i g j y = SeenIn d (address n i) y ⊎ ((q : ℕ) × (q < suc j) × (is_within g (i ++ q ∷ []) y ≡ true))

-- As an Until is tested after the iteration j: of the finished accesses that are in it, ordered with it or exclusive, those are there that
-- the test sees, as f has them.
abbrev pub TestSees : {Row Begun Decision Verdict : Type 0} → Graph → Source Row Begun Decision Verdict → Table Row
    → State Row Begun Decision Verdict → Type 0
TestSees {Row} {Begun} {Decision} {Verdict} d m f s =
    (n : ℕ) (i : List ℕ) (after : List Need) (most : ℕ) (g : Graph) (w : Opening Decision Verdict) (j : ℕ)
    → IsThere d m s n i after (Until most g) → s.opens (address n i) ≡ Some w → MayTest m (Until most g) i w s.rows j
    → ((y : Address) (r : Row) → s.rows y ≡ Some r → (IsIdle m r → ⊥) → HasOrder d n (Until most g) i y → SeenByTest d n i g j y)
    × ((y : Address) → SeenByTest d n i g j y → s.rows y ≡ f y)

-- THE STORE OF ONE VARIABLE. `writes` says what a row writes to it, if anything.
module _ {Row Begun Decision Verdict Value : Type 0} (d : Graph) (m : Source Row Begun Decision Verdict)
    (writes : Address → Row → Option Value) where
  abbrev pub write_at : Address → Option Row → Option Value
  write_at y None = None
  write_at y (Some r) = writes y r

  -- A leaf that ends writes its value over the one that is there.
  abbrev pub written : Event → State Row Begun Decision Verdict → Option Value → Option Value
  written (End n i) s v = or_else (write_at (address n i) (s.rows (address n i))) v
  written (Start n i) s v = v
  written (Try n i) s v = v
  written (Skip n i) s v = v
  written (Open n i) s v = v
  written (Begin n i) s v = v
  written (Test n i) s v = v
  written (Close n i) s v = v

  -- The list of events leads from s to s', and the store from v to v'.
  abbrev pub Stores : State Row Begun Decision Verdict → List Event → State Row Begun Decision Verdict → Option Value → Option Value
      → Type 0
  Stores s [] s' v v' = (s' ≡ s) × (v' ≡ v)
  Stores s (e ∷ es) s' v v' = (mid : State Row Begun Decision Verdict) × Step d m s e mid × Stores mid es s' (written e mid v) v'

  -- The premise on the rows f: only leaves that aren't Skipped write, and any two writers are in one order, or exclude one another.
  pub record OneOrder (f : Table Row) : Type 0 where
    pub idle : (y : Address) (r : Row) → IsIdle m r → writes y r ≡ None
    pub leaves : (y : Address) (r : Row) → (writes y r ≡ None → ⊥) → kind_of d y.name ≡ Some Leaf
    pub ordered : (x y : Address) (q r : Row) → f x ≡ Some q → f y ≡ Some r → (writes x q ≡ None → ⊥) → (writes y r ≡ None → ⊥)
        → (x ≡ y) ⊎ IsOrdered d x y

  -- The value is that of the last of the writers that have rows; or none has written, and there is no value.
  abbrev pub IsLastWritten : Table Row → Option Value → Type 0
  IsLastWritten t v =
      ((v ≡ None) × ((y : Address) (r : Row) → t y ≡ Some r → writes y r ≡ None))
      ⊎ ((y : Address) × (r : Row) × (t y ≡ Some r) × (writes y r ≡ v) × (v ≡ None → ⊥)
      × ((z : Address) (q : Row) → t z ≡ Some q → (writes z q ≡ None → ⊥) → (z ≡ y) ⊎ SeenIn d y z))

  -- The value is that of the last of the writers, in the rows f, that a point sees; or there is none, and no value.
  abbrev pub IsLastSeen : Table Row → (Address → Type 0) → Option Value → Type 0
  IsLastSeen f Sees v =
      ((v ≡ None) × ((y : Address) → Sees y → write_at y (f y) ≡ None))
      ⊎ ((y : Address) × Sees y × (write_at y (f y) ≡ v) × (v ≡ None → ⊥) × ((z : Address) → Sees z → (write_at z (f z) ≡ None → ⊥)
      → (z ≡ y) ⊎ SeenIn d y z))

  -- Each writer is in the action, ordered with it, or excludes it.
  abbrev pub WritersHaveOrder : Table Row → ℕ → Kind → List ℕ → Type 0
  WritersHaveOrder f n kind i = (y : Address) (r : Row) → f y ≡ Some r → (writes y r ≡ None → ⊥) → HasOrder d n kind i y

  -- As an action is decided, itself a writer or not, round writers or not, the store holds the value of the last writer that it sees.
  abbrev pub StoreHolds : Table Row → State Row Begun Decision Verdict → Option Value → Type 0
  StoreHolds f s v =
      (n : ℕ) (i : List ℕ) (after : List Need) (kind : Kind) → IsDecided d m s n i after kind → WritersHaveOrder f n kind i
      → IsLastSeen f (SeenIn d (address n i)) v

  -- And as an Until is tested that of the last that the test sees, in its iterations or outside.
  abbrev pub StoreHoldsAtTests : Table Row → State Row Begun Decision Verdict → Option Value → Type 0
  StoreHoldsAtTests f s v =
      (n : ℕ) (i : List ℕ) (after : List Need) (most : ℕ) (g : Graph) (w : Opening Decision Verdict) (j : ℕ)
      → IsThere d m s n i after (Until most g) → s.opens (address n i) ≡ Some w → MayTest m (Until most g) i w s.rows j
      → WritersHaveOrder f n (Until most g) i → IsLastSeen f (SeenByTest d n i g j) v

  -- And what a leaf's Start found is still there while it runs, to its End.
  abbrev pub StoreHoldsAtEnds : Table Row → State Row Begun Decision Verdict → Option Value → Type 0
  StoreHoldsAtEnds f s v =
      (n : ℕ) (i : List ℕ) (w : Running Begun) → s.running (address n i) ≡ Some w → WritersHaveOrder f n Leaf i
      → IsLastSeen f (SeenIn d (address n i)) v
